-- Everything that a call can change: the areas, the octets of user messages, and the lent output.
use Rattle.std.specs.Prelude.{ℕ, ◌≡◌, List}
use Rattle.replies.specs.declared.Answer.{Answer}
use Rattle.replies.specs.Areas.{Areas, Outcome, areas, before, after}
use Rattle.areas.specs.declared.Areas.{Areas as Lent}

pub record Memory : Type 0 where
  pub areas : Areas
  pub octets : List ℕ
  pub out : List ℕ

abbrev pub memory : Areas → List ℕ → List ℕ → Memory
memory areas octets out = record { areas = areas; octets = octets; out = out }

-- all that is lent to a call, as it stands before it and after it
abbrev pub memory_before : List ℕ → List ℕ → List ℕ → List ℕ → List ℕ → List ℕ → List ℕ → List ℕ → List ℕ → Memory
memory_before links marks spans rings rows arrivals reports octets out =
    memory (before links marks spans rings rows arrivals reports) octets out

abbrev pub memory_after : List ℕ → List ℕ → List ℕ → List ℕ → List ℕ → List ℕ → List ℕ → List ℕ → List ℕ → Memory
memory_after links marks spans rings rows arrivals reports octets out =
    memory (after links marks spans rings rows arrivals reports) octets out

-- the memory of the areas that are lent together, with the reports and the output of a call
abbrev pub memory_of : Lent → List ℕ → List ℕ → Memory
memory_of lent reports out =
    memory
    (areas lent.links.now lent.marks.now lent.spans.now lent.rings.now lent.rows.now lent.arrivals.now reports)
    lent.octets.now
    out

-- what a call answers, and the memory after it
pub record Result : Type 0 where
  pub answer : Answer
  pub after : Memory

abbrev pub result : Answer → Areas → List ℕ → List ℕ → Result
result answer areas octets out = record { answer = answer; after = memory areas octets out }

-- an event that changes areas alone
abbrev pub of_areas : Outcome → Memory → Result
of_areas o m = result o.answer o.after m.octets m.out

-- an answer, and a memory, are those of a result (R210, R211)
pub record Gives (expected : Result) (r : Answer) (m : Memory) : Type 0 where
  pub answers : r ≡ expected.answer
  pub in_links : m.areas.links ≡ expected.after.areas.links
  pub in_marks : m.areas.marks ≡ expected.after.areas.marks
  pub in_spans : m.areas.spans ≡ expected.after.areas.spans
  pub in_rings : m.areas.rings ≡ expected.after.areas.rings
  pub in_rows : m.areas.rows ≡ expected.after.areas.rows
  pub in_arrivals : m.areas.arrivals ≡ expected.after.areas.arrivals
  pub in_reports : m.areas.reports ≡ expected.after.areas.reports
  pub in_octets : m.octets ≡ expected.after.octets
  pub in_out : m.out ≡ expected.after.out
