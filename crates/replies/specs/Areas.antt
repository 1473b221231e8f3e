-- The lent areas that an event changes, and what it leaves. The octets of user messages lie apart: only queueing one writes there.
use Rattle.std.specs.Prelude.{ℕ, ◌≡◌, List, []}
use Rattle.replies.specs.declared.Answer.{Answer}
use Rattle.replies.specs.Reply.{plain, if_done}

pub record Areas : Type 0 where
  -- the records of links, and the flags of destinations
  pub links : List ℕ
  pub marks : List ℕ
  -- the queues: head and count of each ring, and the rings
  pub spans : List ℕ
  pub rings : List ℕ
  -- what is known of each held message, and the next arrival number
  pub rows : List ℕ
  pub arrivals : List ℕ
  -- the report area
  pub reports : List ℕ

-- all areas, one by one
abbrev pub areas : List ℕ → List ℕ → List ℕ → List ℕ → List ℕ → List ℕ → List ℕ → Areas
areas links marks spans rings rows arrivals reports =
    record {
      links = links;
      marks = marks;
      spans = spans;
      rings = rings;
      rows = rows;
      arrivals = arrivals;
      reports = reports;
    }

-- the areas lent to a call, as they stand before it and after it; one that is lent to be read is the same in both
abbrev pub before : List ℕ → List ℕ → List ℕ → List ℕ → List ℕ → List ℕ → List ℕ → Areas
before links marks spans rings rows arrivals reports =
    areas links marks spans rings rows arrivals reports

abbrev pub after : List ℕ → List ℕ → List ℕ → List ℕ → List ℕ → List ℕ → List ℕ → Areas
after links marks spans rings rows arrivals reports =
    areas links marks spans rings rows arrivals reports

-- the same of a call that gives no arrival number, and of one that reports nothing: it isn't lent that area
abbrev pub before_unnumbered : List ℕ → List ℕ → List ℕ → List ℕ → List ℕ → List ℕ → Areas
before_unnumbered links marks spans rings rows reports =
    areas links marks spans rings rows [] reports

abbrev pub after_unnumbered : List ℕ → List ℕ → List ℕ → List ℕ → List ℕ → List ℕ → Areas
after_unnumbered links marks spans rings rows reports =
    areas links marks spans rings rows [] reports

abbrev pub before_unreported : List ℕ → List ℕ → List ℕ → List ℕ → List ℕ → List ℕ → Areas
before_unreported links marks spans rings rows arrivals =
    areas links marks spans rings rows arrivals []

abbrev pub after_unreported : List ℕ → List ℕ → List ℕ → List ℕ → List ℕ → List ℕ → Areas
after_unreported links marks spans rings rows arrivals =
    areas links marks spans rings rows arrivals []

-- what an event answers, and the areas after it
pub record Outcome : Type 0 where
  pub answer : Answer
  pub after : Areas

abbrev pub outcome : Answer → Areas → Outcome
outcome answer after = record { answer = answer; after = after }

-- "unchanged" (R48): a reply that leaves all areas as they were
abbrev pub refused : ℕ → Areas → Outcome
refused reply before = outcome (plain reply) before

-- what an event does where its reply is 0, and that it is refused where it isn't
abbrev pub judged : ℕ → Outcome → Areas → Outcome
judged reply done before = if_done reply done (refused reply before)

-- the areas with other links, or with other flags
abbrev pub with_links : Areas → List ℕ → Areas
with_links a links = areas links a.marks a.spans a.rings a.rows a.arrivals a.reports

abbrev pub with_marks : Areas → List ℕ → Areas
with_marks a marks = areas a.links marks a.spans a.rings a.rows a.arrivals a.reports

-- an answer, and areas, are those of an outcome (R210, R211)
pub record Leaves (o : Outcome) (r : Answer) (a : Areas) : Type 0 where
  pub answers : r ≡ o.answer
  pub in_links : a.links ≡ o.after.links
  pub in_marks : a.marks ≡ o.after.marks
  pub in_spans : a.spans ≡ o.after.spans
  pub in_rings : a.rings ≡ o.after.rings
  pub in_rows : a.rows ≡ o.after.rows
  pub in_arrivals : a.arrivals ≡ o.after.arrivals
  pub in_reports : a.reports ≡ o.after.reports
