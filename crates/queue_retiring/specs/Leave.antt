-- Messages that leave a queue for good: retired, or dropped with a report.
use Rattle.std.specs.Prelude.{ℕ, cond, List}
use Rattle.area_slots.specs.SlotRows.{slot_at}
use Rattle.reports.specs.Report.{Log, log, told}
use Rattle.queue_heads.specs.Head.{Queues, both, head_of, freed, repeat}

-- the queues, and what is reported of them
pub record State : Type 0 where
  pub queues : Queues
  pub log : Log

abbrev pub state : List ℕ → List ℕ → List ℕ → ℕ → State
state spans rings area count = record { queues = both spans rings; log = log area count }

-- that of the areas lent to a call, as they stand before it and after it, with so many reports
abbrev pub state_before : List ℕ → List ℕ → List ℕ → ℕ → State
state_before spans rings reports count = state spans rings reports count

abbrev pub state_after : List ℕ → List ℕ → List ℕ → ℕ → State
state_after spans rings reports count = state spans rings reports count

-- "Messages up to B are retired" (R109): the first so many of a ring
unfoldable pub retired : ℕ → ℕ → Queues → Queues
retired ring many queues = repeat (λ (q : Queues). freed q ring) many queues

-- the first message of a ring is dropped: "(arrival number, reason)" (R138) is reported
unfoldable pub dropped_one : List ℕ → ℕ → ℕ → State → State
dropped_one rows ring reason now =
    cond (head_of now.queues ring).found
    (record {
      queues = freed now.queues ring;
      log = told now.log reason (slot_at rows (head_of now.queues ring).slot).arrival;
    })
    now

-- the first so many are dropped, "in queue order" (R138)
unfoldable pub dropped : List ℕ → ℕ → ℕ → ℕ → State → State
dropped rows ring reason many now = repeat (dropped_one rows ring reason) many now
