-- A whole and its parts: queues, an area and a count that are each those of a state make up this, and what is the same.
-- Assumes nothing.
use mathlib.Core.Path.{◌≡◌, ap, ◌∙◌}
use mathlib.Core.List.{List}
use Prim.Native.Nat.{ℕ}
use Rattle.reports.specs.Report.{log}
use Rattle.queue_heads.specs.Head.{Queues, both}
use Rattle.queue_retiring.specs.Leave.{State, state}

pub state_whole : (spans rings area : List ℕ) (count : ℕ) {one other : State} → one ≡ other → both spans rings ≡ one.queues
    → area ≡ one.log.area → count ≡ one.log.count → state spans rings area count ≡ other
state_whole spans rings area count {one} same queues-are area-is count-is =
    ap (λ (q : Queues). record { queues = q; log = log area count }) queues-are
    ∙ ap (λ (w : List ℕ). record { queues = one.queues; log = log w count }) area-is
    ∙ ap (λ (n : ℕ). record { queues = one.queues; log = log one.log.area n }) count-is
    ∙ same

-- a state that is one is the other that is the same
pub state_is : (now : State) {one other : State} → one ≡ other → now ≡ one → now ≡ other
state_is now same is = is ∙ same
