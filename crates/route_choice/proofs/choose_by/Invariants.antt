-- `route_choice::choose_by` meets its contract. The invariant of the walk over ranks: what is left of it yields the pair's link. The
-- measure is what is left.
-- Assumes nothing.
use mathlib.Core.Path.{◌≡◌}
use Prim.Native.Nat.{◌-◌, ◌≤◌}
use Rattle.route_serving.specs.State as State
use Rattle.plan_words.specs.Words.{plan_at}
use Rattle.route_choice.specs.Which.{link_from}
use Rattle.route_choice.proofs.Ranks.{onward}
use Rattle.route_choice.proofs.choose_by.Given as goal

abbrev pub invariant-ranks : goal.invariant-ranks
invariant-ranks l =
    (l.rank ≤ 4) × (onward (State.serves l.links l.need) (State.is_marked l.marks l.destination) (plan_at l.plan) l.sls l.routes l.rank
    ≡ link_from (State.serves l.links l.need) (State.is_marked l.marks l.destination) (plan_at l.plan) l.sls 0 l.routes)

abbrev pub decreases-ranks : goal.decreases-ranks
decreases-ranks l = 4 - l.rank
