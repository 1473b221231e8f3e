-- `route_access::accesses` meets its contract. The loop's invariant: the places passed say whether their destinations are
-- accessible, and the others aren't set.
-- Assumes nothing.
use mathlib.Core.Path.{◌≡◌}
use mathlib.Core.Bool.{false, ◌&&◌}
use Prim.Native.Nat.{ℕ}
use lib.Dec.{ltb}
use lib.ListN.{length, get_or}
use Rattle.plan_words.specs.Words.{plan_at}
use Rattle.route_access.specs.Change.{is_accessible}
use Rattle.route_access.proofs.accesses.Given as goal

abbrev pub invariant-loop-destination : goal.invariant-loop-destination
invariant-loop-destination l =
    (length l.each ≡ 64)
    × ((k : ℕ) → get_or l.each k false ≡ (ltb k l.destination && is_accessible (plan_at l.plan) l.links l.marks k))
