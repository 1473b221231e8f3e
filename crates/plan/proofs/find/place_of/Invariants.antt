-- `plan::find::place_of` meets its contract: each turn halves what is left, and the measure is what is left.
-- Assumes nothing.
use Prim.Native.Nat.{◌-◌, ◌≤◌}
use Rattle.plan.proofs.Halving.{Halving}
use Rattle.plan.proofs.find.place_of.Given as goal

abbrev pub invariant-loop-low : goal.invariant-loop-low
invariant-loop-low l = (l.count ≤ 64) × (l.high ≤ l.count) × Halving l.destinations l.code l.count l.low l.high

abbrev pub decreases-loop-low : goal.decreases-loop-low
decreases-loop-low l = l.high - l.low
