-- `fate_places::dropped` meets its contract: the records are searched in order. Assumes nothing.
use mathlib.Core.Path.{◌≡◌}
use mathlib.Core.Bool.{true, false}
use Prim.Native.Nat.{ℕ, ◌/◌, min}
use lib.ListN.{length}
use Rattle.fate_places.specs.Places.{tells_drop}
use Rattle.fate_places.proofs.Seek.{Sought}
use Rattle.fate_places.proofs.dropped.Given as goal

abbrev pub invariant-loop-k : goal.invariant-loop-k
invariant-loop-k l = (l.count ≡ min l.fn.count (length l.reports / 2)) × (Sought (tells_drop l.reports l.arrival) (λ (k : ℕ). true) false l.count l.k)
