-- `fate_places::stands` meets its contract: the places are searched in order. Assumes nothing.
use mathlib.Core.Path.{◌≡◌}
use mathlib.Core.Bool.{true, false}
use Prim.Native.Nat.{ℕ}
use lib.Dec.{eqb}
use Rattle.fate_places.specs.Places.{held_of, places, message_at}
use Rattle.fate_places.proofs.Seek.{Sought}
use Rattle.fate_places.proofs.stands.Given as goal

abbrev pub invariant-loop-place : goal.invariant-loop-place
invariant-loop-place l = (l.many ≡ places (held_of l.held) l.queue)
    × (Sought (λ (place : ℕ). eqb (message_at (held_of l.held) l.queue place).arrival l.arrival) (λ (k : ℕ). true) false l.many l.place)
