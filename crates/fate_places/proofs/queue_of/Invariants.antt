-- `fate_places::queue_of` meets its contract: the queues are searched in order. Assumes nothing.
use Prim.Native.Nat.{ℕ}
use Rattle.fate_places.specs.Places.{held_of, stands, nowhere}
use Rattle.fate_places.proofs.Seek.{Sought}
use Rattle.fate_places.proofs.queue_of.Given as goal

abbrev pub invariant-loop-queue : goal.invariant-loop-queue
invariant-loop-queue l = Sought (λ (queue : ℕ). stands (held_of l.held) queue l.arrival) (λ (k : ℕ). k) nowhere 33 l.queue
