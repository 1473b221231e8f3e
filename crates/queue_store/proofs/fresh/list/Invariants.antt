-- The loop of `queue_store::fresh::list`: the places passed hold the slots in order.
use Rattle.std.proofs.Common.{◌≡◌, ◌*◌, take}
use lib.Seq.{sets}
use Rattle.queue_rings.specs.Run.{run}
use Rattle.queue_store.specs.Fresh.{in_order}
use Rattle.queue_store.proofs.fresh.list.Given as goal

abbrev pub invariant-loop-place : goal.invariant-loop-place
invariant-loop-place l = l.rings ≡ sets l.initial.rings (256 * l.ring) (take l.place (run (in_order l.first) 0 l.size))
