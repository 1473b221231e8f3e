-- The loop of `queue_slots::message::copy_octets`: the octets passed stand at the start of the output.
use Rattle.std.proofs.Common.{◌≡◌, ◌≤◌, take}
use lib.Seq.{sets}
use Rattle.queue_slots.specs.Message.{octets_at}
use Rattle.queue_slots.proofs.message.copy_octets.Given as goal

abbrev pub invariant-loop-i : goal.invariant-loop-i
invariant-loop-i l = (l.i ≤ l.size) × (l.out ≡ sets l.initial.out 0 (take l.i (octets_at l.octets l.slot l.size)))
