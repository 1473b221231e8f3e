-- The loop of `queue_slots::message::write_user`: the octets passed stand in the slot.
use Rattle.std.proofs.Common.{◌≡◌, ◌*◌, ◌≤◌, length, take}
use lib.Seq.{sets}
use Rattle.queue_slots.proofs.message.write_user.Given as goal

abbrev pub invariant-loop-i : goal.invariant-loop-i
invariant-loop-i l = (l.i ≤ length l.message) × (l.octets ≡ sets l.initial.octets (273 * l.slot) (take l.i l.message))
