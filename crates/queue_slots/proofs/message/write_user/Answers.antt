-- `queue_slots::message::write_user` meets its contract: with all octets passed the message stands in the slot.
-- Assumes nothing.
use mathlib.Core.Path.{ap, ◌∙◌}
use Prim.Native.Nat.{◌*◌}
use lib.ListN.{length}
use lib.Seq.{sets, take_all}
use Rattle.queue_slots.proofs.Messages.{fits_there, user_one}
use Rattle.queue_slots.proofs.message.write_user.Goals as goal

pub returns-clause-octets_after : goal.returns-clause-octets_after
returns-clause-octets_after c =
    let a = c.args in
    let room = fits_there a.slot (length a.message.now) c.if-slot-ge192.false c.if-message-gt273.false in
    let done = user_one a.rows.now a.octets.now a.slot a.arrival a.point a.sls a.message.now room c.if-slot-ge192.false in
    let all = take_all c.loop-i.i a.message.now c.loop-i-test.false in
    c.loop-i.invariant.1 ∙ ap (sets a.octets.now (273 * a.slot)) all ∙ done.1.1
