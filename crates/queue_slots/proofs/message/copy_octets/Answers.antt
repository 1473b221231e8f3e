-- `queue_slots::message::copy_octets` meets its contract: a turn sets the next octet, and with all passed they stand at the start.
-- Assumes nothing.
use mathlib.Core.Path.{sym, ap, ◌∙◌}
use mathlib.Core.List.{List}
use Prim.Native.Nat.{ℕ, ◌+◌, ◌*◌}
use native.Mathlib.Nat.{zero-add}
use native.Mathlib.Omega.{arith}
use lib.ListN.{get_or, set}
use lib.Seq.{sets, take_all}
use Rattle.queue_slots.specs.Message.{octets_at}
use Rattle.queue_rings.proofs.Runs.{sets_next}
use Rattle.queue_slots.proofs.Messages.{fits_there, octets_at_lem, octets_length, copy_all, copy_set}
use Rattle.queue_slots.proofs.message.copy_octets.Goals as goal

pub loop-i-preserved : goal.loop-i-preserved
loop-i-preserved c =
    let l = c.loop-i in
    let a = c.args in
    let octets : List ℕ = octets_at a.octets.now a.slot a.size in
    let octet = get_or a.octets.now (273 * a.slot + l.i) 0 in
    let there = octets_at_lem a.octets.now a.slot a.size l.i c.if-slot-ge192.false c.loop-i-test.true in
    let all = octets_length a.octets.now a.slot a.size in
    let next = sets_next octets a.out.now 0 l.i octet (omega arith) (sym there) in
    (omega arith, ap (λ (s : List ℕ). set s l.i octet) l.invariant.1 ∙ simp zero-add at next)

pub returns-clause-out_after : goal.returns-clause-out_after
returns-clause-out_after c =
    let l = c.loop-i in
    let a = c.args in
    let octets : List ℕ = octets_at a.octets.now a.slot a.size in
    let all = octets_length a.octets.now a.slot a.size in
    let fit = fits_there a.slot a.size c.if-slot-ge192.false c.if-size-gt273.false in
    let done = copy_set a.octets.now a.slot a.size a.out.now fit c.if-out-size.false in
    l.invariant.1 ∙ ap (sets a.out.now 0) (take_all l.i octets (omega arith)) ∙ done

pub returns-clause-value : goal.returns-clause-value
returns-clause-value c =
    let a = c.args in
    let fit = fits_there a.slot a.size c.if-slot-ge192.false c.if-size-gt273.false in
    (copy_all a.octets.now a.slot a.size a.out.now fit c.if-out-size.false).0
