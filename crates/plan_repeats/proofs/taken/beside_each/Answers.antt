-- `plan_repeats::taken::beside_each` meets its contract: the links are looked at in order. Assumes nothing.
use mathlib.Core.Path.{◌≡◌}
use mathlib.Core.Bool.{cond, ◌||◌}
use native.Mathlib.Omega.{arith}
use Prim.Native.Nat.{◌+◌, ◌<◌}
use lib.ListN.{length, get_or, take, length-take}
use lib.Seq.{get_or-take}
use borrow.Author.Tests.{lt-ltb, le-ltb}
use Rattle.plan.specs.Data.{link_at}
use Rattle.plan_repeats.proofs.Searches.{look_on, look_taken, look_free}
use Rattle.plan_repeats.proofs.taken.beside_each.Invariants.{same, less}
use Rattle.plan_repeats.proofs.taken.beside_each.Goals as goal
use Rattle.plan_repeats.proofs.taken.beside_each.Goals.{then-of-slc, else-of-slc, then-taken, else-taken}

pub loop-i-preserved : goal.loop-i-preserved
loop-i-preserved c =
    let loop = c.loop-i in
    let a = c.args in
    let there : loop.i < length (take a.count a.links) = omega (arith, loop.invariant.1, c.loop-i-test.true) in
    let inside : loop.i < a.count = omega (arith, length-take a.count a.links, there) in
    let of-is : (link_at a.plan (get_or (take a.count a.links) loop.i 0)).slc ≡ c.slc_of-of.result = simp (get_or-take a.count a.links loop.i 0 inside, c.slc_of-of.ensures) in
    let lower-is : c.if-of-slc.lower ≡ cond (less a.plan a.slc (get_or (take a.count a.links) loop.i 0)) (loop.lower + 1) loop.lower =
    elim c.if-of-slc.branch [
      | then-of-slc w ↦ simp (of-is, lt-ltb _ _ w.if-of-slc.true, w.lower-is)
      | else-of-slc w ↦ simp (of-is, le-ltb _ _ w.if-of-slc.false, w.lower-is)
    ]
    in
    let taken-is : c.if-taken.taken ≡ (loop.taken || same a.plan a.slc (get_or (take a.count a.links) loop.i 0)) =
    elim c.if-taken.branch [ then-taken w ↦ simp (w.if-taken.true, w.taken-is) | else-taken w ↦ simp (w.if-taken.false, of-is, w.taken-is) ]
    in
    (loop.invariant.0, loop.invariant.1, look_on _ _ _ loop.i loop.lower loop.taken loop.invariant.2 _ _ 0 there lower-is taken-is)

pub returns-then-taken-2 : goal.returns-then-taken-2
returns-then-taken-2 c =
    let loop = c.loop-i in
    look_taken _ _ _ loop.i loop.lower loop.taken loop.invariant.2 (omega (arith, loop.invariant.1, c.loop-i-test.false)) c.if-taken-2.true

pub returns-else-taken-2 : goal.returns-else-taken-2
returns-else-taken-2 c =
    let loop = c.loop-i in
    look_free _ _ _ loop.i loop.lower loop.taken loop.invariant.2 (omega (arith, loop.invariant.1, c.loop-i-test.false)) c.if-taken-2.false
