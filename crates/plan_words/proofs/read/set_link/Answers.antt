-- `plan_words::read::set_link` meets its contract. Assumes nothing.
use mathlib.Core.Path.{sym}
use lib.ListN.{get_or-eq_default}
use native.Mathlib.Omega.{arith}
use Rattle.plan.specs.Data.{set_at}
use Rattle.plan_words.specs.Words.{plan_at}
use Rattle.plan_words.proofs.Said.{link_of_set, set_past, eight_places}
use Rattle.plan_words.proofs.read.set_link.Goals as goal

pub returns-then-set-ge8 : goal.returns-then-set-ge8
returns-then-set-ge8 c = let a = c.args in simp (set_past a.plan.now a.set c.if-set-ge8.true)

pub returns-then-place-ge8 : goal.returns-then-place-ge8
returns-then-place-ge8 c =
    let a = c.args in
    let eight = eight_places a.plan.now a.set c.if-set-ge8.false in
    sym (get_or-eq_default (set_at (plan_at a.plan.now) a.set).links 0 {n = a.place} (omega (arith, eight)))

pub returns : goal.returns
returns c = sym (link_of_set _ _ _ c.if-set-ge8.false c.if-place-ge8.false)
