-- `plan_words::find::place_of` meets its contract: each turn halves what is left, and the measure is what is left.
-- Assumes nothing.
use mathlib.Core.Path.{◌≡◌, ap, ◌∙◌}
use Prim.Native.Nat.{◌+◌, ◌-◌, ◌/◌}
use native.Mathlib.Omega.{arith}
use Rattle.plan.specs.Find.{halved, given}
use Rattle.plan.proofs.Halving.{halve_first, halve_up, halve_down, halve_last}
use Rattle.plan_words.specs.Words.{plan_at}
use Rattle.plan_words.proofs.Said.{code_there}
use Rattle.plan_words.proofs.find.place_of.Goals as goal

pub loop-low-init : goal.loop-low-init
loop-low-init c =
    let sized : c.min-count.result ≡ given (plan_at c.args.plan.now) = omega (arith, c.count.ensures, c.min-count.ensures) in
    (omega (arith, sized), omega arith, halve_first _ _ _ (omega (arith, sized)))

pub loop-low-preserved-then-plan-middle : goal.loop-low-preserved-then-plan-middle
loop-low-preserved-then-plan-middle c =
    let loop = c.loop-low in
    let inv = loop.invariant in
    let middle = loop.low + (loop.high - loop.low) / 2 in
    let there = code_there c.args.plan.now middle (omega (arith, inv.0, inv.1, c.loop-low-test.true)) in
    (inv.0, inv.1, halve_up _ _ _ _ _ inv.2 c.loop-low-test.true (rw there at c.if-plan-middle.true))

pub loop-low-preserved : goal.loop-low-preserved
loop-low-preserved c =
    let loop = c.loop-low in
    let inv = loop.invariant in
    let middle = loop.low + (loop.high - loop.low) / 2 in
    let there = code_there c.args.plan.now middle (omega (arith, inv.0, inv.1, c.loop-low-test.true)) in
    (inv.0, omega (arith, inv.1, c.loop-low-test.true), halve_down _ _ _ _ _ inv.2 c.loop-low-test.true (rw there at c.if-plan-middle.false))

pub returns : goal.returns
returns c =
    let sized : c.min-count.result ≡ given (plan_at c.args.plan.now) = omega (arith, c.count.ensures, c.min-count.ensures) in
    halve_last _ _ _ _ _ c.loop-low.invariant.2 c.loop-low-test.false
    ∙ ap (halved (plan_at c.args.plan.now).destinations c.args.code 7 0) sized
