-- `plan::find::place_of` meets its contract: each turn halves what is left, and the measure is what is left.
-- Assumes nothing.
use native.Mathlib.Omega.{arith}
use mathlib.Core.Path.{ap, ◌∙◌}
use Rattle.plan.specs.Find.{halved}
use Rattle.plan.proofs.Halving.{halve_first, halve_up, halve_down, halve_last}
use Rattle.plan.proofs.find.place_of.Goals as goal

pub loop-low-init : goal.loop-low-init
loop-low-init c = (omega (arith, c.min-count.ensures), omega arith, halve_first _ _ _ (omega (arith, c.min-count.ensures)))

pub loop-low-preserved-then-d-code : goal.loop-low-preserved-then-d-code
loop-low-preserved-then-d-code c =
    let inv = c.loop-low.invariant in
    (inv.0, inv.1, halve_up _ _ _ _ _ inv.2 c.loop-low-test.true c.if-d-code.true)

pub loop-low-preserved : goal.loop-low-preserved
loop-low-preserved c =
    let inv = c.loop-low.invariant in
    (inv.0, omega (arith, inv.1, c.loop-low-test.true), halve_down _ _ _ _ _ inv.2 c.loop-low-test.true c.if-d-code.false)

pub returns : goal.returns
returns c =
    halve_last _ _ _ _ _ c.loop-low.invariant.2 c.loop-low-test.false
    ∙ ap (halved c.args.plan.destinations c.args.code 7 0) c.min-count.ensures
