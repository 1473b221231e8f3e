-- `route_access::accesses` meets its contract: the table is filled place by place.
-- Assumes nothing.
use mathlib.Core.Path.{refl, ◌∙◌}
use native.Mathlib.Omega.{arith}
use lib.ListN.{length-set}
use Rattle.plan_words.specs.Words.{plan_at}
use Rattle.route_access.specs.Change.{is_accessible}
use Rattle.route_access.proofs.Filled.{filled_none, filled_next, filled_all}
use Rattle.route_access.proofs.accesses.Goals as goal

pub loop-destination-init : goal.loop-destination-init
loop-destination-init c =
    let a = c.args in
    (refl, filled_none (is_accessible (plan_at a.plan.now) a.links.now a.marks.now) 64)

pub loop-destination-preserved : goal.loop-destination-preserved
loop-destination-preserved c =
    let l = c.loop-destination in
    let a = c.args in (
      length-set l.each l.destination c.accessible.result ∙ l.invariant.0,
      filled_next (is_accessible (plan_at a.plan.now) a.links.now a.marks.now) l.each l.destination c.accessible.result
          (omega (arith, c.given_of-destination-end.ensures, l.invariant.0, c.loop-destination-test.true)) c.accessible.ensures l.invariant.1,
    )

pub returns : goal.returns
returns c =
    let a = c.args in
    let l = c.loop-destination in
    filled_all (plan_at a.plan.now) a.links.now a.marks.now l.each l.destination
    (omega (arith, c.given_of-destination-end.ensures, c.loop-destination-test.false, l.auto.destination-end)) l.invariant.0 l.invariant.1
