-- `route_access::report_changes` meets its contract: each turn tells one destination.
-- Assumes nothing.
use mathlib.Core.Path.{ap, ◌∙◌}
use Prim.Native.Nat.{ℕ}
use Rattle.plan_words.specs.Words.{plan_at}
use Rattle.reports.specs.Report.{log}
use Rattle.route_access.proofs.Told.{by_parts, told_first, told_next, told_last}
use Rattle.route_access.proofs.report_changes.Invariants.{telling}
use Rattle.route_access.proofs.report_changes.Goals as goal

pub loop-destination-init : goal.loop-destination-init
loop-destination-init c = told_first _ _ _ c.given_of-destination-end.result _

pub loop-destination-preserved : goal.loop-destination-preserved
loop-destination-preserved c =
    let l = c.loop-destination in
    let one = c.report_one-told in
    let code = c.code_of-code in
    told_next _ _ _ l.destination _ (log l.reports l.told) c.accessible-after.result code.result _ one.result
    c.loop-destination-test.true c.accessible-after.ensures code.ensures one.ensures.value one.ensures.reports_after
    ∙ l.invariant

pub returns : goal.returns
returns c =
    let a = c.args in
    let l = c.loop-destination in
    let all = c.given_of-destination-end in
    let parts =
    by_parts
    (told_last _ _ _ l.destination all.result (log l.reports l.told) c.loop-destination-test.false
    ∙ l.invariant
    ∙ ap
    (λ (n : ℕ). telling (plan_at a.plan.now) a.links.now a.marks.now a.before 0 n (log a.reports.now a.count))
    all.ensures)
    in
    record { value = parts.0; reports_after = parts.1 }
