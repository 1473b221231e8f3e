-- `rerouting::transfer::transfer` meets its contract: it has no effect, or the flags change and the access that changed is told.
-- Assumes nothing.
use Rattle.plan_words.specs.Words.{plan_at}
use Rattle.replies.specs.Areas.{areas}
use Rattle.rerouting.proofs.Transferring.{no_effect, takes_effect}
use Rattle.rerouting.proofs.transfer.transfer.Goals as goal

pub returns-then-not-counts : goal.returns-then-not-counts
returns-then-not-counts c =
    let a = c.args in
    no_effect (plan_at a.plan.now) a.point a.x a.prohibits
    (areas a.links.now a.marks.now a.spans.now a.rings.now a.rows.now a.arrivals.now a.reports.now)
    c.counts.result c.counts.ensures c.if-not-counts.true c.refused.result c.refused.ensures

pub returns : goal.returns
returns c =
    let a = c.args in
    let told = c.report_changes-told in
    takes_effect (plan_at a.plan.now) a.point a.x a.prohibits
    (areas a.links.now a.marks.now a.spans.now a.rings.now a.rows.now a.arrivals.now a.reports.now)
    c.counts.result c.counts.ensures c.if-not-counts.false
    c.accesses-before.result c.accesses-before.ensures c.mark.new.marks c.mark.ensures told.result told.new.reports
    (told.ensures.value, told.ensures.reports_after) c.done.result c.done.ensures
