-- `changeback::into_service` meets its contract: it is refused by its first reply or by that to its CBD, or the link comes
-- in.
-- Assumes nothing.
use Rattle.plan_words.specs.Words.{plan_at}
use Rattle.replies.specs.Areas.{areas}
use Rattle.replies.specs.Reply.{number_of}
use Rattle.replies.proofs.Numbers.{over, none, answers}
use Rattle.changeback.proofs.Entering.{refused_first, refused_lacking, comes_in}
use Rattle.changeback.proofs.into_service.Goals as goal

pub returns-in-Err : goal.returns-in-Err
returns-in-Err c =
    let a = c.args in
    let first = c.service_reply in
    refused_first (plan_at a.plan.now)
    (areas a.links.now a.marks.now a.spans.now a.rings.now a.rows.now a.arrivals.now a.reports.now)
    a.link (number_of first.result) first.ensures.number c.refused.result (over first.result c.in-Err.refusal c.in-Err.is)
    (answers first.result c.in-Err.refusal c.in-Err.is c.refused.result c.refused.ensures)

pub returns-in-Err-declare : goal.returns-in-Err-declare
returns-in-Err-declare c =
    let a = c.args in
    let first = c.service_reply in
    let from = c.sources_in-from in
    let d = c.declare in
    refused_lacking (plan_at a.plan.now)
    (areas a.links.now a.marks.now a.spans.now a.rings.now a.rows.now a.arrivals.now a.reports.now)
    a.link (number_of first.result) first.ensures.number (none first.result c.in_default.field-0 c.in_default.is) from.result from.ensures (number_of d.result) d.new.spans
    d.new.rings d.new.rows d.new.arrivals (d.ensures.value, d.ensures.arrivals_value) c.refused-in-Err-declare.result (over d.result c.in-Err-declare.refusal c.in-Err-declare.is)
    (answers d.result c.in-Err-declare.refusal c.in-Err-declare.is c.refused-in-Err-declare.result c.refused-in-Err-declare.ensures)

pub returns : goal.returns
returns c =
    let a = c.args in
    let first = c.service_reply in
    let from = c.sources_in-from in
    let d = c.declare in
    let table = c.accesses-before in
    let known = c.comes_as in
    let store = c.store_link in
    let told = c.report_changes in
    comes_in (plan_at a.plan.now)
    (areas a.links.now a.marks.now a.spans.now a.rings.now a.rows.now a.arrivals.now a.reports.now)
    a.link (number_of first.result) first.ensures.number (none first.result c.in_default.field-0 c.in_default.is) from.result from.ensures (number_of d.result) d.new.spans
    d.new.rings d.new.rows d.new.arrivals (d.ensures.value, d.ensures.arrivals_value) (none d.result c.in_default-declare.field-0 c.in_default-declare.is) known.result
    known.ensures store.new.links store.ensures table.result table.ensures c.done.result told.result
    told.new.reports (told.ensures.value, told.ensures.reports_after) c.done.ensures
