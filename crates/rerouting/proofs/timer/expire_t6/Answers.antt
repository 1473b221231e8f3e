-- `rerouting::timer::expire_t6` meets its contract: it is refused, or T6 is stopped and then what was held apart moves.
-- Assumes nothing.
use mathlib.Core.List.{[]}
use Rattle.plan_words.specs.Words.{plan_at}
use Rattle.replies.specs.Reply.{number_of}
use Rattle.replies.proofs.Numbers.{over, none, answers}
use Rattle.replies.specs.Areas.{areas}
use Rattle.rerouting.proofs.Expiring.{t6_short, t6_refused, t6_ends}
use Rattle.rerouting.proofs.timer.expire_t6.Goals as goal

pub returns-then-short : goal.returns-then-short
returns-then-short c =
    let a = c.args in
    t6_short (plan_at a.plan.now) (areas a.links.now a.marks.now a.spans.now a.rings.now a.rows.now [] a.reports.now) a.x
    c.short.result c.short.ensures c.if-short.true c.refused.result c.refused.ensures

pub returns-in-Err : goal.returns-in-Err
returns-in-Err c =
    let a = c.args in
    let reply = c.timer_reply in
    t6_refused (plan_at a.plan.now) (areas a.links.now a.marks.now a.spans.now a.rings.now a.rows.now [] a.reports.now) a.x
    c.short.result c.short.ensures c.if-short.false (number_of reply.result) reply.ensures.number (over reply.result c.in-Err.refusal c.in-Err.is)
    c.refused-in-Err.result (answers reply.result c.in-Err.refusal c.in-Err.is c.refused-in-Err.result c.refused-in-Err.ensures)

pub returns : goal.returns
returns c =
    let a = c.args in
    let reply = c.timer_reply in
    t6_ends (plan_at a.plan.now) (areas a.links.now a.marks.now a.spans.now a.rings.now a.rows.now [] a.reports.now) a.x
    c.short.result c.short.ensures c.if-short.false (number_of reply.result) reply.ensures.number (none reply.result c.in_default.field-0 c.in_default.is) c.place_of.result
    c.place_of.ensures c.set_flag.new.marks c.set_flag.ensures c.release.new.spans c.release.new.rings
    c.release.new.reports c.release.result c.release.ensures c.done.result c.done.ensures
