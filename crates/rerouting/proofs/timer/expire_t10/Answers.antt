-- `rerouting::timer::expire_t10` meets its contract: it is refused, or the RST is made where it finds place and number.
-- Assumes nothing.
use mathlib.Core.List.{[]}
use mathlib.Core.Path.{sym, ap, ◌∙◌}
use Rattle.plan_words.specs.Words.{plan_at}
use Rattle.replies.specs.Reply.{plain, number_of}
use Rattle.replies.proofs.Numbers.{over, none, answers}
use Rattle.replies.specs.Areas.{areas}
use Rattle.rerouting.proofs.Expiring.{t10_refused, t10_sends}
use Rattle.rerouting.proofs.timer.expire_t10.Goals as goal

pub returns-in-Err : goal.returns-in-Err
returns-in-Err c =
    let a = c.args in
    let reply = c.t10_reply in
    t10_refused (plan_at a.plan.now) (areas a.links.now a.marks.now a.spans.now a.rings.now a.rows.now a.arrivals.now []) a.x a.set
    (number_of reply.result) reply.ensures.number (over reply.result c.in-Err.refusal c.in-Err.is) c.refused.result
    (answers reply.result c.in-Err.refusal c.in-Err.is c.refused.result c.refused.ensures)

pub returns-in-Err-make : goal.returns-in-Err-make
returns-in-Err-make c =
    let a = c.args in
    let reply = c.t10_reply in
    let sent = c.make in
    t10_sends (plan_at a.plan.now) (areas a.links.now a.marks.now a.spans.now a.rings.now a.rows.now a.arrivals.now []) a.x a.set
    (number_of reply.result) reply.ensures.number (none reply.result c.in_default.field-0 c.in_default.is) c.test_of-test.result
    c.test_of-test.ensures sent.result sent.new.spans sent.new.rings sent.new.rows sent.new.arrivals
    (sent.ensures.value, sent.ensures.number, sent.ensures.arrivals_value) c.refused-in-Err-make.result
    (answers sent.result c.in-Err-make.refusal c.in-Err-make.is c.refused-in-Err-make.result c.refused-in-Err-make.ensures)

pub returns : goal.returns
returns c =
    let a = c.args in
    let reply = c.t10_reply in
    let sent = c.make in
    t10_sends (plan_at a.plan.now) (areas a.links.now a.marks.now a.spans.now a.rings.now a.rows.now a.arrivals.now []) a.x a.set
    (number_of reply.result) reply.ensures.number (none reply.result c.in_default.field-0 c.in_default.is) c.test_of-test.result
    c.test_of-test.ensures sent.result sent.new.spans sent.new.rings sent.new.rows sent.new.arrivals
    (sent.ensures.value, sent.ensures.number, sent.ensures.arrivals_value) c.done.result
    (c.done.ensures ∙ ap plain (sym (ap number_of c.in_default-make.is)))
