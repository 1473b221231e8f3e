-- `management_orders::give_answer` meets its contract: all as it was with no answer, and with one what its making leaves.
-- Assumes nothing.
use borrow.Author.Tests.{not-true, not-false}
use Rattle.std.proofs.Common.{rules, Ok}
use Rattle.plan_words.specs.Words.{plan_at}
use Rattle.replies.specs.Areas.{areas}
use Rattle.management_orders.proofs.Carrying.{no_answer, answer_made}
use Rattle.management_orders.proofs.give_answer.Goals as goal

pub returns-then-not-step : goal.returns-then-not-step
returns-then-not-step c =
    let a = c.args in
    no_answer (plan_at a.plan.now) a.step
    (areas a.links.now a.marks.now a.spans.now a.rings.now a.rows.now a.arrivals.now a.reports.now)
    (not-true a.step.answers c.if-not-step.true)

pub returns-in_err-make : goal.returns-in_err-make
returns-in_err-make c =
    let a = c.args in
    let m = c.make in
    answer_made (plan_at a.plan.now) a.step
    (areas a.links.now a.marks.now a.spans.now a.rings.now a.rows.now a.arrivals.now a.reports.now)
    (not-false a.step.answers c.if-not-step.false) m.result m.new.spans m.new.rings m.new.rows m.new.arrivals
    (m.ensures.value, m.ensures.number, m.ensures.arrivals_value) c.from_residual.result (search rules)

pub returns : goal.returns
returns c =
    let a = c.args in
    let m = c.make in
    answer_made (plan_at a.plan.now) a.step
    (areas a.links.now a.marks.now a.spans.now a.rings.now a.rows.now a.arrivals.now a.reports.now)
    (not-false a.step.answers c.if-not-step.false) m.result m.new.spans m.new.rings m.new.rows m.new.arrivals
    (m.ensures.value, m.ensures.number, m.ensures.arrivals_value) (Ok tt) (search rules)
