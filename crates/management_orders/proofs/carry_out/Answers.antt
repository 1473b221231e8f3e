-- `management_orders::carry_out` meets its contract: a step that asks nothing, one whose answer finds no place, one with no link that goes
-- out, and one with one.
-- Assumes nothing.
use Rattle.std.proofs.Common.{rules}
use Rattle.plan_words.specs.Words.{plan_at}
use Rattle.replies.specs.Reply.{number_of}
use Rattle.replies.proofs.Numbers.{over, none, answers}
use Rattle.replies.specs.Areas.{areas}
use Rattle.management_orders.proofs.Carrying.{asks_nothing, answer_lacking, no_end, link_ended}
use Rattle.management_orders.proofs.carry_out.Goals as goal

pub returns-then-step-gt0 : goal.returns-then-step-gt0
returns-then-step-gt0 c =
    let a = c.args in
    asks_nothing (plan_at a.plan.now) a.step
    (areas a.links.now a.marks.now a.spans.now a.rings.now a.rows.now a.arrivals.now a.reports.now)
    c.if-step-gt0.true _ c.plain.ensures

pub returns-then-not-step : goal.returns-then-not-step
returns-then-not-step c =
    let a = c.args in
    let give = c.give_answer in
    no_end (plan_at a.plan.now) a.step
    (areas a.links.now a.marks.now a.spans.now a.rings.now a.rows.now a.arrivals.now a.reports.now)
    c.if-step-gt0.false (number_of give.result) give.new.spans give.new.rings give.new.rows give.new.arrivals give.ensures
    (search (rules, none)) (search rules) c.done.result c.done.ensures

pub returns : goal.returns
returns c =
    let a = c.args in
    let give = c.give_answer in
    let out = c.end_service in
    link_ended (plan_at a.plan.now) a.step
    (areas a.links.now a.marks.now a.spans.now a.rings.now a.rows.now a.arrivals.now a.reports.now)
    c.if-step-gt0.false (number_of give.result) give.new.spans give.new.rings give.new.rows give.new.arrivals give.ensures
    (search (rules, none)) (search rules) out.result out.new.reports out.new.links out.new.spans out.new.rings
    (out.ensures.result_value, out.ensures.links_value) c.done-2.result c.done-2.ensures

pub returns-in-Err : goal.returns-in-Err
returns-in-Err c =
    let a = c.args in
    let give = c.give_answer in
    answer_lacking (plan_at a.plan.now) a.step
    (areas a.links.now a.marks.now a.spans.now a.rings.now a.rows.now a.arrivals.now a.reports.now)
    c.if-step-gt0.false (number_of give.result) give.new.spans give.new.rings give.new.rows give.new.arrivals give.ensures
    (over give.result c.in-Err.refusal c.in-Err.is) c.refused.result
    (answers give.result c.in-Err.refusal c.in-Err.is c.refused.result c.refused.ensures)
