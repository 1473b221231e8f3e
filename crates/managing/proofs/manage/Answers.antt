-- `managing::manage` meets its contract: in each arm the message has that arm's effect, and what is called leaves what it is to leave.
-- Assumes nothing.
use Rattle.plan_words.specs.Words.{plan_at}
use Rattle.replies.specs.Areas.{areas}
use Rattle.changeback_waiting.proofs.Answering.{in_all}
use Rattle.managing.specs.declared.Effect.TheVariants.{Carries, Answers, Transfers}
use Rattle.managing.proofs.Managing.{as_effect}
use Rattle.managing.proofs.manage.Goals as goal

pub returns-in-Carries : goal.returns-in-Carries
returns-in-Carries c =
    let a = c.args in
    let out = c.carry_out in
    as_effect (plan_at a.plan.now) a.arriving a.fsn a.order.point a.order.slc
    (areas a.links.now a.marks.now a.spans.now a.rings.now a.rows.now a.arrivals.now a.reports.now) a.order.message
    c.ask.result c.ask.ensures (Carries c.in-Carries.step) c.in-Carries.is out.result
    (areas out.new.links a.marks.now out.new.spans out.new.rings out.new.rows out.new.arrivals out.new.reports) out.ensures

pub returns-in-Answers : goal.returns-in-Answers
returns-in-Answers c =
    let a = c.args in
    let out = c.answer_by in
    as_effect (plan_at a.plan.now) a.arriving a.fsn a.order.point a.order.slc
    (areas a.links.now a.marks.now a.spans.now a.rings.now a.rows.now a.arrivals.now a.reports.now) a.order.message
    c.ask.result c.ask.ensures (Answers c.in-Answers.code) c.in-Answers.is out.result
    (areas out.new.links a.marks.now a.spans.now a.rings.now a.rows.now a.arrivals.now a.reports.now)
    (in_all (plan_at a.plan.now) a.order.point a.order.slc c.in-Answers.code
    (areas a.links.now a.marks.now a.spans.now a.rings.now a.rows.now a.arrivals.now a.reports.now) out.result out.new.links out.ensures)

pub returns-in-Transfers : goal.returns-in-Transfers
returns-in-Transfers c =
    let a = c.args in
    let out = c.transfer in
    as_effect (plan_at a.plan.now) a.arriving a.fsn a.order.point a.order.slc
    (areas a.links.now a.marks.now a.spans.now a.rings.now a.rows.now a.arrivals.now a.reports.now) a.order.message
    c.ask.result c.ask.ensures (Transfers c.in-Transfers.about) c.in-Transfers.is out.result
    (areas a.links.now out.new.marks a.spans.now a.rings.now a.rows.now a.arrivals.now out.new.reports) out.ensures
