-- `changeback::declare` meets its contract: no CBD where no pair comes from a link of its own set, and else one that asks for a place.
-- Assumes nothing.
use Rattle.plan_words.specs.Words.{plan_at}
use Rattle.replies.specs.Reply.{number_of}
use Rattle.changeback.proofs.Declaring.{not_declared, is_declared}
use Rattle.changeback.proofs.declare.Goals as goal

pub returns-then-own-ge-NO_LINK : goal.returns-then-own-ge-NO_LINK
returns-then-own-ge-NO_LINK c =
    let a = c.args in
    let left = not_declared (plan_at a.plan.now) a.link a.from a.spans.now a.rings.now a.rows.now a.arrivals.now c.if-own-ge-NO_LINK.true in
    record { value = left.0; arrivals_value = left.1 }

pub returns : goal.returns
returns c =
    let a = c.args in
    let q = c.queue_management in
    let left =
    is_declared (plan_at a.plan.now) a.link a.from a.spans.now a.rings.now a.rows.now a.arrivals.now
    c.if-own-ge-NO_LINK.false c.adjacent_of.result c.slc_of.result (number_of q.result) q.new.spans q.new.rings q.new.rows q.new.arrivals
    c.adjacent_of.ensures c.slc_of.ensures (q.ensures.number, q.ensures.arrivals_value)
    in
    record { value = left.0; arrivals_value = left.1 }
