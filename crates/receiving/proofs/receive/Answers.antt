-- `receiving::receive` meets its contract: by its reply, and then by what became of the message, which is taken or not.
-- Assumes nothing.
use Rattle.plan_words.specs.Words.{plan_at}
use Rattle.replies.specs.Reply.{number_of}
use Rattle.replies.proofs.Numbers.{over, none, answers}
use Rattle.replies.specs.Areas.{areas}
use Rattle.receiving.proofs.Receiving.{message_refused, message_taken, message_left}
use Rattle.receiving.proofs.receive.Goals as goal

pub returns-in-Err : goal.returns-in-Err
returns-in-Err c =
    let a = c.args in
    let reply = c.receive_reply in
    let left =
    message_refused (plan_at a.plan.now) a.link a.fsn a.octets.now a.message.now (areas a.links.now a.marks.now a.spans.now a.rings.now a.rows.now a.arrivals.now a.reports.now) (number_of reply.result)
    reply.ensures.number (over reply.result c.in-Err.refusal c.in-Err.is) c.refused.result
    (answers reply.result c.in-Err.refusal c.in-Err.is c.refused.result c.refused.ensures)
    in
    record { leaves = left.0; octets_value = left.1 }

pub returns-then-is_taken : goal.returns-then-is_taken
returns-then-is_taken c =
    let a = c.args in
    let reply = c.receive_reply in
    let by = c.receive_by-answer in
    let left =
    message_taken (plan_at a.plan.now) a.link a.fsn a.octets.now a.message.now (areas a.links.now a.marks.now a.spans.now a.rings.now a.rows.now a.arrivals.now a.reports.now) (number_of reply.result) reply.ensures.number
    (none reply.result c.in_default.field-0 c.in_default.is) by.result by.new.links by.new.marks by.new.spans by.new.rings by.new.rows by.new.arrivals by.new.reports by.new.octets
    (by.ensures.leaves, by.ensures.octets_value) c.is_taken.result c.is_taken.ensures c.if-is_taken.true c.take_message.new.links c.take_message.ensures
    in
    record { leaves = left.0; octets_value = left.1 }

pub returns-else-is_taken : goal.returns-else-is_taken
returns-else-is_taken c =
    let a = c.args in
    let reply = c.receive_reply in
    let by = c.receive_by-answer in
    let left =
    message_left (plan_at a.plan.now) a.link a.fsn a.octets.now a.message.now (areas a.links.now a.marks.now a.spans.now a.rings.now a.rows.now a.arrivals.now a.reports.now) (number_of reply.result) reply.ensures.number
    (none reply.result c.in_default.field-0 c.in_default.is) by.result by.new.links by.new.marks by.new.spans by.new.rings by.new.rows by.new.arrivals by.new.reports by.new.octets
    (by.ensures.leaves, by.ensures.octets_value) c.is_taken.result c.is_taken.ensures c.if-is_taken.false
    in
    record { leaves = left.0; octets_value = left.1 }
