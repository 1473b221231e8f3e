-- `replay_shift::run::run_line` meets its contract: the line is read, its call made or its question asked and the answer put on the
-- page, or the line refused. Assumes nothing.
use Rattle.std.proofs.Common.{◌≡◌, length, ap, arith}
use lib.Seq.{slice}
use Rattle.plan_words.specs.Words.{plan_at}
use Rattle.node.specs.Memory.{memory_of}
use Rattle.record_reading.specs.declared.Reading.TheVariants.{Call, Asks, Unreadable}
use Rattle.record_reading.specs.Record.{read_line}
use Rattle.replay_shift.proofs.Room.{slice_long}
use Rattle.replay_shift.proofs.Running.{call_leaves, question_leaves, refusal_leaves}
use Rattle.replay_shift.proofs.run.run_line.Goals as goal

pub returns-in-Call : goal.returns-in-Call
returns-in-Call c =
    let a = c.args in
    let read = c.read_line in
    let said = c.in-Call.said in
    let reads : Call said ≡ read_line a.message.now (slice a.at a.part.end a.text.now) = cc in
    let part = c.between-octets_of in
    let called = c.put_called-pending in
    let wrapped = c.wrapping_add_u64 in
    let before = memory_of a.areas.now a.reports.now a.sent.now in
    let after = memory_of called.new.areas called.new.reports called.new.sent in
    let sent_long : length called.new.sent ≡ 4096 = omega arith in
    let reports_long : length called.new.reports ≡ 1024 = omega arith in
    let left =
    call_leaves (plan_at a.plan.now) a.view (slice a.at a.part.end a.text.now) a.part.next before a.message.now a.out.now a.place
    (omega arith) (omega arith) said reads read.new.message read.ensures.message_after _ part.ensures after
    called.ensures.sent_value called.new.out called.result called.ensures.result_after
    (omega (arith, ap length part.ensures, slice_long said.octets read.new.message)) sent_long reports_long wrapped.result wrapped.ensures.value
    in
    record { stays = search; result_after = left.desk_is; pending_bound_2 = left.within; out_unchanged = left.rest_is }

pub returns-in-Asks : goal.returns-in-Asks
returns-in-Asks c =
    let a = c.args in
    let read = c.read_line in
    let question = c.in-Asks.question in
    let reads : Asks question ≡ read_line a.message.now (slice a.at a.part.end a.text.now) = cc in
    let put = c.put_asked in
    let wrapped = c.wrapping_add_u64-in-Asks in
    let before = memory_of a.areas.now a.reports.now a.sent.now in
    let left =
    question_leaves (plan_at a.plan.now) a.view (slice a.at a.part.end a.text.now) a.part.next before a.message.now a.out.now a.place
    (omega arith) (omega arith) question reads read.new.message read.ensures.message_after
    put.new.sent put.ensures.sent_after put.new.out put.result put.ensures.result_after (omega arith) (omega arith)
    wrapped.result wrapped.ensures.value
    in
    record { stays = search; result_after = left.desk_is; pending_bound_2 = left.within; out_unchanged = left.rest_is }

pub returns-in-Unreadable : goal.returns-in-Unreadable
returns-in-Unreadable c =
    let a = c.args in
    let read = c.read_line in
    let put = c.put_unreadable in
    let reads : Unreadable ≡ read_line a.message.now (slice a.at a.part.end a.text.now) = cc in
    let before = memory_of a.areas.now a.reports.now a.sent.now in
    let left =
    refusal_leaves (plan_at a.plan.now) a.view (slice a.at a.part.end a.text.now) a.part.next before a.message.now a.out.now a.place
    (omega arith) (omega arith) reads read.new.message read.ensures.message_after put.new.out put.result put.ensures
    in
    record { stays = search; result_after = left.desk_is; pending_bound_2 = left.within; out_unchanged = left.rest_is }
