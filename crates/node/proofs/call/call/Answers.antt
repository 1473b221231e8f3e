-- `node::call::call` meets its contract: each event gives what its function leaves.
-- What the calls of the first two leave is searched for: a wrong function called there is refused for what it leaves, not for its name.
-- Assumes nothing.
use mathlib.Core.Path.{◌∙◌}
use Rattle.plan_words.specs.Words.{plan_at}
use Rattle.node.specs.declared.call.Event.TheVariants.{IntoService, Failure, Send, Acknowledgement, Received, FromHost, T1, T2, T3, T4, T6, T8, T10}
use Rattle.node.specs.Memory.{memory_of}
use Rattle.node.specs.Call.{call_of, receives, takes_over}
use Rattle.replies.specs.Reply.{number_of}
use Rattle.node.proofs.Apart.{changeover_leaves, t6_leaves, t10_leaves, sent_leaves, octets_apart}
use Rattle.node.proofs.Giving.{with_areas, areas_alone, told_as}
use Rattle.node.proofs.Events.{gives_send, gives_acknowledgement, gives_wait, gives_t8}
use Rattle.node.proofs.call.call.Goals as goal

pub returns-in-IntoService-clause-gives : goal.returns-in-IntoService-clause-gives
unfolding call_of
returns-in-IntoService-clause-gives c =
    let a = c.args in
    let e = c.in-IntoService in
    told_as (plan_at a.plan.now) a.message.now (memory_of a.areas.now a.reports.now a.out.now) a.event (IntoService e.link) e.is _ _
    (areas_alone _ _ _ (memory_of a.areas.now a.reports.now a.out.now) search)

pub returns-in-Failure-clause-gives : goal.returns-in-Failure-clause-gives
unfolding call_of
returns-in-Failure-clause-gives c =
    let a = c.args in
    let e = c.in-Failure in
    told_as (plan_at a.plan.now) a.message.now (memory_of a.areas.now a.reports.now a.out.now) a.event (Failure e.link) e.is _ _
    (areas_alone _ _ _ (memory_of a.areas.now a.reports.now a.out.now) search)

pub returns-in-Send-clause-gives : goal.returns-in-Send-clause-gives
unfolding call_of
returns-in-Send-clause-gives c =
    let a = c.args in
    let e = c.in-Send in
    let o = c.send in
    told_as (plan_at a.plan.now) a.message.now (memory_of a.areas.now a.reports.now a.out.now) a.event (Send e.link) e.is _ _
    (gives_send (plan_at a.plan.now) (memory_of a.areas.now a.reports.now a.out.now) e.link o.result o.new.links o.new.out (o.ensures.value, (o.ensures.links_value, o.ensures.out_value)))

pub returns-in-Acknowledgement-clause-gives : goal.returns-in-Acknowledgement-clause-gives
unfolding call_of
returns-in-Acknowledgement-clause-gives c =
    let a = c.args in
    let e = c.in-Acknowledgement in
    let o = c.acknowledge in
    told_as (plan_at a.plan.now) a.message.now (memory_of a.areas.now a.reports.now a.out.now) a.event (Acknowledgement e.link e.b) e.is _ _
    (gives_acknowledgement (plan_at a.plan.now) (memory_of a.areas.now a.reports.now a.out.now) e.link e.b (number_of o.result) o.new.links o.new.spans o.new.rings (o.ensures.number, (o.ensures.links_value, o.ensures.rings_value)) c.answered.result c.answered.ensures)

pub returns-in-Received-clause-gives : goal.returns-in-Received-clause-gives
unfolding call_of receives
returns-in-Received-clause-gives c =
    let a = c.args in
    let e = c.in-Received in
    let o = c.receive in
    told_as (plan_at a.plan.now) a.message.now (memory_of a.areas.now a.reports.now a.out.now) a.event (Received e.link e.fsn) e.is _ _
    (with_areas _ _ _ o.ensures.leaves _ _ _ o.ensures.octets_value)

pub returns-in-FromHost-clause-gives : goal.returns-in-FromHost-clause-gives
unfolding call_of takes_over
returns-in-FromHost-clause-gives c =
    let a = c.args in
    let e = c.in-FromHost in
    let o = c.send_host in
    told_as (plan_at a.plan.now) a.message.now (memory_of a.areas.now a.reports.now a.out.now) a.event FromHost e.is _ _
    (with_areas _ _ _ (sent_leaves (plan_at a.plan.now) (memory_of a.areas.now a.reports.now a.out.now).areas a.message.now _ _ o.ensures.leaves) _ _ _
    (o.ensures.octets_value ∙ octets_apart (plan_at a.plan.now) (memory_of a.areas.now a.reports.now a.out.now).areas a.message.now a.areas.now.octets.now))

pub returns-in-T1-clause-gives : goal.returns-in-T1-clause-gives
unfolding call_of
returns-in-T1-clause-gives c =
    let a = c.args in
    let e = c.in-T1 in
    let o = c.expire in
    told_as (plan_at a.plan.now) a.message.now (memory_of a.areas.now a.reports.now a.out.now) a.event (T1 e.link) e.is _ _
    (areas_alone _ _ _ (memory_of a.areas.now a.reports.now a.out.now) (changeover_leaves (plan_at a.plan.now) (memory_of a.areas.now a.reports.now a.out.now).areas e.link 1 _ _ o.ensures))

pub returns-in-T2-clause-gives : goal.returns-in-T2-clause-gives
unfolding call_of
returns-in-T2-clause-gives c =
    let a = c.args in
    let e = c.in-T2 in
    let o = c.expire-in-T2 in
    told_as (plan_at a.plan.now) a.message.now (memory_of a.areas.now a.reports.now a.out.now) a.event (T2 e.link) e.is _ _
    (areas_alone _ _ _ (memory_of a.areas.now a.reports.now a.out.now) (changeover_leaves (plan_at a.plan.now) (memory_of a.areas.now a.reports.now a.out.now).areas e.link 2 _ _ o.ensures))

pub returns-in-T3-clause-gives : goal.returns-in-T3-clause-gives
unfolding call_of
returns-in-T3-clause-gives c =
    let a = c.args in
    let e = c.in-T3 in
    let o = c.expire_wait in
    told_as (plan_at a.plan.now) a.message.now (memory_of a.areas.now a.reports.now a.out.now) a.event (T3 e.link) e.is _ _
    (gives_wait (plan_at a.plan.now) (memory_of a.areas.now a.reports.now a.out.now) e.link 3 (number_of o.result) o.new.links (o.ensures.number, o.ensures.links_after) c.answered-in-T3.result c.answered-in-T3.ensures)

pub returns-in-T4-clause-gives : goal.returns-in-T4-clause-gives
unfolding call_of
returns-in-T4-clause-gives c =
    let a = c.args in
    let e = c.in-T4 in
    let o = c.expire_wait-in-T4 in
    told_as (plan_at a.plan.now) a.message.now (memory_of a.areas.now a.reports.now a.out.now) a.event (T4 e.link) e.is _ _
    (gives_wait (plan_at a.plan.now) (memory_of a.areas.now a.reports.now a.out.now) e.link 4 (number_of o.result) o.new.links (o.ensures.number, o.ensures.links_after) c.answered-in-T4.result c.answered-in-T4.ensures)

pub returns-in-T6-clause-gives : goal.returns-in-T6-clause-gives
unfolding call_of
returns-in-T6-clause-gives c =
    let a = c.args in
    let e = c.in-T6 in
    let o = c.expire_t6 in
    told_as (plan_at a.plan.now) a.message.now (memory_of a.areas.now a.reports.now a.out.now) a.event (T6 e.x) e.is _ _
    (areas_alone _ _ _ (memory_of a.areas.now a.reports.now a.out.now) (t6_leaves (plan_at a.plan.now) (memory_of a.areas.now a.reports.now a.out.now).areas e.x _ _ o.ensures))

pub returns-in-T8-clause-gives : goal.returns-in-T8-clause-gives
unfolding call_of
returns-in-T8-clause-gives c =
    let a = c.args in
    let e = c.in-T8 in
    let o = c.expire_t8 in
    told_as (plan_at a.plan.now) a.message.now (memory_of a.areas.now a.reports.now a.out.now) a.event (T8 e.x) e.is _ _
    (gives_t8 (plan_at a.plan.now) (memory_of a.areas.now a.reports.now a.out.now) e.x (number_of o.result) o.new.marks (o.ensures.number, o.ensures.marks_after) c.answered-in-T8.result c.answered-in-T8.ensures)

pub returns-in-T10-clause-gives : goal.returns-in-T10-clause-gives
unfolding call_of
returns-in-T10-clause-gives c =
    let a = c.args in
    let e = c.in-T10 in
    let o = c.expire_t10 in
    told_as (plan_at a.plan.now) a.message.now (memory_of a.areas.now a.reports.now a.out.now) a.event (T10 e.x e.set) e.is _ _
    (areas_alone _ _ _ (memory_of a.areas.now a.reports.now a.out.now) (t10_leaves (plan_at a.plan.now) (memory_of a.areas.now a.reports.now a.out.now).areas e.x e.set _ _ o.ensures))
