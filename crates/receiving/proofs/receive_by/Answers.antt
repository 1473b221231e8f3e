-- `receiving::receive_by` meets its contract, by what the message is.
-- Assumes nothing.
use mathlib.Core.Path.{refl}
use Rattle.plan_words.specs.Words.{plan_at}
use Rattle.discrimination.specs.declared.Came.TheVariants.{Malformed, Foreign, Delivered, Managed, Passed}
use Rattle.replies.specs.Reply.{plain}
use Rattle.replies.specs.Areas.{areas}
use Rattle.receiving.specs.Receive.{delivery, received_by, octets_by}
use Rattle.receiving.proofs.Receiving.{by_kind, only_answered}
use Rattle.receiving.proofs.receive_by.Goals as goal

pub returns-in-Malformed : goal.returns-in-Malformed
unfolding received_by octets_by
returns-in-Malformed c =
    let a = c.args in
    let left =
    only_answered (plan_at a.plan.now) a.link a.fsn a.octets.now a.message.now (areas a.links.now a.marks.now a.spans.now a.rings.now a.rows.now a.arrivals.now a.reports.now)
    c.from_link.result c.from_link.ensures Malformed c.in-Malformed.is (plain 3) refl refl c.refused.result c.refused.ensures
    in
    record { leaves = left.0; octets_value = left.1 }

pub returns-in-Foreign : goal.returns-in-Foreign
unfolding received_by octets_by
returns-in-Foreign c =
    let a = c.args in
    let left =
    only_answered (plan_at a.plan.now) a.link a.fsn a.octets.now a.message.now (areas a.links.now a.marks.now a.spans.now a.rings.now a.rows.now a.arrivals.now a.reports.now)
    c.from_link.result c.from_link.ensures Foreign c.in-Foreign.is (plain 4) refl refl c.refused-in-Foreign.result c.refused-in-Foreign.ensures
    in
    record { leaves = left.0; octets_value = left.1 }

pub returns-in-Delivered : goal.returns-in-Delivered
unfolding received_by octets_by
returns-in-Delivered c =
    let a = c.args in
    let left =
    only_answered (plan_at a.plan.now) a.link a.fsn a.octets.now a.message.now (areas a.links.now a.marks.now a.spans.now a.rings.now a.rows.now a.arrivals.now a.reports.now)
    c.from_link.result c.from_link.ensures Delivered c.in-Delivered.is delivery refl refl c.delivery.result c.delivery.ensures
    in
    record { leaves = left.0; octets_value = left.1 }

pub returns-in-Managed : goal.returns-in-Managed
unfolding received_by octets_by
returns-in-Managed c =
    let a = c.args in
    let m = c.manage in
    let left =
    by_kind (plan_at a.plan.now) a.link a.fsn a.octets.now a.message.now (areas a.links.now a.marks.now a.spans.now a.rings.now a.rows.now a.arrivals.now a.reports.now)
    c.from_link.result c.from_link.ensures (Managed c.in-Managed.order) c.in-Managed.is m.result
    (areas m.new.links m.new.marks m.new.spans m.new.rings m.new.rows m.new.arrivals m.new.reports) a.octets.now m.ensures refl
    in
    record { leaves = left.0; octets_value = left.1 }

pub returns-in-Passed : goal.returns-in-Passed
unfolding received_by octets_by
returns-in-Passed c =
    let a = c.args in
    let p = c.pass_on in
    let left =
    by_kind (plan_at a.plan.now) a.link a.fsn a.octets.now a.message.now (areas a.links.now a.marks.now a.spans.now a.rings.now a.rows.now a.arrivals.now a.reports.now)
    c.from_link.result c.from_link.ensures (Passed c.in-Passed.label) c.in-Passed.is p.result
    (areas a.links.now p.new.marks p.new.spans p.new.rings p.new.rows p.new.arrivals a.reports.now) p.new.octets p.ensures.leaves p.ensures.octets_value
    in
    record { leaves = left.0; octets_value = left.1 }
