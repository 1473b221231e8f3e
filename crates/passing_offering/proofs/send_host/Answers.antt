-- `passing_offering::send_host` meets its contract, by what the message is.
-- Assumes nothing.
use mathlib.Core.List.{[]}
use mathlib.Core.Path.{refl, sym, ◌∙◌}
use Rattle.plan_words.specs.Words.{plan_at}
use Rattle.discrimination.specs.declared.Came.TheVariants.{Malformed, Foreign, Delivered, Managed, Passed}
use Rattle.replies.specs.Areas.{areas}
use Rattle.passing_offering.specs.Host.{from_host_by, octets_by}
use Rattle.passing_offering.proofs.Offering.{no_node_lem, by_kind, kind_refused}
use Rattle.passing_offering.proofs.send_host.Goals as goal

pub returns-then-not-given : goal.returns-then-not-given
returns-then-not-given c =
    let a = c.args in
    let left =
    no_node_lem (plan_at a.plan.now) a.octets.now a.message.now (areas a.links.now a.marks.now a.spans.now a.rings.now a.rows.now a.arrivals.now [])
    (sym c.given.ensures ∙ c.if-not-given.true) c.refused.result c.refused.ensures
    in
    record { leaves = left.0; octets_value = left.1 }

pub returns-in-Passed : goal.returns-in-Passed
unfolding from_host_by octets_by
returns-in-Passed c =
    let a = c.args in
    let o = c.offer in
    let left =
    by_kind (plan_at a.plan.now) a.octets.now a.message.now (areas a.links.now a.marks.now a.spans.now a.rings.now a.rows.now a.arrivals.now [])
    (sym c.given.ensures ∙ c.if-not-given.false) c.from_host.result c.from_host.ensures (Passed c.in-Passed.label) c.in-Passed.is o.result
    (areas a.links.now a.marks.now o.new.spans o.new.rings o.new.rows o.new.arrivals []) o.new.octets (o.ensures.leaves, o.ensures.octets_value)
    in
    record { leaves = left.0; octets_value = left.1 }

pub returns-in-Foreign : goal.returns-in-Foreign
unfolding from_host_by octets_by
returns-in-Foreign c =
    let a = c.args in
    let left =
    kind_refused (plan_at a.plan.now) a.octets.now a.message.now (areas a.links.now a.marks.now a.spans.now a.rings.now a.rows.now a.arrivals.now [])
    (sym c.given.ensures ∙ c.if-not-given.false) c.from_host.result c.from_host.ensures Foreign c.in-Foreign.is 4 refl refl c.refused-in-Foreign.result c.refused-in-Foreign.ensures
    in
    record { leaves = left.0; octets_value = left.1 }

pub returns-in-Malformed : goal.returns-in-Malformed
unfolding from_host_by octets_by
returns-in-Malformed c =
    let a = c.args in
    let left =
    kind_refused (plan_at a.plan.now) a.octets.now a.message.now (areas a.links.now a.marks.now a.spans.now a.rings.now a.rows.now a.arrivals.now [])
    (sym c.given.ensures ∙ c.if-not-given.false) c.from_host.result c.from_host.ensures Malformed c.in-Malformed.is 3 refl refl c.refused-in-Malformed.result c.refused-in-Malformed.ensures
    in
    record { leaves = left.0; octets_value = left.1 }

pub returns-in-Delivered : goal.returns-in-Delivered
unfolding from_host_by octets_by
returns-in-Delivered c =
    let a = c.args in
    let left =
    kind_refused (plan_at a.plan.now) a.octets.now a.message.now (areas a.links.now a.marks.now a.spans.now a.rings.now a.rows.now a.arrivals.now [])
    (sym c.given.ensures ∙ c.if-not-given.false) c.from_host.result c.from_host.ensures Delivered c.in-Delivered.is 3 refl refl c.refused-in-Delivered.result c.refused-in-Delivered.ensures
    in
    record { leaves = left.0; octets_value = left.1 }

pub returns-in-Managed : goal.returns-in-Managed
unfolding from_host_by octets_by
returns-in-Managed c =
    let a = c.args in
    let left =
    kind_refused (plan_at a.plan.now) a.octets.now a.message.now (areas a.links.now a.marks.now a.spans.now a.rings.now a.rows.now a.arrivals.now [])
    (sym c.given.ensures ∙ c.if-not-given.false) c.from_host.result c.from_host.ensures (Managed _) c.in-Managed.is 3 refl refl c.refused-in-Managed.result c.refused-in-Managed.ensures
    in
    record { leaves = left.0; octets_value = left.1 }
