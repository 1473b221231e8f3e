-- `passing_offering::offer` meets its contract: our own DPC and one with no way are refused, another goes by the place that it finds.
-- Assumes nothing.
use mathlib.Core.List.{[]}
use mathlib.Core.Bool.{true}
use mathlib.Core.Path.{ap}
use Rattle.plan_words.specs.Words.{plan_at}
use Rattle.route_ways.specs.declared.Direction.{Direction}
use Rattle.replies.specs.Reply.{number_of}
use Rattle.replies.specs.Areas.{areas}
use Rattle.passing_passage.proofs.Flagged.{ring_there}
use Rattle.passing_passage.proofs.Placing.{no_way, placed}
use Rattle.passing_offering.proofs.Offering.{ours_refused, others_refused, offer_refused, offer_queued}
use Rattle.passing_offering.proofs.offer.Goals as goal

pub returns-then-label-code : goal.returns-then-label-code
returns-then-label-code c =
    let a = c.args in
    let left =
    offer_refused (plan_at a.plan.now) a.label (areas a.links.now a.marks.now a.spans.now a.rings.now a.rows.now a.arrivals.now [])
    a.octets.now a.message.now
    (ours_refused (plan_at a.plan.now) a.label (areas a.links.now a.marks.now a.spans.now a.rings.now a.rows.now a.arrivals.now [])
    (rw c.code.ensures at c.if-label-code.true)) c.refused.result c.refused.ensures
    in
    record { leaves = left.0; octets_value = left.1 }

pub returns-then-to-ge-NO_LINK : goal.returns-then-to-ge-NO_LINK
returns-then-to-ge-NO_LINK c =
    let a = c.args in
    let to = c.directed-to in
    let need = c.for_users in
    let left =
    offer_refused (plan_at a.plan.now) a.label (areas a.links.now a.marks.now a.spans.now a.rings.now a.rows.now a.arrivals.now [])
    a.octets.now a.message.now
    (others_refused (plan_at a.plan.now) a.label (areas a.links.now a.marks.now a.spans.now a.rings.now a.rows.now a.arrivals.now [])
    (rw c.code.ensures at c.if-label-code.false) true
    (no_way (plan_at a.plan.now) (areas a.links.now a.marks.now a.spans.now a.rings.now a.rows.now a.arrivals.now []) a.label need.result need.ensures
    to.result.link (ap (λ (d : Direction). d.link) to.ensures) c.if-to-ge-NO_LINK.true))
    c.refused-then-to-ge-NO_LINK.result c.refused-then-to-ge-NO_LINK.ensures
    in
    record { leaves = left.0; octets_value = left.1 }

pub returns : goal.returns
returns c =
    let a = c.args in
    let to = c.directed-to in
    let need = c.for_users in
    let ring = c.ring_of-ring in
    let q = c.queue_user in
    let so =
    placed (plan_at a.plan.now) (areas a.links.now a.marks.now a.spans.now a.rings.now a.rows.now a.arrivals.now []) a.label
    a.octets.now a.message.now need.result need.ensures to.result.link (ap (λ (d : Direction). d.link) to.ensures) c.if-to-ge-NO_LINK.false
    ring.result
    (ring_there (plan_at a.plan.now) a.links.now a.marks.now need.result a.label to.result to.ensures ring.result ring.ensures)
    (number_of q.result) q.new.spans q.new.rings q.new.rows q.new.octets q.new.arrivals (q.ensures.number, (q.ensures.arrivals_value, q.ensures.octets_value))
    in
    let left =
    offer_queued (plan_at a.plan.now) a.label (areas a.links.now a.marks.now a.spans.now a.rings.now a.rows.now a.arrivals.now [])
    a.octets.now a.message.now (rw c.code.ensures at c.if-label-code.false) (number_of q.result)
    (areas a.links.now a.marks.now q.new.spans q.new.rings q.new.rows q.new.arrivals []) q.new.octets so c.answered.result c.answered.ensures
    in
    record { leaves = left.0; octets_value = left.1 }
