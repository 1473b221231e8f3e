-- `passing::pass_on` meets its contract: with no way it goes as one that can't be reached, with one by the place that it finds.
-- Assumes nothing.
use Rattle.std.proofs.Common.{rules}
use mathlib.Core.Path.{ap}
use Rattle.plan_words.specs.Words.{plan_at}
use Rattle.route_ways.specs.declared.Direction.{Direction}
use Rattle.replies.specs.Reply.{number_of}
use Rattle.replies.specs.Areas.{areas}
use Rattle.passing_passage.proofs.Flagged.{ring_there}
use Rattle.passing_passage.proofs.Placing.{no_way, placed}
use Rattle.passing.proofs.Passing.{passed_nowhere, passed_by}
use Rattle.passing.proofs.pass_on.Goals as goal

pub returns-then-to-ge-NO_LINK : goal.returns-then-to-ge-NO_LINK
returns-then-to-ge-NO_LINK c =
    let a = c.args in
    let to = c.directed-to in
    let need = c.for_users in
    let r = c.not_reached in
    let left =
    passed_nowhere (plan_at a.plan.now) a.arriving a.label
    (areas a.links.now a.marks.now a.spans.now a.rings.now a.rows.now a.arrivals.now a.reports.now) a.octets.now a.message.now
    (no_way (plan_at a.plan.now) (areas a.links.now a.marks.now a.spans.now a.rings.now a.rows.now a.arrivals.now a.reports.now) a.label
    need.result need.ensures to.result.link (ap (λ (d : Direction). d.link) to.ensures) c.if-to-ge-NO_LINK.true)
    r.result (areas a.links.now r.new.marks r.new.spans r.new.rings r.new.rows r.new.arrivals a.reports.now) r.ensures
    in
    record { leaves = left.0; octets_value = left.1 }

pub returns : goal.returns
returns c =
    let a = c.args in
    let to = c.directed-to in
    let need = c.for_users in
    let ring = c.ring_of-ring in
    let q = c.queue_user in
    let so =
    placed (plan_at a.plan.now) (areas a.links.now a.marks.now a.spans.now a.rings.now a.rows.now a.arrivals.now a.reports.now) a.label
    a.octets.now a.message.now need.result need.ensures to.result.link (ap (λ (d : Direction). d.link) to.ensures) c.if-to-ge-NO_LINK.false
    ring.result
    (ring_there (plan_at a.plan.now) a.links.now a.marks.now need.result a.label to.result to.ensures ring.result ring.ensures)
    (number_of q.result) q.new.spans q.new.rings q.new.rows q.new.octets q.new.arrivals (q.ensures.number, (q.ensures.arrivals_value, q.ensures.octets_value))
    in
    let left =
    passed_by (plan_at a.plan.now) a.arriving a.label
    (areas a.links.now a.marks.now a.spans.now a.rings.now a.rows.now a.arrivals.now a.reports.now) a.octets.now a.message.now
    (number_of q.result) (areas a.links.now a.marks.now q.new.spans q.new.rings q.new.rows q.new.arrivals a.reports.now) q.new.octets so
    c.answered.result (search rules)
    in
    record { leaves = left.0; octets_value = left.1 }
