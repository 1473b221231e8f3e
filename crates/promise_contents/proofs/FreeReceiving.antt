-- A message from a link or from the host, whatever it is: a slot is as it was, or what is new is written there.
-- Assumes nothing.
use mathlib.Core.Path.{◌≡◌}
use mathlib.Core.Bool.{false, cond}
use mathlib.Core.List.{List}
use Prim.Native.Nat.{ℕ, ◌≤◌}
use lib.Dec.{eqb}
use lib.ListN.{length}
use Rattle.plan.specs.declared.data.Plan.{Plan}
use Rattle.plan.proofs.Split.{both_false}
use Rattle.queue_store.specs.Sound.{Kinds}
use Rattle.wire.specs.declared.header.Label.{Label}
use Rattle.replies.specs.Reply.{done}
use Rattle.replies.specs.Areas.{Areas, Outcome}
use Rattle.numbers.specs.Numbers.{is_taken}
use Rattle.numbers.specs.Taken.{with_taken, taken_by}
use Rattle.discrimination.specs.declared.Came.{Came}
use Rattle.discrimination.specs.declared.Came.TheVariants.{Malformed, Foreign, Delivered, Managed, Passed}
use Rattle.discrimination.specs.Discrimination.{from_link, from_host}
use Rattle.passing_passage.specs.Passage.{unreachable, ring_of, place_reply, queued, prohibited_to}
use Rattle.passing.specs.Pass.{passed}
use Rattle.passing_offering.specs.Host.{refuses, offered, from_host_by, sent}
use Rattle.receiving.specs.Receive.{reply_of, received_by, received}
use Rattle.promise_runs.proofs.Outcomes.{RegularIn, by_test, both_by_test}
use Rattle.promise_accounts.proofs.Small.{Small, link_small, host_small}
use Rattle.promise_contents.specs.Made.{New, Nothing, User, Made, new_by}
use Rattle.promise_contents.proofs.FreeEvents.{queues_in, Stays, stays_none, judged_stays}
use Rattle.promise_contents.proofs.FreeQueued.{user_stays, ring_within}
use Rattle.promise_contents.proofs.FreeOrders.{StaysBy, managed_stays, not_reached_stays}

module _ (plan : Plan) (a : Areas) (octets : List ℕ) (regular : RegularIn a octets) (kinds : Kinds a.spans a.rings) where
  -- by an outcome
  abbrev StaysWith : New → Outcome → Type 0
  StaysWith = StaysBy plan a octets regular kinds

  module _ (message : List ℕ) where
    abbrev size : ℕ
    size = length message

    -- one that has a way
    queued_stays : (label : Label) → (5 ≤ size) × (size ≤ 273) → unreachable plan a label ≡ false → Stays (User size) a (queued plan a label size)
    unfolding queued
    queued_stays label small reached =
        user_stays a.rows octets (queues_in a) regular.store kinds a.arrivals (ring_of plan a label) (ring_within plan a label reached)
        label.dpc
        label.sls
        message
        small.0
        small.1

    -- from a link
    passed_stays : (arriving : ℕ) (label : Label) → (5 ≤ size) × (size ≤ 273)
        → StaysWith (cond (unreachable plan a label) (Made (prohibited_to plan arriving label.dpc)) (User size)) (passed plan arriving label size a)
    unfolding passed
    passed_stays arriving label small =
        both_by_test StaysWith (unreachable plan a label) (Made (prohibited_to plan arriving label.dpc)) (User size) _ _
        (λ e. not_reached_stays plan a octets regular kinds arriving label.dpc)
        (λ e. judged_stays (User size) a (place_reply a) _ (λ done. queued_stays label small e))

    -- by what it is
    came_stays : (arriving fsn : ℕ) (came : Came) → Small came size
        → StaysWith (new_by plan arriving fsn size came a) (received_by plan arriving fsn size came a)
    unfolding received_by new_by Small
    came_stays arriving fsn Malformed small = stays_none Nothing a
    came_stays arriving fsn Foreign small = stays_none Nothing a
    came_stays arriving fsn Delivered small = stays_none Nothing a
    came_stays arriving fsn (Managed order) small =
        managed_stays plan a octets regular kinds arriving fsn order.point order.slc order.message
    came_stays arriving fsn (Passed label) small = passed_stays arriving label small

    -- taken, or not
    taken_stays : (new : New) (arriving fsn : ℕ) (o : Outcome) → StaysWith new o → StaysWith new (taken_by arriving fsn o)
    taken_stays new arriving fsn o stays =
        by_test (Stays new a) (is_taken o.answer.reply) (with_taken arriving fsn o.after) o.after (λ e. stays) (λ e. stays)

    -- judged by the reply first
    pub received_stays : (arriving fsn : ℕ)
        → StaysWith (new_by plan arriving fsn size (from_link plan message) a) (received plan arriving fsn message a)
    unfolding received
    received_stays arriving fsn =
        let came = from_link plan message in
        let new = new_by plan arriving fsn size came a in
        judged_stays new a (reply_of plan a.links arriving fsn a.reports) _
        (λ done. taken_stays new arriving fsn (received_by plan arriving fsn size came a) (came_stays arriving fsn came (link_small plan message)))

    -- from the host
    offered_stays : (label : Label) → (5 ≤ size) × (size ≤ 273) → StaysWith (User size) (offered plan label size a)
    unfolding offered refuses
    offered_stays label small =
        by_test (StaysWith (User size)) (refuses plan a label) _ _ (λ e. stays_none (User size) a)
        (λ e.
        let reached = (both_false (eqb label.dpc plan.code) (unreachable plan a label) e).1 in
        judged_stays (User size) a (place_reply a) _ (λ done. queued_stays label small reached))

    -- by what it is
    host_stays : (came : Came) → Small came size → StaysWith (User size) (from_host_by plan came size a)
    unfolding from_host_by Small
    host_stays Malformed small = stays_none (User size) a
    host_stays Foreign small = stays_none (User size) a
    host_stays Delivered small = stays_none (User size) a
    host_stays (Managed order) small = stays_none (User size) a
    host_stays (Passed label) small = offered_stays label small

    -- with a node, or without
    pub sent_stays : StaysWith (User size) (sent plan message a)
    unfolding sent
    sent_stays =
        by_test (StaysWith (User size)) plan.given _ _ (λ e. host_stays (from_host plan message) (host_small plan message))
        (λ e. stays_none (User size) a)
