-- A message for another point, from a link or from the host, leaves a regular state regular.
-- Assumes nothing.
use mathlib.Core.Path.{◌≡◌}
use mathlib.Core.Bool.{false}
use mathlib.Core.List.{List}
use Prim.Native.Nat.{ℕ}
use native.Mathlib.Omega.{arith}
use lib.Dec.{eqb, ltb}
use lib.ListN.{length}
use borrow.Author.Tests.{ltb-true, not-false}
use Rattle.plan.specs.declared.data.Plan.{Plan}
use Rattle.plan.specs.Find.{place_of}
use Rattle.plan.proofs.Split.{both_false}
use Rattle.area_flags.specs.Flags.{flag_at}
use Rattle.wire.specs.declared.header.Label.{Label}
use Rattle.replies.specs.Reply.{plain}
use Rattle.replies.specs.Areas.{Areas, Outcome, outcome, judged, refused}
use Rattle.route_choice.specs.Which.{none}
use Rattle.route_ways.specs.Way.{for_users}
use Rattle.queue_heads.specs.Head.{both}
use Rattle.queue_joining.specs.Queue.{user_queues, rows_with_user}
use Rattle.management_making.specs.Make.{makes_reply}
use Rattle.queue_moving.specs.Move.{apart}
use Rattle.constants.specs.Constants.{t6}
use Rattle.discrimination.specs.declared.Came.{Came}
use Rattle.discrimination.specs.declared.Came.TheVariants.{Malformed, Foreign, Delivered, Managed, Passed}
use Rattle.discrimination.specs.Discrimination.{from_host}
use Rattle.passing_passage.specs.Passage.{link_of, unreachable, ring_by, ring_of, place_reply, queued, octets_queued, prohibited_to, tells}
use Rattle.passing.specs.Pass.{not_reached, passed, octets_passed}
use Rattle.passing_offering.specs.Host.{refuses, offered, from_host_by, sent, octets_offered, octets_by, octets_sent}
use Rattle.promise_runs.proofs.Carrying.{way_carries}
use Rattle.promise_runs.proofs.Growing.{Goes, goes_free, Kept}
use Rattle.promise_runs.proofs.Queued.{user_kept}
use Rattle.promise_runs.proofs.Keeping.{grew, octets_changed}
use Rattle.promise_runs.proofs.Outcomes.{RegularIn, by_test, both_by_test, if_judged}
use Rattle.promise_runs.proofs.KeepsMaking.{made_regular}

module _ (a : Areas) (octets : List ℕ) (regular : RegularIn a octets) (plan : Plan) where
  -- a message that has a way
  module _ (label : Label) (message : List ℕ) (reached : unreachable plan a label ≡ false) where
    -- it goes to a link that carries, or is held apart
    link_goes : Goes a.links (link_of plan a label)
    unfolding link_of
    link_goes =
        let h = ltb-true (link_of plan a label) none (not-false (ltb (link_of plan a label) none) reached) in
        record { there = omega arith; not_out = way_carries plan a.links a.marks for_users label.dpc label.sls }

    ring_goes : Goes a.links (ring_of plan a label)
    unfolding ring_by
    ring_goes =
        by_test (Goes a.links) (flag_at a.marks (place_of plan label.dpc) t6) apart (link_of plan a label)
        (λ e. goes_free a.links apart (omega arith) (omega arith))
        (λ e. link_goes)

    user_there : Kept a.links 33 (rows_with_user (both a.spans a.rings) a.arrivals a.rows label.dpc label.sls (length message))
        (octets_queued a octets message)
        (both a.spans a.rings)
        (user_queues (both a.spans a.rings) a.arrivals (ring_of plan a label))
    unfolding octets_queued
    user_there =
        user_kept a.links (both a.spans a.rings) a.rows octets regular.store a.arrivals (ring_of plan a label) ring_goes
        label.dpc
        label.sls
        message

    -- it is queued
    pub queued_regular : RegularIn (queued plan a label (length message)) (octets_queued a octets message)
    unfolding queued
    queued_regular =
        grew a.links a.spans a.rings a.rows octets regular 33 (omega arith)
        (rows_with_user (both a.spans a.rings) a.arrivals a.rows label.dpc label.sls (length message))
        (octets_queued a octets message)
        (user_queues (both a.spans a.rings) a.arrivals (ring_of plan a label))
        user_there

    -- or refused
    pub place_regular : (done : Outcome) → RegularIn done.after (octets_queued a octets message)
        → RegularIn (judged (place_reply a) done a).after (octets_queued a octets message)
    place_regular done new =
        if_judged (octets_queued a octets message) (place_reply a) done a
        (octets_changed a.links a.spans a.rings a.rows octets regular (octets_queued a octets message) user_there.sound.octets_long)
        (λ e. new)

  -- one that has none
  not_reached_regular : (arriving x : ℕ) → RegularIn (not_reached plan arriving x a).after octets
  unfolding not_reached
  not_reached_regular arriving x =
      by_test (λ (o : Outcome). RegularIn o.after octets) (tells plan a.marks x) _ (outcome (plain 9) a)
      (λ e.
      if_judged octets (makes_reply plan (prohibited_to plan arriving x) a) _ a regular
      (λ done. made_regular a octets regular plan (prohibited_to plan arriving x)))
      (λ e. regular)

  -- from a link
  pub passed_regular : (arriving : ℕ) (label : Label) (message : List ℕ)
      → RegularIn (passed plan arriving label (length message) a).after (octets_passed plan label a octets message)
  unfolding passed octets_passed
  passed_regular arriving label message =
      both_by_test (λ (o : Outcome) (w : List ℕ). RegularIn o.after w) (unreachable plan a label)
      (not_reached plan arriving label.dpc a)
      _
      octets
      (octets_queued a octets message)
      (λ e. not_reached_regular arriving label.dpc)
      (λ e. place_regular label message e _ (queued_regular label message e))

  -- from the host
  offered_regular : (label : Label) (message : List ℕ)
      → RegularIn (offered plan label (length message) a).after (octets_offered plan label a octets message)
  unfolding offered octets_offered refuses
  offered_regular label message =
      both_by_test (λ (o : Outcome) (w : List ℕ). RegularIn o.after w) (refuses plan a label) (refused 9 a) _ octets
      (octets_queued a octets message)
      (λ e. regular)
      (λ e.
      let reached = (both_false (eqb label.dpc plan.code) (unreachable plan a label) e).1 in
      place_regular label message reached _ (queued_regular label message reached))

  host_regular : (message : List ℕ) (came : Came)
      → RegularIn (from_host_by plan came (length message) a).after (octets_by plan came a octets message)
  unfolding from_host_by octets_by
  host_regular message Malformed = regular
  host_regular message Foreign = regular
  host_regular message Delivered = regular
  host_regular message (Managed order) = regular
  host_regular message (Passed label) = offered_regular label message

  pub sent_regular : (message : List ℕ) → RegularIn (sent plan message a).after (octets_sent plan message a octets)
  unfolding sent octets_sent
  sent_regular message =
      both_by_test (λ (o : Outcome) (w : List ℕ). RegularIn o.after w) plan.given
      (from_host_by plan (from_host plan message) (length message) a)
      (refused 2 a)
      (octets_by plan (from_host plan message) a octets message)
      octets
      (λ e. host_regular message (from_host plan message))
      (λ e. regular)
