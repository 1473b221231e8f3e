-- A message for another point, from a link or from the host, stands behind those that were queued.
-- Assumes nothing.
use mathlib.Core.Path.{◌≡◌}
use mathlib.Core.Bool.{false}
use mathlib.Core.List.{List}
use Prim.Native.Nat.{ℕ, ◌<◌}
use native.Mathlib.Omega.{arith}
use lib.Dec.{eqb, ltb}
use lib.ListN.{length}
use borrow.Author.Tests.{ltb-true, not-false}
use Rattle.plan.specs.declared.data.Plan.{Plan}
use Rattle.plan.specs.Find.{place_of}
use Rattle.plan.proofs.Split.{both_false}
use Rattle.area_flags.specs.Flags.{flag_at}
use Rattle.area_links.specs.LinkRecords.{record_at}
use Rattle.wire.specs.declared.header.Label.{Label}
use Rattle.replies.specs.Areas.{Areas, Outcome}
use Rattle.route_choice.specs.Which.{none}
use Rattle.queue_heads.specs.Head.{both}
use Rattle.management_making.specs.Make.{with_made, makes_reply}
use Rattle.queue_moving.specs.Move.{apart}
use Rattle.constants.specs.Constants.{t6}
use Rattle.discrimination.specs.declared.Came.{Came}
use Rattle.discrimination.specs.declared.Came.TheVariants.{Malformed, Foreign, Delivered, Managed, Passed}
use Rattle.discrimination.specs.Discrimination.{from_host}
use Rattle.passing_passage.specs.Passage.{link_of, unreachable, ring_by, ring_of, place_reply, queued, prohibited_to, tells}
use Rattle.passing.specs.Pass.{marks_told, not_reached, passed}
use Rattle.passing_offering.specs.Host.{refuses, offered, from_host_by, sent}
use Rattle.promise_runs.proofs.Outcomes.{RegularIn, by_test, if_done_lem}
use Rattle.promise_ledger.proofs.Behind.{user_joined}
use Rattle.promise_farend.proofs.Onward.{same_self, Onward, onward_none, onward_marks}
use Rattle.promise_farend.proofs.OnwardMade.{made_onward}

module _ (plan : Plan) (a : Areas) (octets : List ℕ) (regular : RegularIn a octets) where
  abbrev pub On : Areas → Type 0
  On b = Onward 32 a b

  -- a message that has a way
  queued_onward : (label : Label) (size : ℕ) → unreachable plan a label ≡ false → On (queued plan a label size)
  unfolding queued ring_by
  queued_onward label size reached =
      let h = ltb-true (link_of plan a label) none (not-false (ltb (link_of plan a label) none) reached) in
      let within : ring_of plan a label < 33 =
      by_test (λ (ring : ℕ). ring < 33) (flag_at a.marks (place_of plan label.dpc) t6) apart (link_of plan a label)
      (λ e. omega arith)
      (λ e. omega arith)
      in
      record {
        queues =
            λ link l other.
            user_joined a.rows octets (both a.spans a.rings) regular.store a.arrivals (ring_of plan a label) within label.dpc
            label.sls
            size
            link
            (omega arith);
        records = λ link l other. same_self (record_at a.links link);
      }

  not_reached_onward : (arriving x : ℕ) → On (not_reached plan arriving x a).after
  unfolding not_reached
  not_reached_onward arriving x =
      let draft = prohibited_to plan arriving x in
      by_test (λ (o : Outcome). On o.after) (tells plan a.marks x) _ _
      (λ e.
      if_done_lem (λ (o : Outcome). On o.after) (makes_reply plan draft a) _ _
      (λ done. onward_marks 32 a (with_made plan draft a) (made_onward a octets regular plan draft) (marks_told plan a arriving x))
      (onward_none 32 a))
      (λ e. onward_none 32 a)

  -- from a link
  pub passed_onward : (arriving : ℕ) (label : Label) (size : ℕ) → On (passed plan arriving label size a).after
  unfolding passed queued
  passed_onward arriving label size =
      by_test (λ (o : Outcome). On o.after) (unreachable plan a label) _ _ (λ e. not_reached_onward arriving label.dpc)
      (λ e. if_done_lem (λ (o : Outcome). On o.after) (place_reply a) _ _ (λ done. queued_onward label size e) (onward_none 32 a))

  -- from the host
  host_onward : (size : ℕ) (came : Came) → On (from_host_by plan came size a).after
  unfolding from_host_by offered refuses
  host_onward size Malformed = onward_none 32 a
  host_onward size Foreign = onward_none 32 a
  host_onward size Delivered = onward_none 32 a
  host_onward size (Managed order) = onward_none 32 a
  host_onward size (Passed label) =
      by_test (λ (o : Outcome). On o.after) (refuses plan a label) _ _ (λ e. onward_none 32 a)
      (λ e.
      let reached = (both_false (eqb label.dpc plan.code) (unreachable plan a label) e).1 in
      if_done_lem (λ (o : Outcome). On o.after) (place_reply a) _ _ (λ done. queued_onward label size reached) (onward_none 32 a))

  pub sent_onward : (message : List ℕ) → On (sent plan message a).after
  unfolding sent
  sent_onward message =
      by_test (λ (o : Outcome). On o.after) plan.given _ _ (λ e. host_onward (length message) (from_host plan message))
      (λ e. onward_none 32 a)
