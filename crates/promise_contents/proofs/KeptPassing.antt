-- A message for another point, from a link or from the host: its slot is written, and the others are left.
-- Assumes nothing.
use mathlib.Core.Path.{◌≡◌}
use mathlib.Core.List.{List}
use Prim.Native.Nat.{ℕ}
use lib.Dec.{eqb}
use lib.ListN.{length}
use Rattle.plan.specs.declared.data.Plan.{Plan}
use Rattle.wire.specs.declared.header.Label.{Label}
use Rattle.replies.specs.Reply.{plain, done}
use Rattle.replies.specs.Areas.{Areas, Outcome, outcome, judged, refused, with_marks}
use Rattle.queue_heads.specs.Head.{both}
use Rattle.management_making.specs.Make.{with_made, makes_reply}
use Rattle.discrimination.specs.declared.Came.{Came}
use Rattle.discrimination.specs.declared.Came.TheVariants.{Malformed, Foreign, Delivered, Managed, Passed}
use Rattle.discrimination.specs.Discrimination.{from_host}
use Rattle.passing_passage.specs.Passage.{unreachable, place_reply, queued, octets_queued, prohibited_to, tells}
use Rattle.passing.specs.Pass.{marks_told, not_reached, passed, octets_passed}
use Rattle.passing_offering.specs.Host.{refuses, offered, from_host_by, sent, octets_offered, octets_by, octets_sent}
use Rattle.promise_runs.proofs.Outcomes.{by_test, both_by_test}
use Rattle.promise_contents.specs.Content.{Kept}
use Rattle.promise_contents.proofs.Kept.{content_in, kept_none, user_kept, refused_kept}
use Rattle.promise_contents.proofs.KeptMaking.{KeptBy, judged_kept, made_kept}

module _ (plan : Plan) (a : Areas) (octets : List ℕ) (all : length a.rows ≡ 2048) where
  -- an outcome, with the octets after it
  abbrev pub KeptWith : Outcome → List ℕ → Type 0
  KeptWith o written = Kept (content_in a octets) (content_in o.after written)

  -- a message that has a way: queued, or refused
  place_kept : (message : List ℕ) (o : Outcome)
      → KeptWith o (octets_queued a octets message)
      → KeptWith (judged (place_reply a) o a) (octets_queued a octets message)
  unfolding octets_queued
  place_kept message o kept =
      by_test (λ (o : Outcome). KeptWith o (octets_queued a octets message)) (eqb (place_reply a) 0) o (refused (place_reply a) a)
      (λ e. kept)
      (λ e. refused_kept a.rows octets a.arrivals all (both a.spans a.rings) message e)

  -- it is written into its slot
  queued_kept : (label : Label) (message : List ℕ)
      → Kept (content_in a octets) (content_in (queued plan a label (length message)) (octets_queued a octets message))
  unfolding queued octets_queued
  queued_kept label message =
      user_kept a.rows octets a.arrivals all (both a.spans a.rings) label.dpc label.sls message

  -- one that has none
  not_reached_kept : (arriving x : ℕ) → KeptBy a octets (not_reached plan arriving x a)
  unfolding not_reached
  not_reached_kept arriving x =
      let draft = prohibited_to plan arriving x in
      let then : Areas = with_marks (with_made plan draft a) (marks_told plan a arriving x) in
      by_test (KeptBy a octets) (tells plan a.marks x) (judged (makes_reply plan draft a) (outcome (plain 9) then) a)
      (outcome (plain 9) a)
      (λ e. judged_kept a octets (makes_reply plan draft a) (outcome (plain 9) then) (made_kept a octets all plan draft))
      (λ e. kept_none (content_in a octets))

  -- from a link
  pub passed_kept : (arriving : ℕ) (label : Label) (message : List ℕ)
      → KeptWith (passed plan arriving label (length message) a) (octets_passed plan label a octets message)
  unfolding passed octets_passed queued
  passed_kept arriving label message =
      let o : Outcome = outcome (done 0) (queued plan a label (length message)) in
      both_by_test KeptWith (unreachable plan a label) (not_reached plan arriving label.dpc a) (judged (place_reply a) o a) octets
      (octets_queued a octets message)
      (λ e. not_reached_kept arriving label.dpc)
      (λ e. place_kept message o (queued_kept label message))

  -- from the host
  offered_kept : (label : Label) (message : List ℕ)
      → KeptWith (offered plan label (length message) a) (octets_offered plan label a octets message)
  unfolding offered octets_offered
  offered_kept label message =
      let o : Outcome = outcome (done 0) (queued plan a label (length message)) in
      both_by_test KeptWith (refuses plan a label) (refused 9 a) (judged (place_reply a) o a) octets (octets_queued a octets message)
      (λ e. kept_none (content_in a octets))
      (λ e. place_kept message o (queued_kept label message))

  -- by what it is
  host_kept : (message : List ℕ) (came : Came)
      → KeptWith (from_host_by plan came (length message) a) (octets_by plan came a octets message)
  unfolding from_host_by octets_by
  host_kept message Malformed = kept_none (content_in a octets)
  host_kept message Foreign = kept_none (content_in a octets)
  host_kept message Delivered = kept_none (content_in a octets)
  host_kept message (Managed order) = kept_none (content_in a octets)
  host_kept message (Passed label) = offered_kept label message

  -- with a node, or without
  pub sent_kept : (message : List ℕ) → KeptWith (sent plan message a) (octets_sent plan message a octets)
  unfolding sent octets_sent
  sent_kept message =
      both_by_test KeptWith plan.given (from_host_by plan (from_host plan message) (length message) a) (refused 2 a)
      (octets_by plan (from_host plan message) a octets message)
      octets
      (λ e. host_kept message (from_host plan message))
      (λ e. kept_none (content_in a octets))
