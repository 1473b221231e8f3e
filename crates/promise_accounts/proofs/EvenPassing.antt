-- A message for another point, from a link or from the host: queued, or not; where a TFP is made it is held.
-- Assumes nothing.
use mathlib.Core.Path.{◌≡◌, ◌∙◌}
use mathlib.Core.Bool.{Bool, false}
use mathlib.Core.List.{List, []}
use Prim.Native.Nat.{ℕ, ◌≤◌, ◌<◌}
use native.Mathlib.Omega.{arith}
use lib.Dec.{eqb, ltb}
use lib.ListN.{length, length-set}
use borrow.Author.Tests.{ltb-true, not-false}
use Rattle.plan.specs.declared.data.Plan.{Plan}
use Rattle.plan.specs.Find.{place_of}
use Rattle.plan.proofs.Split.{both_false}
use Rattle.area_flags.specs.Flags.{flag_at}
use Rattle.wire.specs.declared.header.Label.{Label}
use Rattle.replies.specs.Reply.{done}
use Rattle.replies.specs.Areas.{Areas, Outcome, with_marks}
use Rattle.route_choice.specs.Which.{none}
use Rattle.queue_heads.specs.Head.{both}
use Rattle.queue_joining.specs.Queue.{user_reply, user_arrivals, counted}
use Rattle.management_making.specs.Make.{with_made, makes_reply}
use Rattle.queue_moving.specs.Move.{apart}
use Rattle.constants.specs.Constants.{t6}
use Rattle.discrimination.specs.declared.Came.{Came}
use Rattle.discrimination.specs.declared.Came.TheVariants.{Malformed, Foreign, Delivered, Managed, Passed}
use Rattle.discrimination.specs.Discrimination.{from_host}
use Rattle.passing_passage.specs.Passage.{link_of, unreachable, ring_by, ring_of, place_reply, queued, prohibited_to, tells}
use Rattle.passing.specs.Pass.{marks_told, not_reached, passed}
use Rattle.passing_offering.specs.Host.{refuses, offered, from_host_by, sent}
use Rattle.promise_runs.proofs.Outcomes.{RegularIn, by_test, if_done_lem}
use Rattle.promise_accounts.proofs.Even.{KindsIn, Even, even_none, even_marks, EvenBy, untold, refused_even, unjudged_even}
use Rattle.promise_ledger.proofs.FreeKinds.{kinds_user}
use Rattle.promise_ledger.proofs.Joined.{user_even}
use Rattle.promise_accounts.proofs.Small.{Small, host_small}
use Rattle.promise_accounts.proofs.EvenMaking.{made_even}

-- the number used up is still one number
user_one : (spans arrivals : List ℕ) → length arrivals ≡ 1 → length (user_arrivals spans arrivals) ≡ 1
unfolding user_arrivals
user_one spans arrivals long =
    if_done_lem (λ (l : List ℕ). length l ≡ 1) (user_reply spans arrivals) (counted arrivals) arrivals
    (λ e. length-set arrivals 0 _ ∙ long)
    long

module _ (test : ℕ → Bool) (a : Areas) (octets : List ℕ) (regular : RegularIn a octets) (long : length a.arrivals ≡ 1)
    (kinds : KindsIn test a)
    (plan : Plan) where
  -- a message that has a way
  ring_within : (label : Label) → unreachable plan a label ≡ false → ring_of plan a label < 33
  unfolding ring_by
  ring_within label reached =
      let h = ltb-true (link_of plan a label) none (not-false (ltb (link_of plan a label) none) reached) in
      by_test (λ (ring : ℕ). ring < 33) (flag_at a.marks (place_of plan label.dpc) t6) apart (link_of plan a label)
      (λ e. omega arith)
      (λ e. omega arith)

  queued_even : (label : Label) (size : ℕ) → size ≤ 273 → unreachable plan a label ≡ false → Even test a (queued plan a label size) 0
  unfolding queued
  queued_even label size small reached =
      record {
        one = user_one a.spans a.arrivals long;
        even =
            omega (
              arith,
              user_even test a.rows octets (both a.spans a.rings) regular.store a.arrivals long (ring_of plan a label)
                  (ring_within label reached)
                  kinds
                  label.dpc
                  label.sls
                  size
                  small,
            );
        apart =
            λ kinds.
            kinds_user a.rows octets (both a.spans a.rings) regular.store kinds a.arrivals (ring_of plan a label)
            (ring_within label reached);
      }

  -- one that has none
  not_reached_even : (arriving x : ℕ) → EvenBy test a (not_reached plan arriving x a) []
  unfolding not_reached
  not_reached_even arriving x =
      let draft = prohibited_to plan arriving x in
      let marks = marks_told plan a arriving x in
      let b : Areas = with_marks (with_made plan draft a) marks in
      by_test (λ (o : Outcome). EvenBy test a o []) (tells plan a.marks x) _ _
      (λ e.
      unjudged_even test a long (makes_reply plan draft a) _
      (λ done.
      untold test a 9 b (even_marks test a (with_made plan draft a) 0 (made_even a octets regular test long plan draft) marks)))
      (λ e. untold test a 9 a (even_none test a long))

  -- from a link
  pub passed_even : (arriving : ℕ) (label : Label) (size : ℕ) → size ≤ 273 → EvenBy test a (passed plan arriving label size a) []
  unfolding passed
  passed_even arriving label size small =
      by_test (λ (o : Outcome). EvenBy test a o []) (unreachable plan a label) _ _
      (λ e. not_reached_even arriving label.dpc)
      (λ e.
      unjudged_even test a long (place_reply a) _ (λ done. untold test a 0 (queued plan a label size) (queued_even label size small e)))

  -- from the host
  offered_even : (label : Label) (size : ℕ) → size ≤ 273 → EvenBy test a (offered plan label size a) []
  unfolding offered refuses
  offered_even label size small =
      by_test (λ (o : Outcome). EvenBy test a o []) (refuses plan a label) _ _
      (λ e. refused_even test a long 9)
      (λ e.
      let reached = (both_false (eqb label.dpc plan.code) (unreachable plan a label) e).1 in
      unjudged_even test a long (place_reply a) _ (λ done. untold test a 0 (queued plan a label size) (queued_even label size small reached)))

  host_even : (size : ℕ) (came : Came) → Small came size → EvenBy test a (from_host_by plan came size a) []
  unfolding from_host_by Small
  host_even size Malformed small = refused_even test a long 3
  host_even size Foreign small = refused_even test a long 4
  host_even size Delivered small = refused_even test a long 3
  host_even size (Managed order) small = refused_even test a long 3
  host_even size (Passed label) small = offered_even label size small.1

  pub sent_even : (message : List ℕ) → EvenBy test a (sent plan message a) []
  unfolding sent
  sent_even message =
      by_test (λ (o : Outcome). EvenBy test a o []) plan.given _ _ (λ e. host_even (length message) (from_host plan message) (host_small plan message))
      (λ e. refused_even test a long 2)
