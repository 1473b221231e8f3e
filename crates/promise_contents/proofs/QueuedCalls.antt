-- A message for another point that gets reply 0, from a link or from the host, stands in its slot; any other reply is not 0.
-- Assumes nothing.
use mathlib.Core.Path.{◌≡◌, sym, subst}
use mathlib.Core.List.{List}
use Prim.Native.Nat.{ℕ, ◌≤◌}
use native.Mathlib.Omega.{arith}
use lib.Dec.{eqb}
use lib.ListN.{length}
use Rattle.plan.specs.declared.data.Plan.{Plan}
use Rattle.plan.proofs.Split.{both_false}
use Rattle.queue_store.specs.Sound.{Sound, Kinds}
use Rattle.wire.specs.declared.header.Label.{Label}
use Rattle.replies.specs.Reply.{plain, done}
use Rattle.replies.specs.Areas.{Areas, Outcome, outcome, judged, refused, with_marks}
use Rattle.numbers.specs.Numbers.{is_taken}
use Rattle.numbers.specs.Taken.{with_taken, taken_by}
use Rattle.management_making.specs.Make.{with_made, makes_reply}
use Rattle.discrimination.specs.declared.Came.{Came}
use Rattle.discrimination.specs.declared.Came.TheVariants.{Malformed, Foreign, Delivered, Managed, Passed}
use Rattle.discrimination.specs.Discrimination.{from_link, from_host}
use Rattle.passing_passage.specs.Passage.{unreachable, place_reply, queued, octets_queued, prohibited_to, tells}
use Rattle.passing.specs.Pass.{marks_told, not_reached, passed, octets_passed}
use Rattle.passing_offering.specs.Host.{refuses, offered, from_host_by, sent, octets_offered, octets_by, octets_sent}
use Rattle.receiving.specs.Receive.{reply_of, received_by, received, octets_received}
use Rattle.receiving.specs.Receive as Receive
use Rattle.promise_runs.proofs.Outcomes.{by_test, both_by_test}
use Rattle.promise_accounts.proofs.Small.{Small, link_small, host_small}
use Rattle.promise_contents.proofs.Queued.{not_done, Does, queued_stands, place_stands}

module _
    (plan : Plan)
    (a : Areas)
    (octets : List ℕ)
    (sound : Sound a.spans a.rings a.rows octets)
    (kinds : Kinds a.spans a.rings)
    (one : length a.arrivals ≡ 1)
    (message : List ℕ) where
  -- it stands there where the reply is 0
  abbrev StandsBy : Outcome → List ℕ → Type 0
  StandsBy = Does plan a octets sound kinds one message

  module _ (small : length message ≤ 273) where
    -- one that has no way gets another reply
    not_reached_lem : (arriving x : ℕ) → StandsBy (not_reached plan arriving x a) octets
    unfolding not_reached
    not_reached_lem arriving x =
        let draft = prohibited_to plan arriving x in
        let then : Outcome = outcome (plain 9) (with_marks (with_made plan draft a) (marks_told plan a arriving x)) in
        by_test (λ (o : Outcome). StandsBy o octets) (tells plan a.marks x) (judged (makes_reply plan draft a) then a)
        (outcome (plain 9) a)
        (λ e.
        by_test (λ (o : Outcome). StandsBy o octets) (eqb (makes_reply plan draft a) 0) then (refused (makes_reply plan draft a) a)
        (λ made none. absurd (omega arith))
        (not_done (makes_reply plan draft a)))
        (λ e none. absurd (omega arith))

    -- from a link
    passed_stands : (arriving : ℕ) (label : Label)
        → StandsBy (passed plan arriving label (length message) a) (octets_passed plan label a octets message)
    unfolding passed octets_passed queued
    passed_stands arriving label =
        let o : Outcome = outcome (done 0) (queued plan a label (length message)) in
        both_by_test StandsBy (unreachable plan a label) (not_reached plan arriving label.dpc a) (judged (place_reply a) o a) octets
        (octets_queued a octets message)
        (λ e. not_reached_lem arriving label.dpc)
        (λ e.
        place_stands plan a octets sound kinds one message small o
        (λ placed none. queued_stands plan a octets sound kinds one message small label e placed))

    -- from the host
    offered_stands : (label : Label) → StandsBy (offered plan label (length message) a) (octets_offered plan label a octets message)
    unfolding offered octets_offered refuses
    offered_stands label =
        let o : Outcome = outcome (done 0) (queued plan a label (length message)) in
        both_by_test StandsBy (refuses plan a label) (refused 9 a) (judged (place_reply a) o a) octets (octets_queued a octets message)
        (λ e none. absurd (omega arith))
        (λ e.
        place_stands plan a octets sound kinds one message small o
        (λ placed none. queued_stands plan a octets sound kinds one message small label (both_false (eqb label.dpc plan.code) (unreachable plan a label) e).1 placed))

  -- by what it is
  host_stands : (came : Came) → Small came (length message)
      → StandsBy (from_host_by plan came (length message) a) (octets_by plan came a octets message)
  unfolding from_host_by octets_by Small
  host_stands Malformed small none = absurd (omega arith)
  host_stands Foreign small none = absurd (omega arith)
  host_stands Delivered small none = absurd (omega arith)
  host_stands (Managed order) small none = absurd (omega arith)
  host_stands (Passed label) small none = offered_stands small.1 label none

  -- with a node: without one the reply is 2
  pub sent_stands : StandsBy (sent plan message a) (octets_sent plan message a octets)
  unfolding sent octets_sent
  sent_stands =
      both_by_test StandsBy plan.given (from_host_by plan (from_host plan message) (length message) a) (refused 2 a)
      (octets_by plan (from_host plan message) a octets message)
      octets
      (λ e. host_stands (from_host plan message) (host_small plan message))
      (λ e none. absurd (omega arith))

  -- by what it is
  came_stands : (arriving fsn : ℕ) (label : Label) (came : Came) → Passed label ≡ came → Small came (length message)
      → StandsBy (received_by plan arriving fsn (length message) came a) (Receive.octets_by plan came a octets message)
  unfolding received_by Receive.octets_by Small
  came_stands arriving fsn label came is =
      subst
      (λ (came : Came).
      Small came (length message)
      → StandsBy (received_by plan arriving fsn (length message) came a) (Receive.octets_by plan came a octets message))
      is
      (λ small. passed_stands small.1 arriving label)

  -- taken, or not
  taken_stands : (arriving fsn : ℕ) (o : Outcome) (written : List ℕ) → StandsBy o written → StandsBy (taken_by arriving fsn o) written
  taken_stands arriving fsn o written stands =
      by_test (λ (b : Areas). StandsBy (outcome o.answer b) written) (is_taken o.answer.reply) (with_taken arriving fsn o.after) o.after
      (λ e. stands)
      (λ e. stands)

  -- judged by the reply first
  pub received_stands : (arriving fsn : ℕ) (label : Label) → from_link plan message ≡ Passed label
      → StandsBy (received plan arriving fsn message a) (octets_received plan arriving fsn message a octets)
  unfolding received octets_received
  received_stands arriving fsn label is =
      let reply = reply_of plan a.links arriving fsn a.reports in
      let became : Outcome = received_by plan arriving fsn (length message) (from_link plan message) a in
      let written = Receive.octets_by plan (from_link plan message) a octets message in
      both_by_test StandsBy (eqb reply 0) (taken_by arriving fsn became) (refused reply a) written octets
      (λ e. taken_stands arriving fsn became written (came_stands arriving fsn label (from_link plan message) (sym is) (link_small plan message)))
      (not_done reply)
