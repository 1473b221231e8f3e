-- A message for another point that gets reply 0, from a link or from the host, joins its queue; any other reply is not 0.
-- Assumes nothing.
use mathlib.Core.Path.{◌≡◌, refl, sym, subst}
use mathlib.Core.Bool.{false}
use mathlib.Core.List.{List}
use Prim.Native.Nat.{ℕ, ◌≤◌}
use native.Mathlib.Omega.{arith}
use lib.Dec.{eqb}
use lib.ListN.{length}
use borrow.Author.Tests.{eqb-true, eqb-false}
use Rattle.plan.specs.declared.data.Plan.{Plan}
use Rattle.plan.proofs.Split.{both_false}
use Rattle.queue_store.specs.Sound.{Sound, Kinds}
use Rattle.wire.specs.declared.header.Label.{Label}
use Rattle.replies.specs.Reply.{plain, done}
use Rattle.replies.specs.Areas.{Areas, Outcome, outcome, judged, refused, with_marks}
use Rattle.numbers.specs.Numbers.{is_taken}
use Rattle.numbers.specs.Taken.{with_taken, taken_by}
use Rattle.management_making.specs.Make.{with_made, makes_reply}
use Rattle.discrimination.specs.declared.Came.{Came}
use Rattle.discrimination.specs.declared.Came.TheVariants.{Malformed, Foreign, Delivered, Managed, Passed}
use Rattle.discrimination.specs.Discrimination.{from_link, from_host}
use Rattle.passing_passage.specs.Passage.{unreachable, place_reply, queued, prohibited_to, tells}
use Rattle.passing.specs.Pass.{marks_told, not_reached, passed}
use Rattle.passing_offering.specs.Host.{refuses, offered, from_host_by, sent}
use Rattle.receiving.specs.Receive.{reply_of, received_by, received}
use Rattle.promise_runs.proofs.Outcomes.{by_test}
use Rattle.promise_accounts.proofs.Small.{Small, link_small, host_small}
use Rattle.promise_queueing.specs.Joining.{Joins}
use Rattle.promise_queueing.proofs.Joining.{queued_joins}

module _
    (plan : Plan)
    (a : Areas)
    (octets : List ℕ)
    (sound : Sound a.spans a.rings a.rows octets)
    (kinds : Kinds a.spans a.rings)
    (one : length a.arrivals ≡ 1)
    (message : List ℕ) where
  module _ (label : Label) where
    -- it joins its queue where the reply is 0
    abbrev pub Does : Outcome → Type 0
    Does o = o.answer.reply ≡ 0 → Joins plan label a o.after

    -- a message that has a way
    place_joins : length message ≤ 273 → unreachable plan a label ≡ false
        → Does (judged (place_reply a) (outcome (done 0) (queued plan a label (length message))) a)
    place_joins small reached =
        let o : Outcome = outcome (done 0) (queued plan a label (length message)) in
        by_test Does (eqb (place_reply a) 0) o (refused (place_reply a) a)
        (λ e none. queued_joins plan a octets sound kinds one label reached (eqb-true (place_reply a) 0 e) (length message) small)
        (λ e none. absurd (eqb-false (place_reply a) 0 e none))

    -- one that has no way gets another reply
    not_reached_lem : (arriving x : ℕ) → Does (not_reached plan arriving x a)
    unfolding not_reached
    not_reached_lem arriving x =
        let draft = prohibited_to plan arriving x in
        let then : Outcome = outcome (plain 9) (with_marks (with_made plan draft a) (marks_told plan a arriving x)) in
        by_test Does (tells plan a.marks x) (judged (makes_reply plan draft a) then a) (outcome (plain 9) a)
        (λ e.
        by_test Does (eqb (makes_reply plan draft a) 0) then (refused (makes_reply plan draft a) a) (λ made none. absurd (omega arith))
        (λ e none. absurd (eqb-false (makes_reply plan draft a) 0 e none)))
        (λ e none. absurd (omega arith))

    -- from a link
    passed_joins : length message ≤ 273 → (arriving : ℕ) → Does (passed plan arriving label (length message) a)
    unfolding passed
    passed_joins small arriving =
        by_test Does (unreachable plan a label) (not_reached plan arriving label.dpc a)
        (judged (place_reply a) (outcome (done 0) (queued plan a label (length message))) a)
        (λ e. not_reached_lem arriving label.dpc)
        (place_joins small)

    -- from the host
    offered_joins : length message ≤ 273 → Does (offered plan label (length message) a)
    unfolding offered refuses
    offered_joins small =
        by_test Does (refuses plan a label) (refused 9 a)
        (judged (place_reply a) (outcome (done 0) (queued plan a label (length message))) a)
        (λ e none. absurd (omega arith))
        (λ e. place_joins small (both_false (eqb label.dpc plan.code) (unreachable plan a label) e).1)

    -- by what it is
    came_joins : (arriving fsn : ℕ) (came : Came) → Passed label ≡ came → Small came (length message)
        → Does (received_by plan arriving fsn (length message) came a)
    unfolding received_by Small
    came_joins arriving fsn came is =
        subst (λ (came : Came). Small came (length message) → Does (received_by plan arriving fsn (length message) came a)) is
        (λ small. passed_joins small.1 arriving)

    -- taken, or not
    taken_joins : (arriving fsn : ℕ) (o : Outcome) → Does o → Does (taken_by arriving fsn o)
    taken_joins arriving fsn o does none =
        let joins = does none in
        by_test (Joins plan label a) (is_taken o.answer.reply) (with_taken arriving fsn o.after) o.after
        (λ e. record { somewhere = joins.somewhere; queues = joins.queues; counted = joins.counted })
        (λ e. joins)

    -- judged by the reply first
    pub received_joins : (arriving fsn : ℕ) → from_link plan message ≡ Passed label → Does (received plan arriving fsn message a)
    unfolding received
    received_joins arriving fsn is =
        let reply = reply_of plan a.links arriving fsn a.reports in
        let became : Outcome = received_by plan arriving fsn (length message) (from_link plan message) a in
        by_test Does (eqb reply 0) (taken_by arriving fsn became) (refused reply a)
        (λ e. taken_joins arriving fsn became (came_joins arriving fsn (from_link plan message) (sym is) (link_small plan message)))
        (λ e none. absurd (eqb-false reply 0 e none))

    -- from the host, by what it is
    host_joins : (came : Came) → Passed label ≡ came → Small came (length message) → Does (from_host_by plan came (length message) a)
    unfolding from_host_by Small
    host_joins came is =
        subst (λ (came : Came). Small came (length message) → Does (from_host_by plan came (length message) a)) is
        (λ small. offered_joins small.1)

    -- with a node: without one the reply is 2
    pub sent_joins : from_host plan message ≡ Passed label → Does (sent plan message a)
    unfolding sent
    sent_joins is =
        by_test Does plan.given (from_host_by plan (from_host plan message) (length message) a) (refused 2 a)
        (λ e. host_joins (from_host plan message) (sym is) (host_small plan message))
        (λ e none. absurd (omega arith))

  -- a message of the host that gets reply 0 is one for another point
  abbrev Labelled : Came → Type 0
  Labelled came = (label : Label) × (came ≡ Passed label)

  host_labelled : (came : Came) → (from_host_by plan came (length message) a).answer.reply ≡ 0 → Labelled came
  unfolding from_host_by
  host_labelled Malformed none = absurd (omega arith)
  host_labelled Foreign none = absurd (omega arith)
  host_labelled Delivered none = absurd (omega arith)
  host_labelled (Managed order) none = absurd (omega arith)
  host_labelled (Passed label) none = (label, refl)

  pub sent_labelled : (sent plan message a).answer.reply ≡ 0 → Labelled (from_host plan message)
  unfolding sent
  sent_labelled =
      by_test (λ (o : Outcome). o.answer.reply ≡ 0 → Labelled (from_host plan message)) plan.given
      (from_host_by plan (from_host plan message) (length message) a)
      (refused 2 a)
      (λ e. host_labelled (from_host plan message))
      (λ e none. absurd (omega arith))
