-- A management message, and a TFP that is made: a slot is as it was, or the answer or the TFP is written there.
-- Assumes nothing.
use mathlib.Core.Bool.{Bool, true, false}
use mathlib.Core.List.{List}
use Prim.Native.Nat.{ℕ, ◌≤◌, ◌<◌}
use native.Mathlib.Omega.{arith}
use Rattle.plan.specs.declared.data.Plan.{Plan}
use Rattle.area_links.specs.LinkRecords.{record_at}
use Rattle.queue_rings.specs.Ring.{count_of}
use Rattle.queue_store.specs.Sound.{Kinds}
use Rattle.wire_messages.specs.declared.management.Message.{Message}
use Rattle.wire_messages.specs.declared.management.Message.TheVariants.{COO, COA, CBD, CBA, ECO, ECA, TFP, TFA, RST}
use Rattle.replies.specs.Reply.{done}
use Rattle.replies.specs.Areas.{Areas, Outcome, outcome, judged}
use Rattle.management_making.specs.Make.{with_made, makes_reply}
use Rattle.changeover_ending.specs.End.{out_of_service}
use Rattle.management_steps.specs.declared.Step.{Step}
use Rattle.management_orders.specs.Carry.{answer_reply, with_answer, ended_by, carried}
use Rattle.changeback_waiting.specs.Wait.{answers, answered_by}
use Rattle.rerouting_marking.specs.Mark.{counts}
use Rattle.rerouting.specs.Transfer.{transferred}
use Rattle.managing.specs.Managed.{asked, step_asked, managed}
use Rattle.passing_passage.specs.Passage.{prohibited_to, tells}
use Rattle.passing.specs.Pass.{not_reached}
use Rattle.passing_offering.specs.Host.{sent}
use Rattle.promise_runs.proofs.Outcomes.{RegularIn, by_test, both_by_test}
use Rattle.promise_runs.proofs.KeepsMaking.{made_regular}
use Rattle.promise_accounts.proofs.EvenEnding.{sent_queued}
use Rattle.promise_accounts.proofs.Bearing.{Bears, asked_bears}
use Rattle.promise_contents.specs.Made.{New, Nothing, Made, answer_in}
use Rattle.promise_contents.proofs.FreeEvents.{Stays, stays_none, judged_stays, out_stays}
use Rattle.promise_contents.proofs.FreeQueued.{made_stays}

module _ (plan : Plan) (a : Areas) (octets : List ℕ) (regular : RegularIn a octets) (kinds : Kinds a.spans a.rings) where
  -- by an outcome
  abbrev pub StaysBy : New → Outcome → Type 0
  StaysBy new o = Stays new a o.after

  module _ (step : Step) where
    abbrev answered : Areas
    answered = with_answer plan step a

    -- the answer that a step asks
    answer_regular : RegularIn answered octets
    unfolding with_answer
    answer_regular =
        by_test (λ (b : Areas). RegularIn b octets) step.answers (with_made plan step.draft a) a
        (λ e. made_regular a octets regular plan step.draft)
        (λ e. regular)

    -- it takes a free slot, or none
    answer_stays : Stays (answer_in step) a answered
    unfolding with_answer
    answer_stays =
        both_by_test (λ (new : New) (b : Areas). Stays new a b) step.answers (Made step.draft) Nothing (with_made plan step.draft a) a
        (λ e. made_stays a octets regular kinds plan step.draft)
        (λ e. stays_none Nothing a)

    -- the link that goes out by a step, if one does
    ended_stays : Bears (count_of a.spans) step → StaysBy (answer_in step) (ended_by plan step answered)
    unfolding ended_by
    ended_stays bears =
        by_test (StaysBy (answer_in step)) step.ends (out_of_service plan answered step.link step.parts) (outcome (done 0) answered)
        (λ ends.
        out_stays (answer_in step) a answered octets answer_stays answer_regular plan step.link (omega (arith, (bears ends).0)) step.parts)
        (λ e. answer_stays)

    -- a step that is carried out
    carried_stays : Bears (count_of a.spans) step → StaysBy (answer_in step) (carried plan step a)
    unfolding carried
    carried_stays bears =
        judged_stays (answer_in step) a step.reply (judged (answer_reply plan step a) (ended_by plan step answered) a)
        (λ asks. judged_stays (answer_in step) a (answer_reply plan step a) (ended_by plan step answered) (λ done. ended_stays bears))

  module _ (arriving fsn point slc : ℕ) where
    -- what is sent of a link is in its queue
    queued_there : (link : ℕ) → link < 32 → (record_at a.links link).sent ≤ count_of a.spans link
    queued_there link h = sent_queued (record_at a.links link) (count_of a.spans link) (regular.each_link link h)

    -- one that is answered, or ends a changeover
    carries_out : (message : Message)
        → let step = step_asked plan a.links a.marks arriving fsn point slc message in
        StaysBy (answer_in step) (carried plan step a)
    carries_out message =
        carried_stays (step_asked plan a.links a.marks arriving fsn point slc message)
        (asked_bears (count_of a.spans) plan a.links a.marks queued_there arriving fsn point slc message)

    -- a CBA
    answered_stays : (code : ℕ) → StaysBy Nothing (answered_by plan point slc code a)
    unfolding answered_by
    answered_stays code =
        by_test (StaysBy Nothing) (answers plan a.links point slc code) _ _ (λ e. stays_none Nothing a) (λ e. stays_none Nothing a)

    -- a TFP, or a TFA
    transferred_stays : (x : ℕ) (prohibits : Bool) → StaysBy Nothing (transferred plan point x prohibits a)
    unfolding transferred
    transferred_stays x prohibits =
        by_test (StaysBy Nothing) (counts plan a.marks point x prohibits) _ _ (λ e. stays_none Nothing a) (λ e. stays_none Nothing a)

    -- each of the nine management messages
    pub managed_stays : (message : Message)
        → StaysBy (answer_in (step_asked plan a.links a.marks arriving fsn point slc message))
        (managed plan arriving fsn point slc message a)
    unfolding managed asked
    managed_stays (COO f) = carries_out (COO f)
    managed_stays (COA f) = carries_out (COA f)
    managed_stays (CBD code) = carries_out (CBD code)
    managed_stays (CBA code) = answered_stays code
    managed_stays ECO = carries_out ECO
    managed_stays ECA = carries_out ECA
    managed_stays (TFP x) = transferred_stays x true
    managed_stays (TFA x) = transferred_stays x false
    managed_stays (RST x) = carries_out (RST x)

  -- one that has no way
  pub not_reached_stays : (arriving x : ℕ) → StaysBy (Made (prohibited_to plan arriving x)) (not_reached plan arriving x a)
  unfolding not_reached
  not_reached_stays arriving x =
      let draft = prohibited_to plan arriving x in
      by_test (StaysBy (Made draft)) (tells plan a.marks x) _ _
      (λ e. judged_stays (Made draft) a (makes_reply plan draft a) _ (λ done. made_stays a octets regular kinds plan draft))
      (λ e. stays_none (Made draft) a)
