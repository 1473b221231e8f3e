-- A message received over a link: every link's queue but that of one that goes out goes on.
-- Assumes nothing.
use mathlib.Core.Path.{◌≡◌, refl, ap, ◌∙◌}
use mathlib.Core.Bool.{Bool, true, false, cond, not, ◌&&◌}
use mathlib.Core.List.{List}
use Prim.Native.Nat.{ℕ, ◌%◌}
use native.Mathlib.Omega.{arith}
use lib.Dec.{eqb}
use lib.ListN.{length}
use Rattle.plan.specs.declared.data.Plan.{Plan}
use Rattle.area_links.specs.declared.LinkRecord.{LinkRecord}
use Rattle.area_links.specs.LinkRecords.{record_at}
use Rattle.queue_rings.specs.Ring.{count_of}
use Rattle.wire_messages.specs.declared.management.Message.{Message}
use Rattle.wire_messages.specs.declared.management.Message.TheVariants.{COO, COA, CBD, CBA, ECO, ECA, TFP, TFA, RST}
use Rattle.reports.specs.Report.{short}
use Rattle.replies.specs.Reply.{done, if_done}
use Rattle.replies.specs.Areas.{Areas, Outcome, outcome, refused}
use Rattle.lookup.specs.Lookup.{link_named}
use Rattle.numbers.specs.Numbers.{is_taken}
use Rattle.numbers.specs.Taken.{with_taken, taken_by}
use Rattle.management_making.specs.Make.{with_made}
use Rattle.changeover_ending.specs.End.{out_of_service}
use Rattle.changeback_opening.specs.Opening.{waits, stopped}
use Rattle.changeback_waiting.specs.Wait.{answers, answered, answered_by}
use Rattle.rerouting_marking.specs.Mark.{counts}
use Rattle.rerouting.specs.Transfer.{transferred}
use Rattle.management_steps.specs.declared.Step.{Step}
use Rattle.management_orders.specs.Carry.{answer_reply, with_answer, ended_by, carried}
use Rattle.managing.specs.Managed.{asked, step_asked, managed}
use Rattle.discrimination.specs.declared.Came.{Came}
use Rattle.discrimination.specs.declared.Came.TheVariants.{Malformed, Foreign, Delivered, Managed, Passed}
use Rattle.discrimination.specs.Discrimination.{from_link}
use Rattle.receiving.specs.Receive.{received_by, received}
use Rattle.receiving.specs.Receive as Receive
use Rattle.promise_runs.proofs.Records.{record_rewritten}
use Rattle.promise_runs.proofs.Outcomes.{RegularIn, by_test, if_both_done}
use Rattle.promise_runs.proofs.KeepsReceiving.{came_regular}
use Rattle.promise_accounts.specs.Ending.{Ending, no_ending, ending_by_step, ending_by_message}
use Rattle.promise_accounts.proofs.Answers.{answer_regular, answer_reports}
use Rattle.promise_accounts.proofs.Bearing.{Bears, asked_bears}
use Rattle.promise_accounts.proofs.EvenEnding.{sent_queued}
use Rattle.promise_accounts.proofs.EvenReceiving.{room_there}
use Rattle.promise_farend.proofs.Tests.{three_tests}
use Rattle.promise_farend.proofs.Onward.{Same, Onward, onward_none, onward_on, onward_stored, onward_taken}
use Rattle.promise_farend.proofs.OnwardMade.{made_onward, out_onward}
use Rattle.promise_farend.proofs.OnwardPassing.{passed_onward}

-- the link that an ending is about, none where there is none
abbrev pub but_of : Ending → ℕ
but_of ending = cond ending.ends ending.link 32

-- what goes on for every link does for every link but one
pub onward_any : (a b : Areas) → Onward 32 a b → (but : ℕ) → Onward but a b
onward_any a b onward but = record {
  queues = λ link h other. onward.queues link h (λ e. omega arith);
  records = λ link h other. onward.records link h (λ e. omega arith);
}

-- a link that opens, or stays as it was, isn't out by that
opened_in : (state : ℕ) (opens : Bool) → cond opens 2 state % 4 ≡ 0 → state % 4 ≡ 0
opened_in state true out = absurd (omega (arith, out))
opened_in state false out = out

-- a timer of a waiting link that stops leaves its numbers
pub stopped_same : (known : LinkRecord) (timer : ℕ) → Same known (stopped known timer)
unfolding stopped
stopped_same known timer =
    by_test (Same known) (eqb timer 3) (waits known false known.code) (waits known known.t3 0)
    (λ e.
    record {
      acknowledged_same = refl;
      sent_same = refl;
      still_out = λ out. simp out;
      still_in = opened_in known.state (eqb known.state 1 && (not false && eqb known.code 0));
    })
    (λ e.
    record {
      acknowledged_same = refl;
      sent_same = refl;
      still_out = λ out. simp out;
      still_in = opened_in known.state (eqb known.state 1 && (not known.t3 && true));
    })

module _ (plan : Plan) (a : Areas) (octets : List ℕ) (regular : RegularIn a octets) (arriving fsn : ℕ) where
  -- a CBA
  answered_onward : (point slc code : ℕ) → Onward 32 a (answered_by plan point slc code a).after
  unfolding answered_by answered
  answered_onward point slc code =
      let link = link_named plan point slc in
      by_test (λ (o : Outcome). Onward 32 a o.after) (answers plan a.links point slc code) _ _
      (λ e.
      onward_stored 32 a a regular.links_long (onward_none 32 a)
      (record_rewritten a.links link (stopped (record_at a.links link) 4))
      (stopped_same (record_at a.links link) 4))
      (λ e. onward_none 32 a)

  -- a TFP, or a TFA
  transferred_onward : (point x : ℕ) (prohibits : Bool) → Onward 32 a (transferred plan point x prohibits a).after
  unfolding transferred
  transferred_onward point x prohibits =
      let here = onward_none 32 a in
      by_test (λ (o : Outcome). Onward 32 a o.after) (counts plan a.marks point x prohibits) _ _
      (λ e. record { queues = here.queues; records = here.records })
      (λ e. here)

  -- a step that is carried out: all but the link that it takes out go on
  module _ (step : Step) (wide : short a.reports ≡ false) (bears : Bears (count_of a.spans) step) where
    abbrev b : Areas
    b = with_answer plan step a

    answered_first : Onward 32 a b
    unfolding with_answer
    answered_first =
        by_test (λ (c : Areas). Onward 32 a c) step.answers (with_made plan step.draft a) a
        (λ e. made_onward a octets regular plan step.draft)
        (λ e. onward_none 32 a)

    carried_onward : Onward (but_of (ending_by_step plan a step)) a (carried plan step a).after
    unfolding carried ended_by ending_by_step
    carried_onward =
        three_tests (λ (ends : Bool) (o : Outcome). Onward (cond ends step.link 32) a o.after) (eqb step.reply 0)
        (eqb (answer_reply plan step a) 0)
        step.ends
        (out_of_service plan b step.link step.parts)
        (outcome (done 0) b)
        (refused (answer_reply plan step a) a)
        (refused step.reply a)
        (λ ends.
        let wide-then = ap short (answer_reports a octets regular plan step) ∙ wide in
        onward_on step.link a b (out_of_service plan b step.link step.parts).after (onward_any a b answered_first step.link)
        (out_onward b octets (answer_regular a octets regular plan step) plan step.link (bears ends).0 wide-then step.parts))
        answered_first
        (onward_none 32 a)
        (onward_none 32 a)

  -- each of the nine management messages
  module _ (wide : short a.reports ≡ false) (point slc : ℕ) where
    abbrev asks : Message → Step
    asks message = step_asked plan a.links a.marks arriving fsn point slc message

    carries_out : (message : Message)
        → Onward (but_of (ending_by_step plan a (asks message))) a (carried plan (asks message) a).after
    carries_out message =
        carried_onward (asks message) wide
        (asked_bears (count_of a.spans) plan a.links a.marks
        (λ link h. sent_queued (record_at a.links link) (count_of a.spans link) (regular.each_link link h))
        arriving
        fsn
        point
        slc
        message)

    managed_onward : (message : Message)
        → Onward (but_of (ending_by_step plan a (asks message))) a (managed plan arriving fsn point slc message a).after
    unfolding managed asked ending_by_step
    managed_onward (COO f) = carries_out (COO f)
    managed_onward (COA f) = carries_out (COA f)
    managed_onward (CBD code) = carries_out (CBD code)
    managed_onward (CBA code) = answered_onward point slc code
    managed_onward ECO = carries_out ECO
    managed_onward ECA = carries_out ECA
    managed_onward (TFP x) = transferred_onward point x true
    managed_onward (TFA x) = transferred_onward point x false
    managed_onward (RST x) = carries_out (RST x)

  came_onward : short a.reports ≡ false → (size : ℕ) (came : Came)
      → Onward (but_of (ending_by_message plan a arriving fsn came)) a (received_by plan arriving fsn size came a).after
  unfolding ending_by_message received_by
  came_onward wide size Malformed = onward_none 32 a
  came_onward wide size Foreign = onward_none 32 a
  came_onward wide size Delivered = onward_none 32 a
  came_onward wide size (Managed order) = managed_onward wide order.point order.slc order.message
  came_onward wide size (Passed label) = passed_onward plan a octets regular arriving label size

  -- taken, or not
  taken_onward : (but : ℕ) (o : Outcome) → length o.after.links ≡ 256 → Onward but a o.after
      → Onward but a (taken_by arriving fsn o).after
  taken_onward but o long onward =
      by_test (Onward but a) (is_taken o.answer.reply) (with_taken arriving fsn o.after) o.after
      (λ e. onward_taken but a o.after long onward arriving fsn)
      (λ e. onward)

  pub received_onward : (message : List ℕ)
      → Onward
      (but_of
      (if_done (Receive.reply_of plan a.links arriving fsn a.reports) (ending_by_message plan a arriving fsn (from_link plan message))
      (no_ending a)))
      a
      (received plan arriving fsn message a).after
  unfolding received
  received_onward message =
      let became : Outcome = received_by plan arriving fsn (length message) (from_link plan message) a in
      if_both_done (λ (e : Ending) (o : Outcome). Onward (but_of e) a o.after) (Receive.reply_of plan a.links arriving fsn a.reports)
      (ending_by_message plan a arriving fsn (from_link plan message))
      (no_ending a)
      (taken_by arriving fsn became)
      (refused (Receive.reply_of plan a.links arriving fsn a.reports) a)
      (λ done.
      taken_onward (but_of (ending_by_message plan a arriving fsn (from_link plan message))) became
      (came_regular a octets regular plan arriving fsn message (from_link plan message)).links_long
      (came_onward (room_there plan a arriving fsn done) (length message) (from_link plan message)))
      (onward_none 32 a)
