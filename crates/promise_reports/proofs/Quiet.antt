-- A call that is refused, or that takes no link out and isn't into service, TFP, TFA or T6, counts no record and leaves the report area as it was
-- lent. Assumes nothing.
use mathlib.Core.Path.{◌≡◌, refl, sym, ap, ◌∙◌}
use mathlib.Core.Bool.{Bool, true, false, cond, not, ◌&&◌, ◌||◌, true≢false}
use mathlib.Core.List.{List}
use Prim.Native.Nat.{ℕ, ◌*◌}
use lib.Dec.{eqb}
use lib.ListN.{length, drop}
use borrow.Table.Steps.{cases}
use Rattle.plan.specs.declared.data.Plan.{Plan}
use Rattle.wire_messages.specs.declared.management.Message.{Message}
use Rattle.wire_messages.specs.declared.management.Message.TheVariants.{COO, COA, CBD, CBA, ECO, ECA, TFP, TFA, RST}
use Rattle.replies.specs.Reply.{if_done}
use Rattle.replies.specs.Areas.{Areas, Outcome, judged, refused}
use Rattle.changeover_ending.specs.End.{out_of_service}
use Rattle.changeover_failure.specs.Failure.{state_at}
use Rattle.changeover_failure.specs.Failure as Failure
use Rattle.changeover_failure.specs.Overdue as Overdue
use Rattle.changeover.specs.Fail.{open_failed, failed}
use Rattle.changeover_overdue.specs.Expire as Changeover
use Rattle.changeback.specs.Service.{into_service}
use Rattle.changeback.specs.Service as Service
use Rattle.rerouting_marking.specs.Mark.{counts}
use Rattle.rerouting.specs.Transfer.{transferred}
use Rattle.rerouting.specs.Timer.{reply_t6, expired_t6}
use Rattle.management_steps.specs.declared.Step.{Step}
use Rattle.management_orders.specs.Carry.{answer_reply, with_answer, ended_by, carried}
use Rattle.managing.specs.Managed.{asked, step_asked, managed}
use Rattle.discrimination.specs.declared.Order.{Order}
use Rattle.discrimination.specs.declared.Came.{Came}
use Rattle.discrimination.specs.declared.Came.TheVariants.{Malformed, Foreign, Delivered, Managed, Passed}
use Rattle.discrimination.specs.Sorted.{of_managed}
use Rattle.discrimination.specs.Discrimination.{from_link}
use Rattle.receiving.specs.Receive.{received_by, received}
use Rattle.receiving.specs.Receive as Receive
use Rattle.node.specs.declared.call.Event.{Event}
use Rattle.node.specs.declared.call.Event.TheVariants.{IntoService, Failure, Send, Acknowledgement, Received, FromHost, T1, T2, T3, T4, T6, T8, T10}
use Rattle.node.specs.View.{view_of}
use Rattle.node.specs.Memory.{Memory, Result}
use Rattle.node.specs.Call.{sends, acknowledges, wait_ends, t8_ends, receives, takes_over, call_of}
use Rattle.promise_runs.proofs.Outcomes.{by_test}
use Rattle.promise_accounts.specs.Ending.{no_ending, ending_by_step, ending_by_message, ending_of}
use Rattle.promise_reports.specs.Unwritten.{Untold, is_transfer, may_tell, is_quiet}
use Rattle.promise_reports.proofs.Silent.{Silent, judged_silent, passed_silent, sent_silent, answered_silent, carried_silent, failed_silent, overdue_silent, t10_silent, send_silent}
use Rattle.promise_reports.proofs.Unwritten.{call_unwritten}

-- with a reply other than 0 none is counted
abbrev Refusing : Outcome → Type 0
Refusing o = eqb o.answer.reply 0 ≡ false → Silent o

judged_refusing : (reply : ℕ) (done : Outcome) (a : Areas) → Refusing done → Refusing (judged reply done a)
judged_refusing reply done a does = by_test Refusing (eqb reply 0) done (refused reply a) (λ e. does) (λ e other. refl)

-- a reply 0 is none
not_other : {A : Type 0} → true ≡ false → A
not_other e = absurd (true≢false e)

-- neither of two
none_of : (one two : Bool) → (not one && not two) ≡ true → (one ≡ false) × (two ≡ false)
none_of false false e = (refl, refl)
none_of false true e = absurd (true≢false (sym e))
none_of true two e = absurd (true≢false (sym e))

module _ (plan : Plan) (a : Areas) where
  out_refusing : (b : Areas) (step : Step) → Refusing (ended_by plan step b)
  unfolding ended_by out_of_service
  out_refusing b step = by_test Refusing step.ends _ _ (λ e. not_other) (λ e. not_other)

  carried_refusing : (step : Step) → Refusing (carried plan step a)
  unfolding carried
  carried_refusing step =
      judged_refusing step.reply _ a (judged_refusing (answer_reply plan step a) _ a (out_refusing (with_answer plan step a) step))

  transferred_refusing : (point x : ℕ) (prohibits : Bool) → Refusing (transferred plan point x prohibits a)
  unfolding transferred
  transferred_refusing point x prohibits =
      by_test Refusing (counts plan a.marks point x prohibits) _ _ (λ e. not_other) (λ e other. refl)

  service_refusing : (link : ℕ) → Refusing (into_service plan a link)
  unfolding into_service
  service_refusing link = judged_refusing (Service.reply_of plan a link) _ a not_other

  failure_refusing : (link : ℕ) → Refusing (failed plan a link)
  unfolding failed out_of_service open_failed
  failure_refusing link =
      judged_refusing (Failure.reply_of plan a.links link a.reports) _ a
      (by_test Refusing (eqb (state_at a.links link) 1) _ _ (λ e. not_other) (λ e. not_other))

  timer_refusing : (link timer : ℕ) → Refusing (Changeover.expired plan a link timer)
  unfolding Changeover.expired out_of_service
  timer_refusing link timer = judged_refusing (Overdue.reply_of plan a.links link timer a.reports) _ a not_other

  t6_refusing : (x : ℕ) → Refusing (expired_t6 plan a x)
  unfolding expired_t6
  t6_refusing x = judged_refusing (reply_t6 plan a.marks x a.reports) _ a not_other

  -- a message from a link
  module _ (arriving fsn : ℕ) where
    module _ (point slc : ℕ) where
      managed_refusing : (message : Message) → Refusing (managed plan arriving fsn point slc message a)
      unfolding managed asked
      managed_refusing (COO f) = carried_refusing (step_asked plan a.links a.marks arriving fsn point slc (COO f))
      managed_refusing (COA f) = carried_refusing (step_asked plan a.links a.marks arriving fsn point slc (COA f))
      managed_refusing (CBD code) = carried_refusing (step_asked plan a.links a.marks arriving fsn point slc (CBD code))
      managed_refusing (CBA code) = λ other. answered_silent plan a point slc code
      managed_refusing ECO = carried_refusing (step_asked plan a.links a.marks arriving fsn point slc ECO)
      managed_refusing ECA = carried_refusing (step_asked plan a.links a.marks arriving fsn point slc ECA)
      managed_refusing (TFP x) = transferred_refusing point x true
      managed_refusing (TFA x) = transferred_refusing point x false
      managed_refusing (RST x) = carried_refusing (step_asked plan a.links a.marks arriving fsn point slc (RST x))

      abbrev asks : Message → Step
      asks message = step_asked plan a.links a.marks arriving fsn point slc message

      managed_silent : (message : Message) → is_transfer message ≡ false → (ending_by_step plan a (asks message)).ends ≡ false
          → Silent (managed plan arriving fsn point slc message a)
      unfolding managed asked
      managed_silent (COO f) quiet stays = carried_silent plan a (asks (COO f)) stays
      managed_silent (COA f) quiet stays = carried_silent plan a (asks (COA f)) stays
      managed_silent (CBD code) quiet stays = carried_silent plan a (asks (CBD code)) stays
      managed_silent (CBA code) quiet stays = answered_silent plan a point slc code
      managed_silent ECO quiet stays = carried_silent plan a (asks ECO) stays
      managed_silent ECA quiet stays = carried_silent plan a (asks ECA) stays
      managed_silent (TFP x) quiet stays = not_other quiet
      managed_silent (TFA x) quiet stays = not_other quiet
      managed_silent (RST x) quiet stays = carried_silent plan a (asks (RST x)) stays

    came_refusing : (size : ℕ) (came : Came) → Refusing (received_by plan arriving fsn size came a)
    unfolding received_by
    came_refusing size Malformed = λ other. refl
    came_refusing size Foreign = λ other. refl
    came_refusing size Delivered = λ other. refl
    came_refusing size (Managed order) = managed_refusing order.point order.slc order.message
    came_refusing size (Passed label) = λ other. passed_silent plan a arriving label size

    abbrev transfers : Came → Bool
    transfers came = of_managed false (λ (order : Order). is_transfer order.message) came

    came_silent : (size : ℕ) (came : Came) → transfers came ≡ false → (ending_by_message plan a arriving fsn came).ends ≡ false
        → Silent (received_by plan arriving fsn size came a)
    unfolding received_by ending_by_message
    came_silent size Malformed quiet stays = refl
    came_silent size Foreign quiet stays = refl
    came_silent size Delivered quiet stays = refl
    came_silent size (Managed order) quiet stays = managed_silent order.point order.slc order.message quiet stays
    came_silent size (Passed label) quiet stays = passed_silent plan a arriving label size

    received_refusing : (message : List ℕ) → Refusing (received plan arriving fsn message a)
    unfolding received
    received_refusing message =
        judged_refusing (Receive.reply_of plan a.links arriving fsn a.reports) _ a (came_refusing (length message) (from_link plan message))

    received_silent : (message : List ℕ) → transfers (from_link plan message) ≡ false
        → (if_done (Receive.reply_of plan a.links arriving fsn a.reports) (ending_by_message plan a arriving fsn (from_link plan message)) (no_ending a)
        ).ends
        ≡ false
        → Silent (received plan arriving fsn message a)
    unfolding received
    received_silent message quiet stays =
        let came : Came = from_link plan message in
        judged_silent (Receive.reply_of plan a.links arriving fsn a.reports) _ a
        (λ done.
        came_silent (length message) came quiet
        (sym (ap (λ (t : Bool). (cond t (ending_by_message plan a arriving fsn came) (no_ending a)).ends) done) ∙ stays))

module _ (plan : Plan) (message : List ℕ) (m : Memory) where
  abbrev a : Areas
  a = m.areas

  -- a refusal counts none
  refused_none : (event : Event) → eqb (call_of plan event message m).answer.reply 0 ≡ false
      → (call_of plan event message m).answer.reports ≡ 0
  unfolding call_of sends acknowledges wait_ends t8_ends receives takes_over
  refused_none (IntoService link) = service_refusing plan a link
  refused_none (Failure link) = failure_refusing plan a link
  refused_none (Send link) = λ other. send_silent plan a link m.out
  refused_none (Acknowledgement link b) = λ other. refl
  refused_none (Received link fsn) = received_refusing plan a link fsn message
  refused_none FromHost = λ other. sent_silent plan a message
  refused_none (T1 link) = timer_refusing plan a link 1
  refused_none (T2 link) = timer_refusing plan a link 2
  refused_none (T3 link) = λ other. refl
  refused_none (T4 link) = λ other. refl
  refused_none (T6 x) = t6_refusing plan a x
  refused_none (T8 x) = λ other. refl
  refused_none (T10 x set) = λ other. t10_silent plan a x set

  -- and so does an event that can tell nothing, where no link goes out
  quiet_none : (event : Event) → may_tell plan message event ≡ false → (ending_of plan a message (view_of event)).ends ≡ false
      → (call_of plan event message m).answer.reports ≡ 0
  unfolding call_of sends acknowledges wait_ends t8_ends receives takes_over may_tell ending_of
  quiet_none (IntoService link) quiet stays = not_other quiet
  quiet_none (Failure link) quiet stays = failed_silent plan a link stays
  quiet_none (Send link) quiet stays = send_silent plan a link m.out
  quiet_none (Acknowledgement link b) quiet stays = refl
  quiet_none (Received link fsn) quiet stays = received_silent plan a link fsn message quiet stays
  quiet_none FromHost quiet stays = sent_silent plan a message
  quiet_none (T1 link) quiet stays = overdue_silent plan a link 1 stays
  quiet_none (T2 link) quiet stays = overdue_silent plan a link 2 stays
  quiet_none (T3 link) quiet stays = refl
  quiet_none (T4 link) quiet stays = refl
  quiet_none (T6 x) quiet stays = not_other quiet
  quiet_none (T8 x) quiet stays = refl
  quiet_none (T10 x set) quiet stays = t10_silent plan a x set

  -- so the area is as it was
  pub quiet_untold : (event : Event)
      → let r = call_of plan event message m in
      is_quiet plan message event a r ≡ true → Untold a.reports r
  quiet_untold event quiet =
      let r : Result = call_of plan event message m in
      let tells : Bool = may_tell plan message event in
      let ends : Bool = (ending_of plan a message (view_of event)).ends in
      let none : r.answer.reports ≡ 0 =
      cases (eqb r.answer.reply 0)
      (λ e.
      let none = none_of tells ends (sym (ap (λ (t : Bool). not t || (not tells && not ends)) e) ∙ quiet) in
      quiet_none event none.0 none.1)
      (refused_none event)
      in
      let count : 2 * r.answer.reports ≡ 0 = ap (λ (n : ℕ). 2 * n) none in
      record {
        none = none;
        same =
            sym (ap (λ (n : ℕ). drop n r.after.areas.reports) count)
            ∙ (call_unwritten plan message m event).behind
            ∙ ap (λ (n : ℕ). drop n a.reports) count;
      }
