-- What counts no record: a refusal, a message that is passed on, delivered or only answered, the failure of an open link, T10.
-- Assumes nothing.
use mathlib.Core.Path.{◌≡◌, refl, sym, ◌∙◌}
use mathlib.Core.Bool.{true, false, ◌&&◌, true≢false}
use mathlib.Core.List.{List}
use Prim.Native.Nat.{ℕ}
use lib.Dec.{eqb}
use lib.ListN.{length}
use Rattle.plan.specs.declared.data.Plan.{Plan}
use Rattle.wire.specs.declared.header.Label.{Label}
use Rattle.replies.specs.declared.Answer.{Answer}
use Rattle.replies.specs.Areas.{Areas, Outcome, judged}
use Rattle.changeover_cuts.specs.Cuts.{cut_none}
use Rattle.changeover_ending.specs.End.{out_of_service}
use Rattle.changeover_failure.specs.Failure.{state_at}
use Rattle.changeover_failure.specs.Failure as Failure
use Rattle.changeover_failure.specs.Overdue as Overdue
use Rattle.changeover.specs.Fail.{open_failed, failed}
use Rattle.changeover_overdue.specs.Expire as Changeover
use Rattle.changeback_waiting.specs.Wait.{answers, answered_by}
use Rattle.management_steps.specs.declared.Step.{Step}
use Rattle.management_orders.specs.Carry.{answer_reply, ended_by, carried}
use Rattle.management_making.specs.Make.{makes_reply}
use Rattle.rerouting_expiry.specs.Expiry.{reply_t10, test_of}
use Rattle.rerouting.specs.Timer.{expired_t10}
use Rattle.discrimination.specs.declared.Came.{Came}
use Rattle.discrimination.specs.declared.Came.TheVariants.{Malformed, Foreign, Delivered, Managed, Passed}
use Rattle.discrimination.specs.Discrimination.{from_host}
use Rattle.passing_passage.specs.Passage.{unreachable, place_reply, prohibited_to, tells}
use Rattle.passing.specs.Pass.{not_reached, passed}
use Rattle.passing_offering.specs.Host.{refuses, offered, from_host_by, sent}
use Rattle.sending.specs.Send as Send
use Rattle.promise_runs.proofs.Outcomes.{by_test, if_done_lem}
use Rattle.promise_accounts.specs.Ending.{ending_by_timer, ending_by_failure, ending_by_step}

-- the answer counts none
abbrev pub Silent : Outcome → Type 0
Silent o = o.answer.reports ≡ 0

pub judged_silent : (reply : ℕ) (done : Outcome) (a : Areas) → (eqb reply 0 ≡ true → Silent done) → Silent (judged reply done a)
judged_silent reply done a does = by_test Silent (eqb reply 0) done _ does (λ e. refl)

module _ (plan : Plan) (a : Areas) where
  -- a message for another point, from a link
  pub passed_silent : (arriving : ℕ) (label : Label) (size : ℕ) → Silent (passed plan arriving label size a)
  unfolding passed not_reached
  passed_silent arriving label size =
      by_test Silent (unreachable plan a label) _ _
      (λ e.
      by_test Silent (tells plan a.marks label.dpc) _ _
      (λ told. by_test Silent (eqb (makes_reply plan (prohibited_to plan arriving label.dpc) a) 0) _ _ (λ e. refl) (λ e. refl))
      (λ none. refl))
      (λ e. by_test Silent (eqb (place_reply a) 0) _ _ (λ e. refl) (λ e. refl))

  -- from the host, whatever it is
  offered_silent : (label : Label) (size : ℕ) → Silent (offered plan label size a)
  unfolding offered
  offered_silent label size =
      by_test Silent (refuses plan a label) _ _ (λ e. refl)
      (λ e. by_test Silent (eqb (place_reply a) 0) _ _ (λ e. refl) (λ e. refl))

  host_silent : (came : Came) (size : ℕ) → Silent (from_host_by plan came size a)
  unfolding from_host_by
  host_silent Malformed size = refl
  host_silent Foreign size = refl
  host_silent Delivered size = refl
  host_silent (Managed order) size = refl
  host_silent (Passed label) size = offered_silent label size

  pub sent_silent : (message : List ℕ) → Silent (sent plan message a)
  unfolding sent
  sent_silent message =
      by_test Silent plan.given _ _ (λ e. host_silent (from_host plan message) (length message)) (λ e. refl)

  -- a CBA
  pub answered_silent : (point slc code : ℕ) → Silent (answered_by plan point slc code a)
  unfolding answered_by
  answered_silent point slc code = by_test Silent (answers plan a.links point slc code) _ _ (λ e. refl) (λ e. refl)

  -- a step that takes no link out
  pub carried_silent : (step : Step) → (ending_by_step plan a step).ends ≡ false → Silent (carried plan step a)
  unfolding carried ended_by ending_by_step
  carried_silent step none =
      judged_silent step.reply _ a
      (λ asked.
      judged_silent (answer_reply plan step a) _ a
      (λ answered.
      by_test Silent step.ends _ _
      (λ ends.
      let out : (eqb step.reply 0 && (eqb (answer_reply plan step a) 0 && step.ends)) ≡ true = simp (asked, answered, ends) in
      absurd (true≢false (sym out ∙ none)))
      (λ stays. refl)))

  -- an open link fails, or a failure is refused
  pub failed_silent : (link : ℕ) → (ending_by_failure plan a link).ends ≡ false → Silent (failed plan a link)
  unfolding failed open_failed ending_by_failure
  failed_silent link none =
      let reply = Failure.reply_of plan a.links link a.reports in
      let waits = eqb (state_at a.links link) 1 in
      judged_silent reply _ a
      (λ done.
      by_test Silent waits (out_of_service plan a link cut_none) (open_failed plan a link)
      (λ e.
      let out : (eqb reply 0 && waits) ≡ true = simp (done, e) in
      absurd (true≢false (sym out ∙ none)))
      (λ e. refl))

  -- the expiry of T1, or of T2, is refused
  pub overdue_silent : (link timer : ℕ) → (ending_by_timer plan a link timer).ends ≡ false → Silent (Changeover.expired plan a link timer)
  unfolding Changeover.expired ending_by_timer
  overdue_silent link timer none =
      judged_silent (Overdue.reply_of plan a.links link timer a.reports) _ a (λ done. absurd (true≢false (sym done ∙ none)))

  -- T10
  pub t10_silent : (x set : ℕ) → Silent (expired_t10 plan a x set)
  unfolding expired_t10
  t10_silent x set =
      judged_silent (reply_t10 plan a.marks x set) _ a
      (λ done. by_test Silent (eqb (makes_reply plan (test_of plan x set) a) 0) _ _ (λ e. refl) (λ e. refl))

  -- a send
  pub send_silent : (link : ℕ) (out : List ℕ) → (Send.answer_of plan a.links a.spans a.rings a.rows link out).reports ≡ 0
  unfolding Send.answer_of
  send_silent link out =
      if_done_lem (λ (r : Answer). r.reports ≡ 0) (Send.reply_of plan a.links a.spans link (length out)) _ _ (λ e. refl) refl
