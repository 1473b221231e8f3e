-- What every call tells, exactly: of a link that goes out, of one that comes into service, of TFP and TFA, of T6, and of all else nothing.
-- Assumes nothing.
use mathlib.Core.Path.{◌≡◌, refl, sym, ap, ◌∙◌}
use mathlib.Core.Bool.{Bool, true, false, cond, ◌||◌}
use mathlib.Core.List.{List, [], ◌++◌}
use Prim.Native.Nat.{ℕ}
use native.Mathlib.Omega.{arith}
use lib.Dec.{eqb, leb}
use lib.ListN.{length}
use borrow.Author.Tests.{ltb-false, eq-eqb, eqb-true}
use Rattle.plan.specs.declared.data.Plan.{Plan}
use Rattle.plan.specs.Find.{place_of, given}
use Rattle.plan.proofs.Split.{both_false}
use Rattle.area_flags.specs.Flags.{with_flag}
use Rattle.constants.specs.Constants.{t6}
use Rattle.wire_messages.specs.declared.management.Message.{Message}
use Rattle.wire_messages.specs.declared.management.Message.TheVariants.{COO, COA, CBD, CBA, ECO, ECA, TFP, TFA, RST}
use Rattle.reports.specs.Report.{log, short, room}
use Rattle.replies.specs.Reply.{if_done}
use Rattle.replies.specs.Areas.{Areas, Outcome, outcome, judged, refused}
use Rattle.replies.proofs.Rows.{none_applies}
use Rattle.route_access.specs.Change.{is_accessible, changes_told}
use Rattle.numbers.specs.Numbers.{is_taken}
use Rattle.numbers.specs.Taken.{with_taken, taken_by}
use Rattle.queue_retiring.specs.Leave.{State, state}
use Rattle.changeover_ending.specs.End.{links_out}
use Rattle.changeback_service.specs.InService.{links_in, reply_first}
use Rattle.changeback.specs.Service.{resumed, into_service}
use Rattle.changeback.specs.Service as Service
use Rattle.changeback_waiting.specs.Wait.{answered_by}
use Rattle.rerouting_marking.specs.Mark.{counts, marks_after}
use Rattle.rerouting.specs.Transfer.{access_told, transferred}
use Rattle.rerouting.specs.Timer.{reply_t6, expired_t6, expired_t10}
use Rattle.management_steps.specs.declared.Step.{Step}
use Rattle.management_orders.specs.Carry.{carried}
use Rattle.managing.specs.Managed.{asked, step_asked, managed}
use Rattle.discrimination.specs.declared.Order.{Order}
use Rattle.discrimination.specs.declared.Came.{Came}
use Rattle.discrimination.specs.declared.Came.TheVariants.{Malformed, Foreign, Delivered, Managed, Passed}
use Rattle.discrimination.specs.Sorted.{of_managed}
use Rattle.discrimination.specs.Discrimination.{from_link}
use Rattle.passing.specs.Pass.{passed}
use Rattle.passing_offering.specs.Host.{sent}
use Rattle.receiving.specs.Receive.{received_by, received}
use Rattle.receiving.specs.Receive as Receive
use Rattle.node.specs.declared.call.Event.{Event}
use Rattle.node.specs.declared.call.Event.TheVariants.{IntoService, Failure, Send, Acknowledgement, Received, FromHost, T1, T2, T3, T4, T6, T8, T10}
use Rattle.node.specs.View.{view_of}
use Rattle.node.specs.Memory.{Memory, Result}
use Rattle.node.specs.Call.{sends, acknowledges, wait_ends, t8_ends, receives, takes_over, call_of}
use Rattle.promise_runs.proofs.Outcomes.{RegularIn, by_test}
use Rattle.promise_ledger.specs.Reported.{Report, reports_in, reports_of}
use Rattle.promise_leaving.specs.Going.{changes}
use Rattle.promise_leaving.proofs.Changes.{changes_told_lem}
use Rattle.promise_accounts.specs.Ending.{Ending, no_ending, ending_by_step, ending_by_message, ending_of, Exactly}
use Rattle.promise_accounts.proofs.EvenReceiving.{room_there}
use Rattle.promise_accounts.proofs.Endings.{ending_exactly}
use Rattle.promise_accounts.specs.Gone.{told_by}
use Rattle.promise_reports.specs.Tells.{access_changes, ending_told, message_told, release_told, event_told, reports_of_call}
use Rattle.promise_reports.proofs.Apart.{released_told}
use Rattle.promise_reports.proofs.Silent.{Silent, passed_silent, sent_silent, answered_silent, carried_silent, failed_silent, overdue_silent, t10_silent, send_silent}

-- an outcome tells what it is said to, where its reply is 0, and else nothing
abbrev pub Tells : (Areas → List Report) → Outcome → Type 0
Tells says o = reports_in o.after.reports o.answer.reports ≡ if_done o.answer.reply (says o.after) []

-- no records are none, by whatever reply
silent_tells : (o : Outcome) → Silent o → Tells (λ (b : Areas). []) o
unfolding reports_in
silent_tells o none =
    ap (reports_in o.after.reports) none
    ∙ by_test (λ (l : List Report). [] ≡ l) (eqb o.answer.reply 0) [] [] (λ e. refl) (λ e. refl)

-- what a judged event tells is told where its reply is 0
judged_tells : (says : Areas → List Report) (reply : ℕ) (done : Outcome) (a : Areas) → (reply ≡ 0 → Tells says done)
    → Tells says (judged reply done a)
unfolding reports_in
judged_tells says reply done a does =
    by_test (Tells says) (eqb reply 0) done (refused reply a) (λ e. does (eqb-true reply 0 e)) (λ e. simp e)

-- the changes of access in an area that tells nothing yet
pub access_told_lem : (plan : Plan) (before after : ℕ → Bool) (area : List ℕ) → short area ≡ false
    → reports_of (changes_told plan before after (log area 0)) ≡ changes plan before after 0 (given plan)
unfolding reports_in
access_told_lem plan before after area wide =
    changes_told_lem plan before after (given plan) 0 (log area 0) (omega (arith, ltb-false (room area) 512 wide))

module _ (plan : Plan) (a : Areas) where
  -- where a link comes into service the report area has its room
  pub service_room : (link : ℕ) → Service.reply_of plan a link ≡ 0 → short a.reports ≡ false
  unfolding Service.reply_of reply_first
  service_room link done =
      let reply : ℕ = reply_first plan a.links link a.reports in
      let early : reply ≡ 0 =
      by_test (λ (n : ℕ). n ≡ 0 → reply ≡ 0) (eqb reply 0) _ reply (λ e none. eqb-true reply 0 e) (λ e none. none) done
      in
      (both_false (leb 32 link) (short a.reports) (none_applies 0 (leb 32 link || short a.reports) _ early).0).1

  -- it comes into service
  service_tells : (link : ℕ)
      → Tells (λ (b : Areas). access_changes plan a.links a.marks b.links a.marks) (into_service plan a link)
  unfolding into_service resumed
  service_tells link =
      judged_tells (λ (b : Areas). access_changes plan a.links a.marks b.links a.marks) (Service.reply_of plan a link) _ a
      (λ done.
      access_told_lem plan (is_accessible plan a.links a.marks) (is_accessible plan (links_in plan a.links a.marks link) a.marks)
      a.reports
      (service_room link done))

  -- T6
  pub t6_tells : (octets : List ℕ) → RegularIn a octets → (x : ℕ)
      → Tells (λ (b : Areas). release_told plan a b x) (expired_t6 plan a x)
  unfolding expired_t6 reply_t6 reports_in
  t6_tells octets regular x =
      let marks = with_flag a.marks (place_of plan x) t6 false in
      let now : State = state a.spans a.rings a.reports 0 in
      judged_tells (λ (b : Areas). release_told plan a b x) (reply_t6 plan a.marks x a.reports) _ a
      (λ done.
      let wide = (none_applies 0 (short a.reports) _ done).0 in
      released_told plan a.links marks a.rows octets x now regular.store
      (omega (arith, regular.store.short 32, ltb-false (room a.reports) 512 wide)))

  module _ (arriving fsn : ℕ) (wide : short a.reports ≡ false) where
    -- a TFP, or a TFA
    transfer_tells : (point x : ℕ) (prohibits : Bool)
        → Tells (λ (b : Areas). access_changes plan a.links a.marks a.links b.marks) (transferred plan point x prohibits a)
    unfolding transferred access_told reports_in
    transfer_tells point x prohibits =
        let marks = marks_after plan a.links a.marks point x prohibits in
        by_test (Tells (λ (b : Areas). access_changes plan a.links a.marks a.links b.marks)) (counts plan a.marks point x prohibits) _ _
        (λ e. access_told_lem plan (is_accessible plan a.links a.marks) (is_accessible plan a.links marks) a.reports wide)
        (λ e. refl)

    -- each of the nine management messages
    module _ (point slc : ℕ) where
      abbrev asks : Message → Step
      asks message = step_asked plan a.links a.marks arriving fsn point slc message

      by_step : (message : Message) → (ending_by_step plan a (asks message)).ends ≡ false → Tells (λ (b : Areas). []) (carried plan (asks message) a)
      by_step message stays = silent_tells (carried plan (asks message) a) (carried_silent plan a (asks message) stays)

      managed_tells : (message : Message) → (ending_by_step plan a (asks message)).ends ≡ false
          → Tells (λ (b : Areas). message_told plan a b.marks message) (managed plan arriving fsn point slc message a)
      unfolding managed asked message_told
      managed_tells (COO f) stays = by_step (COO f) stays
      managed_tells (COA f) stays = by_step (COA f) stays
      managed_tells (CBD code) stays = by_step (CBD code) stays
      managed_tells (CBA code) stays = silent_tells (answered_by plan point slc code a) (answered_silent plan a point slc code)
      managed_tells ECO stays = by_step ECO stays
      managed_tells ECA stays = by_step ECA stays
      managed_tells (TFP x) stays = transfer_tells point x true
      managed_tells (TFA x) stays = transfer_tells point x false
      managed_tells (RST x) stays = by_step (RST x) stays

    -- whatever it is
    abbrev came_told : Came → List ℕ → List Report
    came_told came marks = of_managed [] (λ (order : Order). message_told plan a marks order.message) came

    came_tells : (size : ℕ) (came : Came) → (ending_by_message plan a arriving fsn came).ends ≡ false
        → Tells (λ (b : Areas). came_told came b.marks) (received_by plan arriving fsn size came a)
    unfolding received_by ending_by_message reports_in
    came_tells size Malformed stays = refl
    came_tells size Foreign stays = refl
    came_tells size Delivered stays = refl
    came_tells size (Managed order) stays = managed_tells order.point order.slc order.message stays
    came_tells size (Passed label) stays =
        silent_tells (passed plan arriving label size a) (passed_silent plan a arriving label size)

  -- and it is taken
  taken_tells : (says : List ℕ → List Report) (arriving fsn : ℕ) (o : Outcome) → Tells (λ (b : Areas). says b.marks) o
      → Tells (λ (b : Areas). says b.marks) (taken_by arriving fsn o)
  taken_tells says arriving fsn o tells =
      by_test
      (λ (b : Areas). reports_in b.reports o.answer.reports ≡ if_done o.answer.reply (says b.marks) [])
      (is_taken o.answer.reply)
      (with_taken arriving fsn o.after)
      o.after
      (λ e. tells)
      (λ e. tells)

  received_tells : (arriving fsn : ℕ) (message : List ℕ)
      → (if_done (Receive.reply_of plan a.links arriving fsn a.reports) (ending_by_message plan a arriving fsn (from_link plan message)) (no_ending a)
      ).ends
      ≡ false
      → Tells (λ (b : Areas). of_managed [] (λ (order : Order). message_told plan a b.marks order.message) (from_link plan message))
      (received plan arriving fsn message a)
  unfolding received
  received_tells arriving fsn message stays =
      let reply : ℕ = Receive.reply_of plan a.links arriving fsn a.reports in
      let came : Came = from_link plan message in
      let says : List ℕ → List Report = λ marks. of_managed [] (λ (order : Order). message_told plan a marks order.message) came in
      judged_tells (λ (b : Areas). says b.marks) reply _ a
      (λ done.
      let ending : (ending_by_message plan a arriving fsn came).ends ≡ false =
      sym (ap (λ (t : Bool). (cond t (ending_by_message plan a arriving fsn came) (no_ending a)).ends) (eq-eqb reply 0 done)) ∙ stays
      in
      taken_tells says arriving fsn (received_by plan arriving fsn (length message) came a)
      (came_tells arriving fsn (room_there plan a arriving fsn done) (length message) came ending))

-- a link that goes out
pub ending_told_lem : (plan : Plan) (ending : Ending) (after : Areas) (count : ℕ) → Exactly plan ending after count
    → reports_in after.reports count ≡ ending_told plan ending
unfolding ending_told reports_in
ending_told_lem plan ending after count exact =
    let a = ending.from in
    let changed = access_changes plan a.links a.marks (links_out a.links ending.link) a.marks in
    exact.ended.told ∙ ap (λ (l : List Report). l ++ changed) exact.ended.cleared.told

module _ (plan : Plan) (message : List ℕ) (m : Memory) (regular : RegularIn m.areas m.octets) where
  abbrev a : Areas
  a = m.areas

  -- the answer of a call, and the areas after it
  abbrev called : Event → Outcome
  called event =
      let r = call_of plan event message m in
      outcome r.answer r.after.areas

  -- a call that takes no link out
  stays_told : (event : Event) → (ending_of plan a message (view_of event)).ends ≡ false
      → let r = call_of plan event message m in
      told_by r ≡ if_done r.answer.reply (event_told plan message a r.after.areas event) []
  unfolding call_of sends acknowledges wait_ends t8_ends receives takes_over ending_of event_told
  stays_told (IntoService link) stays = service_tells plan a link
  stays_told (Failure link) stays = silent_tells (called (Failure link)) (failed_silent plan a link stays)
  stays_told (Send link) stays = silent_tells (called (Send link)) (send_silent plan a link m.out)
  stays_told (Acknowledgement link b) stays = silent_tells (called (Acknowledgement link b)) refl
  stays_told (Received link fsn) stays = received_tells plan a link fsn message stays
  stays_told FromHost stays = silent_tells (sent plan message a) (sent_silent plan a message)
  stays_told (T1 link) stays = silent_tells (called (T1 link)) (overdue_silent plan a link 1 stays)
  stays_told (T2 link) stays = silent_tells (called (T2 link)) (overdue_silent plan a link 2 stays)
  stays_told (T3 link) stays = silent_tells (called (T3 link)) refl
  stays_told (T4 link) stays = silent_tells (called (T4 link)) refl
  stays_told (T6 x) stays = t6_tells plan a m.octets regular x
  stays_told (T8 x) stays = silent_tells (called (T8 x)) refl
  stays_told (T10 x set) stays = silent_tells (expired_t10 plan a x set) (t10_silent plan a x set)

  -- every call
  pub call_told : (event : Event) → told_by (call_of plan event message m) ≡ reports_of_call plan message event a (call_of plan event message m)
  unfolding reports_of_call
  call_told event =
      let ending : Ending = ending_of plan a message (view_of event) in
      let r : Result = call_of plan event message m in
      by_test (λ (l : List Report). told_by r ≡ l) ending.ends (ending_told plan ending) _
      (λ ends. ending_told_lem plan ending r.after.areas r.answer.reports (ending_exactly plan message m regular event ends))
      (stays_told event)
