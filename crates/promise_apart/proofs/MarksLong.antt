-- No call changes how long the area of flags is.
-- Assumes nothing.
use mathlib.Core.Path.{◌≡◌, refl, ◌∙◌}
use mathlib.Core.Bool.{Bool, true, false, ◌&&◌}
use mathlib.Core.List.{List, [], ◌∷◌}
use Prim.Native.Nat.{ℕ, ◌+◌, ◌*◌}
use lib.Dec.{eqb, ltb}
use lib.ListN.{length, set, length-set}
use Rattle.constants.specs.Constants.{t6, t8}
use Rattle.plan.specs.declared.data.Plan.{Plan}
use Rattle.plan.specs.Find.{place_of}
use Rattle.area_flags.specs.Flags.{word, with_flag}
use Rattle.wire.specs.declared.header.Label.{Label}
use Rattle.wire_messages.specs.declared.management.Message.{Message}
use Rattle.wire_messages.specs.declared.management.Message.TheVariants.{COO, COA, CBD, CBA, ECO, ECA, TFP, TFA, RST}
use Rattle.replies.specs.Reply.{plain, done}
use Rattle.replies.specs.Areas.{Areas, areas, Outcome, outcome, judged, refused, with_links}
use Rattle.numbers.specs.Numbers.{is_taken}
use Rattle.numbers.specs.Taken.{with_taken, taken_by}
use Rattle.management_making.specs.Make.{is_made, with_made, makes_reply}
use Rattle.changeover_cuts.specs.Cuts.{cut_none}
use Rattle.changeover_ending.specs.End.{out_of_service}
use Rattle.changeover_failure.specs.Failure.{state_at}
use Rattle.changeover_failure.specs.Failure as Failure
use Rattle.changeover_failure.specs.Overdue as Overdue
use Rattle.changeover.specs.Fail.{open_failed, failed}
use Rattle.changeover_overdue.specs.Expire as Change
use Rattle.changeback.specs.Service.{into_service}
use Rattle.changeback.specs.Service as Service
use Rattle.changeback_waiting.specs.Wait.{answers, answered, answered_by}
use Rattle.rerouting_marking.specs.Mark.{rank_for, counts, marked, diverts, marks_after}
use Rattle.rerouting.specs.Transfer.{transferred}
use Rattle.rerouting_expiry.specs.Expiry.{expired_t8, reply_t10, test_of}
use Rattle.rerouting_expiry.specs.Expiry as Expiry
use Rattle.rerouting.specs.Timer.{reply_t6, expired_t6, expired_t10}
use Rattle.management_steps.specs.declared.Step.{Step}
use Rattle.management_orders.specs.Carry.{answer_reply, with_answer, ended_by, carried}
use Rattle.managing.specs.Managed.{asked, step_asked, managed}
use Rattle.discrimination.specs.declared.Came.{Came}
use Rattle.discrimination.specs.declared.Came.TheVariants.{Malformed, Foreign, Delivered, Managed, Passed}
use Rattle.discrimination.specs.Discrimination.{from_link, from_host}
use Rattle.passing_passage.specs.Passage.{unreachable, place_reply, queued, prohibited_to, tells, with_t8}
use Rattle.passing.specs.Pass.{marks_told, not_reached, passed}
use Rattle.passing_offering.specs.Host.{refuses, offered, from_host_by, sent}
use Rattle.receiving.specs.Receive.{reply_of, received_by, received}
use Rattle.node.specs.declared.call.Event.{Event}
use Rattle.node.specs.declared.call.Event.TheVariants.{IntoService, Failure, Send, Acknowledgement, Received, FromHost, T1, T2, T3, T4, T6, T8, T10}
use Rattle.node.specs.Memory.{Memory}
use Rattle.node.specs.Call.{sends, acknowledges, wait_ends, t8_ends, receives, takes_over, call_of}
use Rattle.promise_runs.specs.Run.{Call, lent, called, ran}
use Rattle.promise_runs.proofs.Outcomes.{by_test, if_done_lem}

-- a flag that is set or cleared
pub flag_length : (marks : List ℕ) (destination flag : ℕ) (on : Bool) → length (with_flag marks destination flag on) ≡ length marks
flag_length marks destination flag on =
    by_test (λ (l : List ℕ). length l ≡ length marks) (ltb destination 64 && ltb flag 8) (set marks (8 * destination + flag) (word on)) marks
    (λ e. length-set marks (8 * destination + flag) (word on))
    (λ e. refl)

module _ (plan : Plan) (a : Areas) where
  -- flags of the same length, in areas and by an outcome
  abbrev Long : Areas → Type 0
  Long b = length b.marks ≡ length a.marks

  abbrev LongBy : Outcome → Type 0
  LongBy o = Long o.after

  -- a TFP, or a TFA
  transferred_long : (point x : ℕ) (prohibits : Bool) → LongBy (transferred plan point x prohibits a)
  unfolding transferred marks_after marked
  transferred_long point x prohibits =
      let place = place_of plan x in
      let after = with_flag a.marks place (rank_for plan point x) prohibits in
      let one = flag_length a.marks place (rank_for plan point x) prohibits in
      by_test LongBy (counts plan a.marks point x prohibits) _ (outcome (plain 11) a)
      (λ e.
      by_test (λ (l : List ℕ). length l ≡ length a.marks) (diverts plan a.links a.marks after x prohibits)
      (with_flag after place t6 true)
      after
      (λ starts. flag_length after place t6 true ∙ one)
      (λ not. one))
      (λ e. refl)

  -- a CBA
  answered_long : (point slc code : ℕ) → LongBy (answered_by plan point slc code a)
  unfolding answered_by
  answered_long point slc code =
      by_test LongBy (answers plan a.links point slc code) (outcome (done 0) (with_links a (answered plan a.links point slc)))
      (outcome (plain 11) a)
      (λ e. refl)
      (λ e. refl)

  -- a step that is carried out
  carried_long : (step : Step) → LongBy (carried plan step a)
  unfolding carried ended_by with_answer out_of_service
  carried_long step =
      let b : Areas = with_answer plan step a in
      let answer : Long b = by_test Long step.answers (with_made plan step.draft a) a (λ e. refl) (λ e. refl) in
      by_test LongBy (eqb step.reply 0) (judged (answer_reply plan step a) (ended_by plan step b) a) (refused step.reply a)
      (λ e.
      by_test LongBy (eqb (answer_reply plan step a) 0) (ended_by plan step b) (refused (answer_reply plan step a) a)
      (λ e.
      by_test LongBy step.ends (out_of_service plan b step.link step.parts) (outcome (done 0) b) (λ e. answer) (λ e. answer))
      (λ e. refl))
      (λ e. refl)

  -- each of the nine management messages
  managed_long : (arriving fsn point slc : ℕ) (message : Message) → LongBy (managed plan arriving fsn point slc message a)
  unfolding managed asked
  managed_long arriving fsn point slc (COO f) = carried_long (step_asked plan a.links a.marks arriving fsn point slc (COO f))
  managed_long arriving fsn point slc (COA f) = carried_long (step_asked plan a.links a.marks arriving fsn point slc (COA f))
  managed_long arriving fsn point slc (CBD code) = carried_long (step_asked plan a.links a.marks arriving fsn point slc (CBD code))
  managed_long arriving fsn point slc (CBA code) = answered_long point slc code
  managed_long arriving fsn point slc ECO = carried_long (step_asked plan a.links a.marks arriving fsn point slc ECO)
  managed_long arriving fsn point slc ECA = carried_long (step_asked plan a.links a.marks arriving fsn point slc ECA)
  managed_long arriving fsn point slc (TFP x) = transferred_long point x true
  managed_long arriving fsn point slc (TFA x) = transferred_long point x false
  managed_long arriving fsn point slc (RST x) = carried_long (step_asked plan a.links a.marks arriving fsn point slc (RST x))

  -- a message for another point
  not_reached_long : (arriving x : ℕ) → LongBy (not_reached plan arriving x a)
  unfolding not_reached marks_told with_t8
  not_reached_long arriving x =
      let draft = prohibited_to plan arriving x in
      by_test LongBy (tells plan a.marks x) _ (outcome (plain 9) a)
      (λ e.
      if_done_lem LongBy (makes_reply plan draft a) _ (refused (makes_reply plan draft a) a)
      (λ made.
      by_test (λ (l : List ℕ). length l ≡ length a.marks) (is_made plan a.links a.marks a.spans a.arrivals draft)
      (with_flag a.marks (place_of plan x) t8 true)
      a.marks
      (λ yes. flag_length a.marks (place_of plan x) t8 true)
      (λ no. refl))
      refl)
      (λ e. refl)

  place_long : (label : Label) (size : ℕ) → LongBy (judged (place_reply a) (outcome (done 0) (queued plan a label size)) a)
  unfolding queued
  place_long label size =
      if_done_lem LongBy (place_reply a) (outcome (done 0) (queued plan a label size)) (refused (place_reply a) a) (λ e. refl) refl

  came_long : (arriving fsn size : ℕ) (came : Came) → LongBy (received_by plan arriving fsn size came a)
  unfolding received_by passed
  came_long arriving fsn size Malformed = refl
  came_long arriving fsn size Foreign = refl
  came_long arriving fsn size Delivered = refl
  came_long arriving fsn size (Managed order) = managed_long arriving fsn order.point order.slc order.message
  came_long arriving fsn size (Passed label) =
      by_test LongBy (unreachable plan a label) (not_reached plan arriving label.dpc a) _ (λ e. not_reached_long arriving label.dpc)
      (λ e. place_long label size)

  received_long : (arriving fsn : ℕ) (message : List ℕ) → LongBy (received plan arriving fsn message a)
  unfolding received
  received_long arriving fsn message =
      let reply = reply_of plan a.links arriving fsn a.reports in
      let became : Outcome = received_by plan arriving fsn (length message) (from_link plan message) a in
      let long = came_long arriving fsn (length message) (from_link plan message) in
      if_done_lem LongBy reply (taken_by arriving fsn became) (refused reply a)
      (λ done.
      by_test Long (is_taken became.answer.reply) (with_taken arriving fsn became.after) became.after (λ e. long) (λ e. long))
      refl

  host_long : (size : ℕ) (came : Came) → LongBy (from_host_by plan came size a)
  unfolding from_host_by offered
  host_long size Malformed = refl
  host_long size Foreign = refl
  host_long size Delivered = refl
  host_long size (Managed order) = refl
  host_long size (Passed label) = by_test LongBy (refuses plan a label) (refused 9 a) _ (λ e. refl) (λ e. place_long label size)

  sent_long : (message : List ℕ) → LongBy (sent plan message a)
  unfolding sent
  sent_long message =
      by_test LongBy plan.given (from_host_by plan (from_host plan message) (length message) a) (refused 2 a)
      (λ e. host_long (length message) (from_host plan message))
      (λ e. refl)

  -- a link fails, comes into service, or is taken out by its timer
  failure_long : (link : ℕ) → LongBy (failed plan a link)
  unfolding failed open_failed out_of_service
  failure_long link =
      let reply = Failure.reply_of plan a.links link a.reports in
      if_done_lem LongBy reply _ (refused reply a)
      (λ done.
      by_test LongBy (eqb (state_at a.links link) 1) (out_of_service plan a link cut_none) (open_failed plan a link) (λ e. refl) (λ e. refl))
      refl

  service_long : (link : ℕ) → LongBy (into_service plan a link)
  unfolding into_service
  service_long link = if_done_lem LongBy (Service.reply_of plan a link) _ (refused (Service.reply_of plan a link) a) (λ e. refl) refl

  timer_long : (link timer : ℕ) → LongBy (Change.expired plan a link timer)
  unfolding Change.expired out_of_service
  timer_long link timer =
      let reply = Overdue.reply_of plan a.links link timer a.reports in
      if_done_lem LongBy reply (out_of_service plan a link cut_none) (refused reply a) (λ e. refl) refl

  -- T6, T8 and T10
  t6_long : (x : ℕ) → LongBy (expired_t6 plan a x)
  unfolding expired_t6
  t6_long x =
      let reply = reply_t6 plan a.marks x a.reports in
      if_done_lem LongBy reply _ (refused reply a) (λ e. flag_length a.marks (place_of plan x) t6 false) refl

  t8_long : (x : ℕ) → length (expired_t8 plan a.marks x) ≡ length a.marks
  unfolding expired_t8
  t8_long x =
      if_done_lem (λ (l : List ℕ). length l ≡ length a.marks) (Expiry.reply_of plan a.marks x t8) _ a.marks
      (λ e. flag_length a.marks (place_of plan x) t8 false)
      refl

  t10_long : (x by : ℕ) → LongBy (expired_t10 plan a x by)
  unfolding expired_t10
  t10_long x by =
      let draft = test_of plan x by in
      if_done_lem LongBy (reply_t10 plan a.marks x by) _ (refused (reply_t10 plan a.marks x by) a)
      (λ runs.
      if_done_lem LongBy (makes_reply plan draft a) (outcome (done 0) (with_made plan draft a)) (refused (makes_reply plan draft a) a) (λ e. refl) refl)
      refl

-- every event
pub call_long : (plan : Plan) (event : Event) (message : List ℕ) (m : Memory)
    → length (call_of plan event message m).after.areas.marks ≡ length m.areas.marks
unfolding call_of sends acknowledges wait_ends t8_ends receives takes_over
call_long plan (IntoService link) message m = service_long plan m.areas link
call_long plan (Failure link) message m = failure_long plan m.areas link
call_long plan (Send link) message m = refl
call_long plan (Acknowledgement link b) message m = refl
call_long plan (Received link fsn) message m = received_long plan m.areas link fsn message
call_long plan FromHost message m = sent_long plan m.areas message
call_long plan (T1 link) message m = timer_long plan m.areas link 1
call_long plan (T2 link) message m = timer_long plan m.areas link 2
call_long plan (T3 link) message m = refl
call_long plan (T4 link) message m = refl
call_long plan (T6 x) message m = t6_long plan m.areas x
call_long plan (T8 x) message m = t8_long plan m.areas x
call_long plan (T10 x set) message m = t10_long plan m.areas x set

-- and every run
pub run_long : (plan : Plan) (calls : List Call) (m : Memory) → length (ran plan calls m).areas.marks ≡ length m.areas.marks
unfolding ran called
run_long plan [] m = refl
run_long plan (call ∷ later) m = run_long plan later (called plan call m) ∙ call_long plan call.event call.message (lent call m)
