-- A call only adds records to its report area: what holds of a log and is kept by a record more holds of the log after every call, whatever
-- the plan and the memory. Assumes nothing.
use mathlib.Core.Path.{◌≡◌, refl, sym, subst}
use mathlib.Core.Bool.{Bool, true, false, not, ◌&&◌}
use mathlib.Core.List.{List}
use Prim.Native.Nat.{ℕ, zero, suc, ◌+◌}
use lib.Dec.{eqb, ltb}
use lib.ListN.{length}
use Rattle.plan.specs.declared.data.Plan.{Plan}
use Rattle.plan.specs.Find.{place_of, given}
use Rattle.area_flags.specs.Flags.{with_flag}
use Rattle.constants.specs.Constants.{t6}
use Rattle.wire.specs.declared.header.Label.{Label}
use Rattle.wire_messages.specs.declared.management.Message.{Message}
use Rattle.wire_messages.specs.declared.management.Message.TheVariants.{COO, COA, CBD, CBA, ECO, ECA, TFP, TFA, RST}
use Rattle.reports.specs.Report.{Log, log, pause, resume, told}
use Rattle.replies.specs.Areas.{Areas, Outcome, judged, refused}
use Rattle.route_access.specs.Change.{is_accessible, code_of, told_one, told_from}
use Rattle.route_choice.specs.Which.{none}
use Rattle.queue_rings.specs.Ring.{count_of}
use Rattle.queue_heads.specs.Head.{head_of, repeat}
use Rattle.queue_retiring.specs.Leave.{State, state, dropped_one, dropped}
use Rattle.queue_moving.specs.Move.{point_of, goes_to, moved_one, moved_all, apart}
use Rattle.rerouting_releasing.specs.Release.{released_one, released}
use Rattle.changeover_cuts.specs.declared.Cut.{Cut}
use Rattle.changeover_cuts.specs.Cuts.{cut_none}
use Rattle.changeover_ending.specs.End.{links_out, cleared, ended, out_of_service}
use Rattle.changeover.specs.Fail.{failed, open_failed}
use Rattle.changeover_failure.specs.Failure.{state_at}
use Rattle.changeover_failure.specs.Failure as Failure
use Rattle.changeover_failure.specs.Overdue as Overdue
use Rattle.changeover_overdue.specs.Expire as Changeover
use Rattle.changeback_service.specs.InService.{links_in}
use Rattle.changeback.specs.Service.{resumed, into_service}
use Rattle.changeback.specs.Service as Service
use Rattle.changeback_waiting.specs.Wait.{answers, answered_by}
use Rattle.rerouting_marking.specs.Mark.{counts, marks_after}
use Rattle.rerouting.specs.Transfer.{access_told, transferred}
use Rattle.rerouting.specs.Timer.{reply_t6, expired_t6, expired_t10}
use Rattle.rerouting_expiry.specs.Expiry.{reply_t10, test_of}
use Rattle.management_making.specs.Make.{makes_reply}
use Rattle.management_steps.specs.declared.Step.{Step}
use Rattle.management_orders.specs.Carry.{answer_reply, with_answer, ended_by, carried}
use Rattle.managing.specs.Managed.{asked, step_asked, managed}
use Rattle.passing_passage.specs.Passage.{unreachable, place_reply, queued, prohibited_to, tells}
use Rattle.passing.specs.Pass.{not_reached, passed}
use Rattle.passing_offering.specs.Host.{refuses, offered, from_host_by, sent}
use Rattle.discrimination.specs.declared.Came.{Came}
use Rattle.discrimination.specs.declared.Came.TheVariants.{Malformed, Foreign, Delivered, Managed, Passed}
use Rattle.discrimination.specs.Discrimination.{from_link, from_host}
use Rattle.numbers.specs.Numbers.{is_taken}
use Rattle.numbers.specs.Taken.{with_taken, taken_by}
use Rattle.receiving.specs.Receive.{received_by, received}
use Rattle.receiving.specs.Receive as Receive
use Rattle.node.specs.declared.call.Event.{Event}
use Rattle.node.specs.declared.call.Event.TheVariants.{IntoService, Failure, Send, Acknowledgement, Received, FromHost, T1, T2, T3, T4, T6, T8, T10}
use Rattle.node.specs.Memory.{Memory}
use Rattle.node.specs.Call.{sends, acknowledges, wait_ends, t8_ends, receives, takes_over, call_of}
use Rattle.promise_runs.proofs.Outcomes.{by_test}
use Rattle.promise_accounts.proofs.Answers.{left_reports}
use Rattle.promise_reports.proofs.Silent.{send_silent}

module _ (P : Log → Type 0) (one_more : (written : Log) (kind number : ℕ) → P written → P (told written kind number)) where
  -- the changes of access
  module _ (plan : Plan) (before after : ℕ → Bool) where
    change_kept : (destination : ℕ) (written : Log) → P written
        → P (told_one (before destination) (after destination) (code_of plan destination) written)
    unfolding told_one
    change_kept destination written h =
        let code : ℕ = code_of plan destination in
        by_test P (before destination && not (after destination)) _ _
        (λ e. one_more written pause code h)
        (λ e. by_test P (after destination && not (before destination)) _ _ (λ e. one_more written resume code h) (λ e. h))

    changes_kept : (more destination : ℕ) (written : Log) → P written → P (told_from plan before after destination more written)
    unfolding told_from
    changes_kept zero destination written h = h
    changes_kept (suc more) destination written h =
        changes_kept more (destination + 1) _ (change_kept destination written h)

  -- a step that keeps it, done so many times
  repeat_kept : (step : State → State) → ((now : State) → P now.log → P (step now).log) → (n : ℕ) (now : State) → P now.log
      → P (repeat step n now).log
  unfolding repeat
  repeat_kept step keeps zero now h = h
  repeat_kept step keeps (suc n) now h = repeat_kept step keeps n (step now) (keeps now h)

  abbrev Kept : State → Type 0
  Kept now = P now.log

  module _ (rows : List ℕ) (ring : ℕ) where
    -- messages are dropped
    dropped_one_kept : (reason : ℕ) (now : State) → Kept now → Kept (dropped_one rows ring reason now)
    unfolding dropped_one
    dropped_one_kept reason now h =
        by_test Kept (head_of now.queues ring).found _ _ (λ e. one_more now.log reason _ h) (λ e. h)

    dropped_kept : (reason many : ℕ) (now : State) → Kept now → Kept (dropped rows ring reason many now)
    unfolding dropped
    dropped_kept reason = repeat_kept (dropped_one rows ring reason) (dropped_one_kept reason)

    -- messages move
    module _ (plan : Plan) (links marks : List ℕ) where
      moved_one_kept : (now : State) → Kept now → Kept (moved_one plan links marks rows ring now)
      unfolding moved_one
      moved_one_kept now h =
          let head = head_of now.queues ring in
          by_test Kept head.found _ _
          (λ e.
          by_test Kept (ltb (goes_to plan links marks rows head.slot) none) _ _ (λ e. h) (λ e. dropped_one_kept 1 now h))
          (λ e. h)

      moved_kept : (now : State) → Kept now → Kept (moved_all plan links marks rows ring now)
      unfolding moved_all
      moved_kept now = repeat_kept (moved_one plan links marks rows ring) moved_one_kept (count_of now.queues.spans ring) now

  -- those held apart move
  released_kept : (plan : Plan) (links marks rows : List ℕ) (point : ℕ) (now : State) → Kept now
      → Kept (released plan links marks rows point now)
  unfolding released released_one
  released_kept plan links marks rows point now =
      repeat_kept (released_one plan links marks rows point)
      (λ s h.
      by_test Kept (eqb (point_of rows (head_of s.queues apart).slot) point) _ _
      (λ e. moved_one_kept rows apart plan links marks s h)
      (λ e. h))
      (count_of now.queues.spans apart)
      now

  -- a link goes out
  ended_kept : (plan : Plan) (links marks rows : List ℕ) (link : ℕ) (parts : Cut) (now : State) → Kept now
      → Kept (ended plan links marks rows link parts now)
  unfolding ended cleared
  ended_kept plan links marks rows link parts now h =
      changes_kept plan (is_accessible plan links marks) (is_accessible plan (links_out links link) marks) (given plan) 0 _
      (moved_kept rows link plan (links_out links link) marks _ (dropped_kept rows link 2 parts.dropped _ h))

  -- the log of an outcome
  abbrev KeptBy : Outcome → Type 0
  KeptBy o = P (log o.after.reports o.answer.reports)

  module _ (plan : Plan) (a : Areas) (start : P (log a.reports 0)) where
    judged_kept : (reply : ℕ) (done : Outcome) → KeptBy done → KeptBy (judged reply done a)
    judged_kept reply done h = by_test KeptBy (eqb reply 0) done (refused reply a) (λ e. h) (λ e. start)

    out_kept : (b : Areas) → b.reports ≡ a.reports → (link : ℕ) (parts : Cut) → KeptBy (out_of_service plan b link parts)
    unfolding out_of_service
    out_kept b same link parts =
        ended_kept plan b.links b.marks b.rows link parts (state b.spans b.rings b.reports 0)
        (subst (λ (area : List ℕ). P (log area 0)) (sym same) start)

    -- a link comes into service
    service_kept : (link : ℕ) → KeptBy (into_service plan a link)
    unfolding into_service resumed
    service_kept link =
        judged_kept (Service.reply_of plan a link) _
        (changes_kept plan (is_accessible plan a.links a.marks) (is_accessible plan (links_in plan a.links a.marks link) a.marks)
        (given plan)
        0
        (log a.reports 0)
        start)

    -- a link fails
    failure_kept : (link : ℕ) → KeptBy (failed plan a link)
    unfolding failed open_failed
    failure_kept link =
        judged_kept (Failure.reply_of plan a.links link a.reports) _
        (by_test KeptBy (eqb (state_at a.links link) 1) _ _ (λ e. out_kept a refl link cut_none) (λ e. start))

    -- T1, or T2
    timer_kept : (link timer : ℕ) → KeptBy (Changeover.expired plan a link timer)
    unfolding Changeover.expired
    timer_kept link timer =
        judged_kept (Overdue.reply_of plan a.links link timer a.reports) _ (out_kept a refl link cut_none)

    -- T6, and T10
    t6_kept : (x : ℕ) → KeptBy (expired_t6 plan a x)
    unfolding expired_t6
    t6_kept x =
        judged_kept (reply_t6 plan a.marks x a.reports) _
        (released_kept plan a.links (with_flag a.marks (place_of plan x) t6 false) a.rows x
        (state a.spans a.rings a.reports 0)
        start)

    t10_kept : (x set : ℕ) → KeptBy (expired_t10 plan a x set)
    unfolding expired_t10
    t10_kept x set = judged_kept (reply_t10 plan a.marks x set) _ (judged_kept (makes_reply plan (test_of plan x set) a) _ start)

    -- a message from the host
    host_kept : (came : Came) (size : ℕ) → KeptBy (from_host_by plan came size a)
    unfolding from_host_by offered queued
    host_kept Malformed size = start
    host_kept Foreign size = start
    host_kept Delivered size = start
    host_kept (Managed order) size = start
    host_kept (Passed label) size =
        by_test KeptBy (refuses plan a label) _ _ (λ e. start) (λ e. judged_kept (place_reply a) _ start)

    sent_kept : (message : List ℕ) → KeptBy (sent plan message a)
    unfolding sent
    sent_kept message =
        by_test KeptBy plan.given _ _ (λ e. host_kept (from_host plan message) (length message)) (λ e. start)

    -- a message from a link
    module _ (arriving fsn : ℕ) where
      carried_kept : (step : Step) → KeptBy (carried plan step a)
      unfolding carried ended_by
      carried_kept step =
          let same = left_reports a plan step in
          judged_kept step.reply _
          (judged_kept (answer_reply plan step a) _
          (by_test KeptBy step.ends _ _
          (λ e. out_kept (with_answer plan step a) same step.link step.parts)
          (λ e. subst (λ (area : List ℕ). P (log area 0)) (sym same) start)))

      transferred_kept : (point x : ℕ) (prohibits : Bool) → KeptBy (transferred plan point x prohibits a)
      unfolding transferred access_told
      transferred_kept point x prohibits =
          by_test KeptBy (counts plan a.marks point x prohibits) _ _
          (λ e.
          changes_kept plan (is_accessible plan a.links a.marks)
          (is_accessible plan a.links (marks_after plan a.links a.marks point x prohibits))
          (given plan)
          0
          (log a.reports 0)
          start)
          (λ e. start)

      managed_kept : (point slc : ℕ) (message : Message) → KeptBy (managed plan arriving fsn point slc message a)
      unfolding managed asked answered_by
      managed_kept point slc (COO f) = carried_kept (step_asked plan a.links a.marks arriving fsn point slc (COO f))
      managed_kept point slc (COA f) = carried_kept (step_asked plan a.links a.marks arriving fsn point slc (COA f))
      managed_kept point slc (CBD code) = carried_kept (step_asked plan a.links a.marks arriving fsn point slc (CBD code))
      managed_kept point slc (CBA code) = by_test KeptBy (answers plan a.links point slc code) _ _ (λ e. start) (λ e. start)
      managed_kept point slc ECO = carried_kept (step_asked plan a.links a.marks arriving fsn point slc ECO)
      managed_kept point slc ECA = carried_kept (step_asked plan a.links a.marks arriving fsn point slc ECA)
      managed_kept point slc (TFP x) = transferred_kept point x true
      managed_kept point slc (TFA x) = transferred_kept point x false
      managed_kept point slc (RST x) = carried_kept (step_asked plan a.links a.marks arriving fsn point slc (RST x))

      unreached_kept : (x : ℕ) → KeptBy (not_reached plan arriving x a)
      unfolding not_reached
      unreached_kept x =
          by_test KeptBy (tells plan a.marks x) _ _
          (λ e. judged_kept (makes_reply plan (prohibited_to plan arriving x) a) _ start)
          (λ e. start)

      passed_kept : (label : Label) (size : ℕ) → KeptBy (passed plan arriving label size a)
      unfolding passed queued
      passed_kept label size =
          by_test KeptBy (unreachable plan a label) (not_reached plan arriving label.dpc a) _ (λ e. unreached_kept label.dpc)
          (λ e. judged_kept (place_reply a) _ start)

      came_kept : (size : ℕ) (came : Came) → KeptBy (received_by plan arriving fsn size came a)
      unfolding received_by
      came_kept size Malformed = start
      came_kept size Foreign = start
      came_kept size Delivered = start
      came_kept size (Managed order) = managed_kept order.point order.slc order.message
      came_kept size (Passed label) = passed_kept label size

      taken_kept : (o : Outcome) → KeptBy o → KeptBy (taken_by arriving fsn o)
      taken_kept o h =
          by_test (λ (b : Areas). P (log b.reports o.answer.reports)) (is_taken o.answer.reply) (with_taken arriving fsn o.after)
          o.after
          (λ e. h)
          (λ e. h)

      received_kept : (message : List ℕ) → KeptBy (received plan arriving fsn message a)
      unfolding received
      received_kept message =
          judged_kept (Receive.reply_of plan a.links arriving fsn a.reports) _
          (taken_kept (received_by plan arriving fsn (length message) (from_link plan message) a)
          (came_kept (length message) (from_link plan message)))

  -- every call
  pub call_kept : (plan : Plan) (message : List ℕ) (m : Memory) → P (log m.areas.reports 0) → (event : Event)
      → let r = call_of plan event message m in
      P (log r.after.areas.reports r.answer.reports)
  unfolding call_of sends acknowledges wait_ends t8_ends receives takes_over
  call_kept plan message m start (IntoService link) = service_kept plan m.areas start link
  call_kept plan message m start (Failure link) = failure_kept plan m.areas start link
  call_kept plan message m start (Send link) =
      subst (λ (n : ℕ). P (log m.areas.reports n)) (sym (send_silent plan m.areas link m.out)) start
  call_kept plan message m start (Acknowledgement link b) = start
  call_kept plan message m start (Received link fsn) = received_kept plan m.areas start link fsn message
  call_kept plan message m start FromHost = sent_kept plan m.areas start message
  call_kept plan message m start (T1 link) = timer_kept plan m.areas start link 1
  call_kept plan message m start (T2 link) = timer_kept plan m.areas start link 2
  call_kept plan message m start (T3 link) = start
  call_kept plan message m start (T4 link) = start
  call_kept plan message m start (T6 x) = t6_kept plan m.areas start x
  call_kept plan message m start (T8 x) = start
  call_kept plan message m start (T10 x set) = t10_kept plan m.areas start x set
