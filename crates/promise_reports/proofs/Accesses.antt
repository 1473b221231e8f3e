-- What every call tells of accesses is every change of access from before the call to after it: no access changes untold.
-- Assumes nothing.
use mathlib.Core.Path.{◌≡◌, refl, sym, ap, ap₂, ◌∙◌}
use mathlib.Core.Bool.{Bool, true, false, not, ◌&&◌, ◌||◌, true≢false, and-eq-true_iff}
use mathlib.Core.List.{List, [], ◌∷◌, ◌++◌}
use Prim.Native.Nat.{ℕ, ◌%◌, ◌<◌}
use native.Mathlib.Nat.{mod-mod}
use native.Mathlib.Omega.{arith}
use lib.Dec.{eqb, ltb, leb, lit<}
use lib.ListN.{length}
use borrow.Author.Tests.{lt-ltb, eqb-true}
use borrow.Table.Steps.{cases}
use Rattle.constants.specs.Constants.{t6, t8}
use Rattle.plan.specs.declared.data.Plan.{Plan}
use Rattle.plan.specs.Find.{place_of, given}
use Rattle.plan.proofs.Split.{both_false}
use Rattle.area_links.specs.declared.LinkRecord.{LinkRecord}
use Rattle.area_numbers.specs.LinkWords.{with_acknowledged, with_sent}
use Rattle.area_links.specs.LinkRecords.{record_at, with_record}
use Rattle.wire.specs.declared.header.Label.{Label}
use Rattle.wire_messages.specs.declared.management.Message.{Message}
use Rattle.wire_messages.specs.declared.management.Message.TheVariants.{COO, COA, CBD, CBA, ECO, ECA, TFP, TFA, RST}
use Rattle.reports.specs.Report.{short}
use Rattle.replies.specs.Reply.{plain, done, if_done}
use Rattle.replies.specs.Areas.{Areas, Outcome, outcome, judged, refused, with_links, with_marks}
use Rattle.lookup.specs.Lookup.{is_link, link_named}
use Rattle.route_serving.specs.State.{carries, is_marked}
use Rattle.route_access.specs.Change.{is_accessible}
use Rattle.queue_rings.specs.Ring.{count_of}
use Rattle.queue_heads.specs.Head.{both}
use Rattle.queue_moving.specs.Move.{goes_to}
use Rattle.numbers.specs.Numbers.{is_taken, taken}
use Rattle.numbers.specs.Taken.{with_taken, taken_by}
use Rattle.sending.specs.Send as Send
use Rattle.acknowledging.specs.Acknowledge as Acknowledge
use Rattle.changeover_cuts.specs.declared.Cut.{Cut}
use Rattle.changeover_cuts.specs.Cuts.{cut_none}
use Rattle.changeover_ending.specs.End.{links_out, out_of_service}
use Rattle.changeover_failure.specs.Failure.{state_at, changing}
use Rattle.changeover_failure.specs.Failure as Failure
use Rattle.changeover_failure.specs.Overdue as Overdue
use Rattle.changeover.specs.Fail.{timer_of, open_failed, failed}
use Rattle.changeover_overdue.specs.Expire as Changeover
use Rattle.changeback_opening.specs.Opening.{waits, stopped}
use Rattle.changeback_service.specs.InService.{links_in}
use Rattle.changeback.specs.Service.{resumed, into_service}
use Rattle.changeback.specs.Service as Service
use Rattle.changeback_waiting.specs.Wait.{answers, answered, answered_by}
use Rattle.changeback_waiting.specs.Wait as Wait
use Rattle.rerouting_marking.specs.Mark.{counts, marks_after}
use Rattle.rerouting_expiry.specs.Expiry.{reply_t10, test_of}
use Rattle.rerouting_expiry.specs.Expiry as Expiry
use Rattle.rerouting.specs.Transfer.{access_told, transferred}
use Rattle.rerouting.specs.Timer.{reply_t6, expired_t6, expired_t10}
use Rattle.management_making.specs.Make.{is_made, makes_reply, with_made}
use Rattle.management_steps.specs.declared.Step.{Step}
use Rattle.management_orders.specs.Carry.{answer_reply, with_answer, ended_by, carried}
use Rattle.managing.specs.Managed.{asked, step_asked, managed}
use Rattle.passing_passage.specs.Passage.{unreachable, place_reply, queued, prohibited_to, tells, with_t8}
use Rattle.passing.specs.Pass.{marks_told, not_reached, passed}
use Rattle.passing_offering.specs.Host.{refuses, offered, from_host_by, sent}
use Rattle.discrimination.specs.declared.Came.{Came}
use Rattle.discrimination.specs.declared.Came.TheVariants.{Malformed, Foreign, Delivered, Managed, Passed}
use Rattle.discrimination.specs.Discrimination.{from_link, from_host}
use Rattle.receiving.specs.Receive.{delivery, received_by, received}
use Rattle.receiving.specs.Receive as Receive
use Rattle.node.specs.declared.call.Event.{Event}
use Rattle.node.specs.declared.call.Event.TheVariants.{IntoService, Failure, Send, Acknowledgement, Received, FromHost, T1, T2, T3, T4, T6, T8, T10}
use Rattle.node.specs.Memory.{Memory}
use Rattle.node.specs.Call.{sends, acknowledges, wait_ends, t8_ends, receives, takes_over, call_of}
use Rattle.promise_runs.proofs.Outcomes.{RegularIn, by_test, if_done_lem, rows_passed, link_within}
use Rattle.promise_runs.proofs.Records.{record_rewritten, received_rewritten, sent_rewritten, acknowledged_rewritten}
use Rattle.promise_runs.proofs.KeepsReceiving.{came_regular}
use Rattle.promise_ledger.specs.Reported.{Report, reports_in, is_drop}
use Rattle.promise_leaving.specs.Apart.{let_go}
use Rattle.promise_leaving.specs.Going.{stranded, dropped_part, rest, drops_for, slots_of, changes}
use Rattle.promise_accounts.specs.Ending.{Ending}
use Rattle.promise_accounts.proofs.Answers.{left_links, left_marks, left_reports, answer_regular}
use Rattle.promise_accounts.proofs.Bearing.{Bears, asked_bears}
use Rattle.promise_accounts.proofs.EvenEnding.{sent_queued}
use Rattle.promise_accounts.proofs.EvenReceiving.{room_there}
use Rattle.promise_accounts.proofs.Endings.{out_exactly}
use Rattle.promise_reports.specs.Tells.{access_changes, ending_told, release_told}
use Rattle.promise_reports.specs.ByCode.{accesses_in}
use Rattle.promise_reports.proofs.Silent.{Silent, send_silent}
use Rattle.promise_reports.proofs.Telling.{access_told_lem, ending_told_lem, service_room, t6_tells}
use Rattle.promise_reports.proofs.ByCode.{accesses_all}
use Rattle.promise_reports.proofs.SameAccess.{Carrying, Marked, access_same, none_changed, rewritten_carrying, flag_marked}

-- the accesses of two lists are those of each
accesses_append : (one two : List Report) → accesses_in (one ++ two) ≡ accesses_in one ++ accesses_in two
unfolding accesses_in
accesses_append [] two = refl
accesses_append (told ∷ later) two =
    cases (is_drop told) (λ e. simp (e, accesses_append later two)) (λ e. simp (e, accesses_append later two))

-- drops are none
drops_none : (reason : ℕ) → reason < 4 → (rows slots : List ℕ) → accesses_in (drops_for reason rows slots) ≡ []
unfolding accesses_in
drops_none reason h rows [] = refl
drops_none reason h rows (slot ∷ slots) = simp (lt-ltb reason 4 h, drops_none reason h rows slots)

-- what is rewritten of a link without its state
module _ (links : List ℕ) (long : length links ≡ 256) (link : ℕ) where
  abbrev known : LinkRecord
  known = record_at links link

  small : known.state % 4 ≡ known.state
  small = simp mod-mod

  -- its numbers
  pub received_carrying : (fsn : ℕ) → Carrying links (taken links link fsn)
  unfolding taken
  received_carrying fsn = rewritten_carrying links _ link _ long (received_rewritten links link fsn) (ap (ltb 0) small)

  sent_carrying : (sent : ℕ) → Carrying links (with_sent links link sent)
  sent_carrying sent = rewritten_carrying links _ link _ long (sent_rewritten links link sent) (ap (ltb 0) small)

  acknowledged_carrying : (number sent : ℕ) → Carrying links (with_acknowledged (with_sent links link sent) link number)
  acknowledged_carrying number sent =
      rewritten_carrying links _ link _ long (acknowledged_rewritten links link number sent) (ap (ltb 0) small)

  -- T3 or T4 ends: a link that waits opens, or stays
  waits_carrying : (t3 : Bool) (code : ℕ) → ltb 0 ((waits known t3 code).state % 4) ≡ ltb 0 known.state
  waits_carrying t3 code =
      let opens : Bool = not t3 && eqb code 0 in
      by_test (λ (n : ℕ). ltb 0 (n % 4) ≡ ltb 0 known.state) (eqb known.state 1 && opens) 2 known.state
      (λ e. sym (ap (ltb 0) (eqb-true known.state 1 ((and-eq-true_iff (eqb known.state 1) opens).0 e).0)))
      (λ e. ap (ltb 0) small)

  stopped_carrying : (timer : ℕ) → Carrying links (with_record links link (stopped known timer))
  unfolding stopped
  stopped_carrying timer =
      rewritten_carrying links _ link _ long (record_rewritten links link (stopped known timer))
      (by_test (λ (new : LinkRecord). ltb 0 (new.state % 4) ≡ ltb 0 known.state) (eqb timer 3) _ _
      (λ e. waits_carrying false known.code)
      (λ e. waits_carrying known.t3 0))

  -- an open link is changing
  changing_carrying : known.state ≡ 2 → (timer : ℕ) → Carrying links (with_record links link (changing known timer))
  changing_carrying opened timer =
      rewritten_carrying links _ link _ long (record_rewritten links link (changing known timer)) (ap (ltb 0) (sym opened))

module _ (plan : Plan) (a : Areas) where
  -- what an outcome tells of accesses is what has changed
  abbrev AccessesBy : Outcome → Type 0
  AccessesBy o =
      accesses_in (reports_in o.after.reports o.answer.reports)
      ≡ access_changes plan a.links a.marks o.after.links o.after.marks

  -- where nothing is told, nothing may have changed
  pub same_accesses : (o : Outcome) → Silent o → Carrying a.links o.after.links → Marked a.marks o.after.marks → AccessesBy o
  unfolding reports_in accesses_in
  same_accesses o none carrying marked =
      ap (λ (n : ℕ). accesses_in (reports_in o.after.reports n)) none
      ∙ sym (none_changed plan a.links o.after.links a.marks o.after.marks carrying marked)

  judged_accesses : (reply : ℕ) (done : Outcome) → (reply ≡ 0 → AccessesBy done) → AccessesBy (judged reply done a)
  judged_accesses reply done does =
      by_test AccessesBy (eqb reply 0) done (refused reply a) (λ e. does (eqb-true reply 0 e))
      (λ e. same_accesses (refused reply a) refl (λ link. refl) (λ d rank. refl))

  module _ (octets : List ℕ) (regular : RegularIn a octets) where
    -- a link goes out, from areas with the same links and marks
    out_accesses : (b : Areas) → RegularIn b octets → b.links ≡ a.links → b.marks ≡ a.marks → (link : ℕ) → link < 32
        → short b.reports ≡ false → (parts : Cut) → AccessesBy (out_of_service plan b link parts)
    unfolding ending_told out_of_service
    out_accesses b fine same-links same-marks link h wide parts =
        let o : Outcome = out_of_service plan b link parts in
        let ending : Ending = record { ends = true; from = b; link = link; parts = parts; answers = false; path = 32 } in
        let out : List ℕ = links_out b.links link in
        let slots : List ℕ = slots_of (both b.spans b.rings) link in
        let cut : List ℕ = dropped_part parts slots in
        let stray : List ℕ = stranded (goes_to plan out b.marks b.rows) (rest parts slots) in
        let none : accesses_in (drops_for 2 b.rows cut ++ drops_for 1 b.rows stray) ≡ [] =
        accesses_append (drops_for 2 b.rows cut) (drops_for 1 b.rows stray)
        ∙ ap₂ (λ (l : List Report) (m : List Report). l ++ m) (drops_none 2 (lit< tt) b.rows cut)
        (drops_none 1 (omega arith) b.rows stray)
        in
        ap accesses_in (ending_told_lem plan ending o.after o.answer.reports (out_exactly plan b octets fine true false 32 link h wide parts))
        ∙ accesses_append (drops_for 2 b.rows cut ++ drops_for 1 b.rows stray)
        (access_changes plan b.links b.marks out b.marks)
        ∙ ap₂ (λ (l : List Report) (m : List Report). l ++ m) none
        (accesses_all plan (is_accessible plan b.links b.marks) (is_accessible plan out b.marks) (given plan) 0)
        ∙ ap₂ (λ (links : List ℕ) (marks : List ℕ). access_changes plan links marks out b.marks) same-links same-marks

    -- a link comes into service
    service_accesses : (link : ℕ) → AccessesBy (into_service plan a link)
    unfolding into_service resumed
    service_accesses link =
        let before = is_accessible plan a.links a.marks in
        let after = is_accessible plan (links_in plan a.links a.marks link) a.marks in
        judged_accesses (Service.reply_of plan a link) _
        (λ done.
        ap accesses_in (access_told_lem plan before after a.reports (service_room plan a link done))
        ∙ accesses_all plan before after (given plan) 0)

    -- a link fails
    failure_accesses : (link : ℕ) → AccessesBy (failed plan a link)
    unfolding failed Failure.reply_of open_failed
    failure_accesses link =
        let known = record_at a.links link in
        let waiting = eqb (state_at a.links link) 1 in
        let opened = eqb (state_at a.links link) 2 in
        judged_accesses (Failure.reply_of plan a.links link a.reports) _
        (λ done.
        let passed = rows_passed (leb 32 link || short a.reports) (not (is_link plan link)) (not (opened || waiting)) [] done in
        by_test AccessesBy waiting (out_of_service plan a link cut_none) (open_failed plan a link)
        (λ e.
        out_accesses a regular refl refl link (link_within link (short a.reports) passed.0)
        (both_false (leb 32 link) (short a.reports) passed.0).1
        cut_none)
        (λ e.
        let open-there : opened ≡ true =
        cases opened (λ yes. yes) (λ no. absurd (true≢false (sym (ap₂ (λ (s t : Bool). not (s || t)) no e) ∙ passed.2)))
        in
        same_accesses (open_failed plan a link) refl
        (changing_carrying a.links regular.links_long link (eqb-true (state_at a.links link) 2 open-there) (timer_of plan a link))
        (λ d rank. refl)))

    -- T1, or T2, expires
    timer_accesses : (link timer : ℕ) → AccessesBy (Changeover.expired plan a link timer)
    unfolding Changeover.expired Overdue.reply_of
    timer_accesses link timer =
        let known = record_at a.links link in
        let odd = not (eqb timer 1 || eqb timer 2) in
        judged_accesses (Overdue.reply_of plan a.links link timer a.reports) _
        (λ done.
        let passed = rows_passed (leb 32 link || (odd || short a.reports)) (not (is_link plan link)) (not (eqb known.timer timer)) [] done in
        out_accesses a regular refl refl link (link_within link (odd || short a.reports) passed.0)
        (both_false odd (short a.reports) (both_false (leb 32 link) (odd || short a.reports) passed.0).1).1
        cut_none)

    -- T6: its clock is no mark
    t6_accesses : (x : ℕ) → AccessesBy (expired_t6 plan a x)
    unfolding expired_t6 accesses_in
    t6_accesses x =
        let o : Outcome = expired_t6 plan a x in
        ap accesses_in (t6_tells plan a octets regular x)
        ∙ by_test (λ (l : List Report). accesses_in l ≡ []) (eqb o.answer.reply 0) (release_told plan a o.after x) []
        (λ e. drops_none 1 (omega arith) a.rows (stranded (goes_to plan o.after.links o.after.marks a.rows) (let_go a x)))
        (λ e. refl)
        ∙ sym (none_changed plan a.links o.after.links a.marks o.after.marks
        (by_test (λ (r : Outcome). Carrying a.links r.after.links) (eqb (reply_t6 plan a.marks x a.reports) 0) _ (refused _ a)
        (λ e link. refl)
        (λ e link. refl))
        (by_test (λ (r : Outcome). Marked a.marks r.after.marks) (eqb (reply_t6 plan a.marks x a.reports) 0) _ (refused _ a)
        (λ e. flag_marked a.marks (place_of plan x) t6 false (omega arith))
        (λ e d rank. refl)))

    -- T10, and a message from the host, change neither links nor marks
    t10_accesses : (x set : ℕ) → AccessesBy (expired_t10 plan a x set)
    unfolding expired_t10
    t10_accesses x set =
        judged_accesses (reply_t10 plan a.marks x set) _
        (λ runs.
        judged_accesses (makes_reply plan (test_of plan x set) a) _
        (λ made. same_accesses (outcome (done 0) (with_made plan (test_of plan x set) a)) refl (λ link. refl) (λ d rank. refl)))

    -- the areas are as they were
    kept_accesses : (o : Outcome) → Silent o → o.after ≡ a → AccessesBy o
    kept_accesses o none same =
        same_accesses o none (λ link. ap (λ (b : Areas). carries b.links link) same) (λ d rank. ap (λ (b : Areas). is_marked b.marks d rank) same)

    queued_accesses : (label : Label) (size : ℕ) → AccessesBy (judged (place_reply a) (outcome (done 0) (queued plan a label size)) a)
    unfolding queued
    queued_accesses label size =
        judged_accesses (place_reply a) _
        (λ joins. same_accesses (outcome (done 0) (queued plan a label size)) refl (λ link. refl) (λ d rank. refl))

    host_accesses : (came : Came) (size : ℕ) → AccessesBy (from_host_by plan came size a)
    unfolding from_host_by offered
    host_accesses Malformed size = kept_accesses (refused 3 a) refl refl
    host_accesses Foreign size = kept_accesses (refused 4 a) refl refl
    host_accesses Delivered size = kept_accesses (refused 3 a) refl refl
    host_accesses (Managed order) size = kept_accesses (refused 3 a) refl refl
    host_accesses (Passed label) size =
        by_test AccessesBy (refuses plan a label) (refused 9 a) _ (λ e. kept_accesses (refused 9 a) refl refl) (λ e. queued_accesses label size)

    sent_accesses : (message : List ℕ) → AccessesBy (sent plan message a)
    unfolding sent
    sent_accesses message =
        by_test AccessesBy plan.given _ (refused 2 a) (λ e. host_accesses (from_host plan message) (length message))
        (λ e. kept_accesses (refused 2 a) refl refl)

    -- a message from a link for another point: T8 is no mark
    unreached_accesses : (arriving x : ℕ) → AccessesBy (not_reached plan arriving x a)
    unfolding not_reached marks_told with_t8
    unreached_accesses arriving x =
        let marks : List ℕ = marks_told plan a arriving x in
        by_test AccessesBy (tells plan a.marks x) _ (outcome (plain 9) a)
        (λ e.
        judged_accesses (makes_reply plan (prohibited_to plan arriving x) a) _
        (λ made.
        same_accesses (outcome (plain 9) (with_marks (with_made plan (prohibited_to plan arriving x) a) marks)) refl (λ link. refl)
        (by_test (Marked a.marks) (is_made plan a.links a.marks a.spans a.arrivals (prohibited_to plan arriving x))
        (with_t8 plan a.marks x)
        a.marks
        (λ e. flag_marked a.marks (place_of plan x) t8 true (omega arith))
        (λ e d rank. refl))))
        (λ e. kept_accesses (outcome (plain 9) a) refl refl)

    passed_accesses : (arriving : ℕ) (label : Label) (size : ℕ) → AccessesBy (passed plan arriving label size a)
    unfolding passed
    passed_accesses arriving label size =
        by_test AccessesBy (unreachable plan a label) (not_reached plan arriving label.dpc a) _
        (λ e. unreached_accesses arriving label.dpc)
        (λ e. queued_accesses label size)

    -- a management message
    module _ (wide : short a.reports ≡ false) where
      transferred_accesses : (point x : ℕ) (prohibits : Bool) → AccessesBy (transferred plan point x prohibits a)
      unfolding transferred access_told
      transferred_accesses point x prohibits =
          let marks : List ℕ = marks_after plan a.links a.marks point x prohibits in
          let before = is_accessible plan a.links a.marks in
          let after = is_accessible plan a.links marks in
          by_test AccessesBy (counts plan a.marks point x prohibits) _ (outcome (plain 11) a)
          (λ e. ap accesses_in (access_told_lem plan before after a.reports wide) ∙ accesses_all plan before after (given plan) 0)
          (λ e. kept_accesses (outcome (plain 11) a) refl refl)

      answered_accesses : (point slc code : ℕ) → AccessesBy (answered_by plan point slc code a)
      unfolding answered_by answered
      answered_accesses point slc code =
          let link : ℕ = link_named plan point slc in
          by_test AccessesBy (answers plan a.links point slc code) _ (outcome (plain 11) a)
          (λ e.
          same_accesses (outcome (done 0) (with_links a (answered plan a.links point slc))) refl
          (stopped_carrying a.links regular.links_long link 4)
          (λ d rank. refl))
          (λ e. kept_accesses (outcome (plain 11) a) refl refl)

      module _ (step : Step) (bears : Bears (count_of a.spans) step) where
        abbrev with_answer_lem : Areas
        with_answer_lem = with_answer plan step a

        carried_accesses : AccessesBy (carried plan step a)
        unfolding carried ended_by
        carried_accesses =
            judged_accesses step.reply _
            (λ asks.
            judged_accesses (answer_reply plan step a) _
            (λ made.
            by_test AccessesBy step.ends (out_of_service plan with_answer_lem step.link step.parts) (outcome (done 0) with_answer_lem)
            (λ ends.
            out_accesses with_answer_lem (answer_regular a octets regular plan step) (left_links a plan step) (left_marks a plan step) step.link (bears ends).0
            (ap short (left_reports a plan step) ∙ wide)
            step.parts)
            (λ stays.
            same_accesses (outcome (done 0) with_answer_lem) refl (λ link. ap (λ (l : List ℕ). carries l link) (left_links a plan step))
            (λ d rank. ap (λ (l : List ℕ). is_marked l d rank) (left_marks a plan step)))))

      module _ (arriving fsn point slc : ℕ) where
        by_step : (message : Message) → AccessesBy (carried plan (step_asked plan a.links a.marks arriving fsn point slc message) a)
        by_step message =
            carried_accesses (step_asked plan a.links a.marks arriving fsn point slc message)
            (asked_bears (count_of a.spans) plan a.links a.marks
            (λ link h. sent_queued (record_at a.links link) (count_of a.spans link) (regular.each_link link h))
            arriving
            fsn
            point
            slc
            message)

        managed_accesses : (message : Message) → AccessesBy (managed plan arriving fsn point slc message a)
        unfolding managed asked
        managed_accesses (COO f) = by_step (COO f)
        managed_accesses (COA f) = by_step (COA f)
        managed_accesses (CBD code) = by_step (CBD code)
        managed_accesses (CBA code) = answered_accesses point slc code
        managed_accesses ECO = by_step ECO
        managed_accesses ECA = by_step ECA
        managed_accesses (TFP x) = transferred_accesses point x true
        managed_accesses (TFA x) = transferred_accesses point x false
        managed_accesses (RST x) = by_step (RST x)

      -- whatever it is
      came_accesses : (arriving fsn size : ℕ) (came : Came) → AccessesBy (received_by plan arriving fsn size came a)
      unfolding received_by
      came_accesses arriving fsn size Malformed = kept_accesses (outcome (plain 3) a) refl refl
      came_accesses arriving fsn size Foreign = kept_accesses (outcome (plain 4) a) refl refl
      came_accesses arriving fsn size Delivered = kept_accesses (outcome delivery a) refl refl
      came_accesses arriving fsn size (Managed order) = managed_accesses arriving fsn order.point order.slc order.message
      came_accesses arriving fsn size (Passed label) = passed_accesses arriving label size

    -- and it is taken: the last received number is no state
    taken_accesses : (arriving fsn : ℕ) (o : Outcome) → length o.after.links ≡ 256 → AccessesBy o → AccessesBy (taken_by arriving fsn o)
    taken_accesses arriving fsn o long told =
        by_test
        (λ (b : Areas).
        accesses_in (reports_in b.reports o.answer.reports) ≡ access_changes plan a.links a.marks b.links b.marks)
        (is_taken o.answer.reply)
        (with_taken arriving fsn o.after)
        o.after
        (λ e.
        told
        ∙ ap (λ (after : ℕ → Bool). changes plan (is_accessible plan a.links a.marks) after 0 (given plan))
        (sym (access_same plan o.after.links (taken o.after.links arriving fsn) o.after.marks o.after.marks
        (received_carrying o.after.links long arriving fsn)
        (λ d rank. refl))))
        (λ e. told)

    received_accesses : (arriving fsn : ℕ) (message : List ℕ) → AccessesBy (received plan arriving fsn message a)
    unfolding received
    received_accesses arriving fsn message =
        let came : Came = from_link plan message in
        judged_accesses (Receive.reply_of plan a.links arriving fsn a.reports) _
        (λ done.
        taken_accesses arriving fsn (received_by plan arriving fsn (length message) came a)
        (came_regular a octets regular plan arriving fsn message came).links_long
        (came_accesses (room_there plan a arriving fsn done) arriving fsn (length message) came))

-- every call
module _ (plan : Plan) (message : List ℕ) (m : Memory) (regular : RegularIn m.areas m.octets) where
  abbrev areas : Areas
  areas = m.areas

  abbrev long : length areas.links ≡ 256
  long = regular.links_long

  -- the answer of a call, and the areas after it
  abbrev called : Event → Outcome
  called event =
      let r = call_of plan event message m in
      outcome r.answer r.after.areas

  -- what it leaves of the links, or of the marks, by its reply
  if_carrying : (reply : ℕ) (after : List ℕ) → Carrying areas.links after → Carrying areas.links (if_done reply after areas.links)
  if_carrying reply after h = if_done_lem (Carrying areas.links) reply after areas.links (λ e. h) (λ link. refl)

  pub call_accesses : (event : Event) → AccessesBy plan areas (called event)
  unfolding call_of sends acknowledges wait_ends t8_ends receives takes_over Send.links_after Acknowledge.links_after Wait.expired Expiry.expired_t8
  call_accesses (IntoService link) = service_accesses plan areas m.octets regular link
  call_accesses (Failure link) = failure_accesses plan areas m.octets regular link
  call_accesses (Send link) =
      same_accesses plan areas (called (Send link)) (send_silent plan areas link m.out)
      (if_carrying (Send.reply_of plan areas.links areas.spans link (length m.out)) _ (sent_carrying areas.links long link _))
      (λ d rank. refl)
  call_accesses (Acknowledgement link b) =
      same_accesses plan areas (called (Acknowledgement link b)) refl
      (if_carrying (Acknowledge.reply_of plan areas.links link b) _ (acknowledged_carrying areas.links long link b _))
      (λ d rank. refl)
  call_accesses (Received link fsn) = received_accesses plan areas m.octets regular link fsn message
  call_accesses FromHost = sent_accesses plan areas m.octets regular message
  call_accesses (T1 link) = timer_accesses plan areas m.octets regular link 1
  call_accesses (T2 link) = timer_accesses plan areas m.octets regular link 2
  call_accesses (T3 link) =
      same_accesses plan areas (called (T3 link)) refl
      (if_carrying (Wait.reply_of plan areas.links link 3) _ (stopped_carrying areas.links long link 3))
      (λ d rank. refl)
  call_accesses (T4 link) =
      same_accesses plan areas (called (T4 link)) refl
      (if_carrying (Wait.reply_of plan areas.links link 4) _ (stopped_carrying areas.links long link 4))
      (λ d rank. refl)
  call_accesses (T6 x) = t6_accesses plan areas m.octets regular x
  call_accesses (T8 x) =
      same_accesses plan areas (called (T8 x)) refl (λ link. refl)
      (if_done_lem (Marked areas.marks) (Expiry.reply_of plan areas.marks x t8) _ areas.marks
      (λ done. flag_marked areas.marks (place_of plan x) t8 false (omega arith))
      (λ d rank. refl))
  call_accesses (T10 x set) = t10_accesses plan areas m.octets regular x set
