-- A link that a call takes out of service: its queue is cut where the event says, and its rest moves by the rule, in order, exactly.
-- Assumes nothing.
use mathlib.Core.Path.{◌≡◌, refl, sym, ap, ◌∙◌}
use mathlib.Core.Bool.{Bool, true, false, not, ◌&&◌, ◌||◌, true≢false, and-eq-true_iff}
use mathlib.Core.List.{List, []}
use Prim.Native.Nat.{ℕ, ◌≤◌, ◌<◌, ◌%◌}
use native.Mathlib.Omega.{arith}
use lib.Dec.{eqb, leb}
use lib.ListN.{length}
use borrow.Author.Tests.{ltb-false, leb-true, leb-false, eqb-true}
use borrow.Table.Steps.{cases}
use Rattle.constants.specs.Constants.{no_link}
use Rattle.plan.specs.declared.data.Plan.{Plan}
use Rattle.plan.specs.Find.{given}
use Rattle.plan.proofs.Split.{both_false, alike}
use Rattle.area_links.specs.declared.LinkRecord.{LinkRecord}
use Rattle.area_links.specs.LinkRecords.{record_at}
use Rattle.queue_rings.specs.Ring.{count_of}
use Rattle.wire_messages.specs.declared.management.Message.{Message}
use Rattle.wire_messages.specs.declared.management.Message.TheVariants.{COO, COA, CBD, CBA, ECO, ECA, TFP, TFA, RST}
use Rattle.reports.specs.Report.{short, room}
use Rattle.replies.specs.Reply.{if_done}
use Rattle.replies.specs.Areas.{Areas, Outcome, judged, refused}
use Rattle.lookup.specs.Lookup.{is_link}
use Rattle.changeover_cuts.specs.declared.Cut.{Cut}
use Rattle.changeover_cuts.specs.Cuts.{cut_none}
use Rattle.changeover_ending.specs.End.{out_of_service}
use Rattle.changeover_failure.specs.Failure.{state_at}
use Rattle.changeover.specs.Fail.{open_failed, failed}
use Rattle.changeover_failure.specs.Failure as Failure
use Rattle.changeover_failure.specs.Overdue as Overdue
use Rattle.changeover_overdue.specs.Expire as Timer
use Rattle.management_making.specs.Make.{path_of, is_made}
use Rattle.management_steps.specs.declared.Step.{Step}
use Rattle.management_orders.specs.Carry.{answer_reply, with_answer, ended_by, carried}
use Rattle.managing.specs.Managed.{asked, step_asked, managed}
use Rattle.discrimination.specs.declared.Came.{Came}
use Rattle.discrimination.specs.declared.Came.TheVariants.{Malformed, Foreign, Delivered, Managed, Passed}
use Rattle.discrimination.specs.Discrimination.{from_link}
use Rattle.numbers.specs.Numbers.{is_taken, taken}
use Rattle.numbers.specs.Taken.{with_taken, taken_by}
use Rattle.receiving.specs.Receive.{received_by, received}
use Rattle.receiving.specs.Receive as Receive
use Rattle.node.specs.declared.call.Event.{Event}
use Rattle.node.specs.View.{View, view_of}
use Rattle.node.proofs.Viewed.{EachKind, by_view}
use Rattle.node.specs.Memory.{Memory}
use Rattle.node.specs.Call.{receives, call_of}
use Rattle.promise_leaving.proofs.Ended.{now_out, ended_exactly}
use Rattle.promise_runs.proofs.Outcomes.{RegularIn, unmet, by_test, if_both_done, rows_passed, link_within}
use Rattle.promise_runs.proofs.Records.{received_rewritten}
use Rattle.promise_runs.proofs.KeepsReceiving.{came_regular}
use Rattle.promise_accounts.proofs.Answers.{answer_regular, answer_reports}
use Rattle.promise_accounts.proofs.Bearing.{Bears, asked_bears}
use Rattle.promise_accounts.proofs.EvenEnding.{sent_queued}
use Rattle.promise_accounts.proofs.EvenReceiving.{room_there}
use Rattle.promise_accounts.specs.Ending.{Ending, no_ending, ending_by_timer, ending_by_failure, ending_by_step, ending_by_message, ending_of, state_of, Exactly}

-- at most 64 destinations are given
given_few : (plan : Plan) → given plan ≤ 64
given_few plan = omega arith

-- a link that is out stays out with a message taken
still_out : (links : List ℕ) → length links ≡ 256 → (arriving fsn link : ℕ) → (record_at links link).state ≡ 0
    → (record_at (taken links arriving fsn) link).state ≡ 0
unfolding taken
still_out links long arriving fsn link out =
    let rewritten = received_rewritten links arriving fsn in
    cases (leb 32 arriving)
    (λ past. ap (λ (l : List ℕ). (record_at l link).state) (rewritten.past (leb-true 32 arriving past)) ∙ out)
    (λ within.
    alike link arriving
    (λ same.
    ap (λ (l : ℕ). (record_at (taken links arriving fsn) l).state) same
    ∙ ap (λ (k : LinkRecord). k.state) (rewritten.there long (leb-false 32 arriving within))
    ∙ ap (λ (n : ℕ). n % 4) (ap (λ (l : ℕ). (record_at links l).state) (sym same) ∙ out))
    (λ apart. ap (λ (k : LinkRecord). k.state) (rewritten.others link apart) ∙ out))

module _ (plan : Plan) where
  -- an ending is exact by an outcome
  abbrev pub ExactBy : Ending → Outcome → Type 0
  ExactBy ending o = Exactly plan ending o.after o.answer.reports

  module _ (a : Areas) (octets : List ℕ) (regular : RegularIn a octets) where
    -- the link goes out
    pub out_exactly : (ends answers : Bool) (path link : ℕ) → link < 32 → short a.reports ≡ false → (parts : Cut)
        → ExactBy (record { ends = ends; from = a; link = link; parts = parts; answers = answers; path = path }) (out_of_service plan a link parts)
    unfolding out_of_service
    out_exactly ends answers path link h wide parts =
        record {
          ended =
              ended_exactly plan a.links a.marks a.rows octets link h parts (state_of a 0) regular.store
              (omega (arith, ltb-false (room a.reports) 512 wide, regular.store.short link, given_few plan));
          goes_out = now_out a.links link h;
          rows_same = refl;
          arrivals_same = refl;
        }

    -- a judged event whose reply is 0 does what it does
    done_judged : (ending : Ending) (reply : ℕ) (done : Outcome) → eqb reply 0 ≡ true → ExactBy ending done
        → ExactBy ending (judged reply done a)
    done_judged ending reply done e exact = simp e exact

    -- T1, or T2, expires
    pub timer_exactly : (link timer : ℕ) → (ending_by_timer plan a link timer).ends ≡ true
        → ExactBy (ending_by_timer plan a link timer) (Timer.expired plan a link timer)
    unfolding ending_by_timer Timer.expired Overdue.reply_of
    timer_exactly link timer ends =
        let known = record_at a.links link in
        let reply = Overdue.reply_of plan a.links link timer a.reports in
        let odd = not (eqb timer 1 || eqb timer 2) in
        let passed =
        rows_passed (leb 32 link || (odd || short a.reports)) (not (is_link plan link)) (not (eqb known.timer timer)) []
        (eqb-true reply 0 ends)
        in
        done_judged _ reply (out_of_service plan a link cut_none) ends
        (out_exactly (eqb reply 0) false no_link link (link_within link (odd || short a.reports) passed.0)
        (both_false odd (short a.reports) (both_false (leb 32 link) (odd || short a.reports) passed.0).1).1
        cut_none)

    -- a waiting link fails
    pub failure_exactly : (link : ℕ) → (ending_by_failure plan a link).ends ≡ true → ExactBy (ending_by_failure plan a link) (failed plan a link)
    unfolding ending_by_failure failed Failure.reply_of
    failure_exactly link ends =
        let reply = Failure.reply_of plan a.links link a.reports in
        let waits = eqb (state_at a.links link) 1 in
        let opened = eqb (state_at a.links link) 2 in
        let is = (and-eq-true_iff (eqb reply 0) waits).0 ends in
        let passed =
        rows_passed (leb 32 link || short a.reports) (not (is_link plan link)) (not (opened || waits)) [] (eqb-true reply 0 is.0)
        in
        done_judged _ reply _ is.0
        (by_test (ExactBy (ending_by_failure plan a link)) waits (out_of_service plan a link cut_none) (open_failed plan a link)
        (λ e.
        out_exactly (eqb reply 0 && waits) false no_link link (link_within link (short a.reports) passed.0)
        (both_false (leb 32 link) (short a.reports) passed.0).1
        cut_none)
        (λ e. absurd (true≢false (sym is.1 ∙ e))))

  -- and it is with the message taken after it
  taken_exactly : (ending : Ending) (o : Outcome) → length o.after.links ≡ 256 → ExactBy ending o → (arriving fsn : ℕ)
      → ExactBy ending (taken_by arriving fsn o)
  taken_exactly ending o long exact arriving fsn =
      by_test (λ (b : Areas). Exactly plan ending b o.answer.reports) (is_taken o.answer.reply) (with_taken arriving fsn o.after) o.after
      (λ e.
      record {
        ended = exact.ended;
        goes_out = still_out o.after.links long arriving fsn ending.link exact.goes_out;
        rows_same = exact.rows_same;
        arrivals_same = exact.arrivals_same;
      })
      (λ e. exact)

module _ (plan : Plan) (a : Areas) (octets : List ℕ) (regular : RegularIn a octets) (arriving fsn : ℕ) where
  -- a COO, COA, ECO or ECA that ends a changeover, by the step that it asks
  step_exactly : (step : Step) → short a.reports ≡ false → Bears (count_of a.spans) step
      → (ending_by_step plan a step).ends ≡ true
      → ExactBy plan (ending_by_step plan a step) (carried plan step a)
  unfolding ending_by_step carried ended_by
  step_exactly step wide bears ends =
      let answered = answer_reply plan step a in
      let first = (and-eq-true_iff (eqb step.reply 0) (eqb answered 0 && step.ends)).0 ends in
      let next = (and-eq-true_iff (eqb answered 0) step.ends).0 first.1 in
      let exact =
      out_exactly plan (with_answer plan step a) octets (answer_regular a octets regular plan step)
      true
      (step.answers && is_made plan a.links a.marks a.spans a.arrivals step.draft)
      (path_of plan a.links a.marks step.draft)
      step.link
      (bears next.1).0
      (ap short (answer_reports a octets regular plan step) ∙ wide)
      step.parts
      in
      simp (first.0, next.0, next.1) exact

  module _ (wide : short a.reports ≡ false) (point slc : ℕ) where
    abbrev asks : Message → Step
    asks message = step_asked plan a.links a.marks arriving fsn point slc message

    carries_out : (message : Message) → (ending_by_step plan a (asks message)).ends ≡ true
        → ExactBy plan (ending_by_step plan a (asks message)) (carried plan (asks message) a)
    carries_out message =
        step_exactly (asks message) wide
        (asked_bears (count_of a.spans) plan a.links a.marks
        (λ link h. sent_queued (record_at a.links link) (count_of a.spans link) (regular.each_link link h))
        arriving
        fsn
        point
        slc
        message)

    -- of the nine management messages those that ask for it
    managed_exactly : (message : Message) → (ending_by_step plan a (asks message)).ends ≡ true
        → ExactBy plan (ending_by_step plan a (asks message)) (managed plan arriving fsn point slc message a)
    unfolding managed asked ending_by_step
    managed_exactly (COO f) = carries_out (COO f)
    managed_exactly (COA f) = carries_out (COA f)
    managed_exactly (CBD code) = carries_out (CBD code)
    managed_exactly (CBA code) = λ ends. absurd (true≢false (sym ends))
    managed_exactly ECO = carries_out ECO
    managed_exactly ECA = carries_out ECA
    managed_exactly (TFP x) = λ ends. absurd (true≢false (sym ends))
    managed_exactly (TFA x) = λ ends. absurd (true≢false (sym ends))
    managed_exactly (RST x) = carries_out (RST x)

  -- a message received over a link
  came_exactly : short a.reports ≡ false → (size : ℕ) (came : Came) → (ending_by_message plan a arriving fsn came).ends ≡ true
      → ExactBy plan (ending_by_message plan a arriving fsn came) (received_by plan arriving fsn size came a)
  unfolding ending_by_message received_by
  came_exactly wide size Malformed ends = absurd (true≢false (sym ends))
  came_exactly wide size Foreign ends = absurd (true≢false (sym ends))
  came_exactly wide size Delivered ends = absurd (true≢false (sym ends))
  came_exactly wide size (Managed order) ends = managed_exactly wide order.point order.slc order.message ends
  came_exactly wide size (Passed label) ends = absurd (true≢false (sym ends))

  pub received_exactly : (message : List ℕ)
      → let ending =
      if_done (Receive.reply_of plan a.links arriving fsn a.reports) (ending_by_message plan a arriving fsn (from_link plan message))
      (no_ending a)
      in
      ending.ends ≡ true → ExactBy plan ending (received plan arriving fsn message a)
  unfolding received
  received_exactly message =
      let became : Outcome = received_by plan arriving fsn (length message) (from_link plan message) a in
      if_both_done (λ (e : Ending) (o : Outcome). e.ends ≡ true → ExactBy plan e o)
      (Receive.reply_of plan a.links arriving fsn a.reports)
      (ending_by_message plan a arriving fsn (from_link plan message))
      (no_ending a)
      (taken_by arriving fsn became)
      (refused (Receive.reply_of plan a.links arriving fsn a.reports) a)
      (λ done ends.
      taken_exactly plan (ending_by_message plan a arriving fsn (from_link plan message)) became
      (came_regular a octets regular plan arriving fsn message (from_link plan message)).links_long
      (came_exactly (room_there plan a arriving fsn done) (length message) (from_link plan message) ends)
      arriving
      fsn)
      (λ ends. absurd (true≢false (sym ends)))

-- every event that takes a link out of service does so exactly
module _ (plan : Plan) (message : List ℕ) (m : Memory) (regular : RegularIn m.areas m.octets) where
  abbrev ExactlyBy : View → Event → Type 0
  ExactlyBy view event =
      let ending = ending_of plan m.areas message view in
      let r = call_of plan event message m in
      ending.ends ≡ true → Exactly plan ending r.after.areas r.answer.reports

  by_kind : EachKind ExactlyBy
  unfolding ending_of call_of receives
  by_kind =
      record {
        arrives = λ link fsn. received_exactly plan m.areas m.octets regular link fsn message;
        fails = failure_exactly plan m.areas m.octets regular;
        t1 = λ link. timer_exactly plan m.areas m.octets regular link 1;
        t2 = λ link. timer_exactly plan m.areas m.octets regular link 2;
        comes = λ link. unmet;
        sends = λ link. unmet;
        acknowledges = λ link b. unmet;
        handed_over = unmet;
        expires = λ event is. unmet;
      }

  pub ending_exactly : (event : Event) → ExactlyBy (view_of event) event
  ending_exactly = by_view ExactlyBy by_kind
