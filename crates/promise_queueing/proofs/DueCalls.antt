-- Every call makes what is due, where its event isn't refused and there is a path, a place and a number, and makes nothing else: a COO with a failure, a
-- CBD with a link that comes into service, the answer to a management message, the TFP of reply 9, the RST of T10.
-- Assumes nothing.
use mathlib.Core.Path.{◌≡◌, refl, sym, ap, ap₂, subst, ◌∙◌}
use mathlib.Core.Bool.{Bool, true, false, cond, not, ◌&&◌, ◌||◌, and-false}
use mathlib.Core.List.{List, []}
use Prim.Native.Nat.{ℕ}
use lib.Dec.{eqb, ltb, leb}
use lib.ListN.{length}
use borrow.Author.Tests.{eqb-true, eq-eqb}
use borrow.Table.Steps.{cases}
use Rattle.plan.specs.declared.data.Plan.{Plan}
use Rattle.area_links.specs.declared.LinkRecord.{LinkRecord}
use Rattle.area_links.specs.LinkRecords.{record_at}
use Rattle.wire_messages.specs.declared.management.Message.{Message}
use Rattle.wire_messages.specs.declared.management.Message.TheVariants.{COO, COA, CBD, CBA, ECO, ECA, TFP, TFA, RST}
use Rattle.queue_store.specs.Sound.{Kinds}
use Rattle.reports.specs.Report.{short}
use Rattle.replies.specs.Reply.{first, plain, done}
use Rattle.replies.specs.Areas.{Areas, Outcome, outcome, judged, refused}
use Rattle.lookup.specs.Lookup.{link_named, is_link, adjacent_of}
use Rattle.queue_joining.specs.Queue.{management_reply}
use Rattle.numbers.specs.Numbers.{is_taken}
use Rattle.numbers.specs.Taken.{with_taken, taken_by}
use Rattle.management_making.specs.declared.Draft.{Draft}
use Rattle.management_making.specs.Make.{reply_of, with_made, makes_reply}
use Rattle.changeover_cuts.specs.declared.Cut.{Cut}
use Rattle.changeover_cuts.specs.Cuts.{cut_at, cut_unknown, cut_none}
use Rattle.changeover_ending.specs.End.{links_out, out_of_service}
use Rattle.changeover_failure.specs.Failure.{state_at, order_of}
use Rattle.changeover_failure.specs.Failure as Failure
use Rattle.changeover.specs.Fail.{timer_of, open_failed, failed}
use Rattle.changeback_pairs.specs.declared.Sources.{Sources}
use Rattle.changeback_service.specs.InService.{declares, sources_in, refusals_first, reply_first}
use Rattle.changeback.specs.Service.{declare_reply, into_service}
use Rattle.changeback.specs.Service as Service
use Rattle.rerouting.specs.Timer.{expired_t10}
use Rattle.rerouting_expiry.specs.Expiry.{refusals_t10, reply_t10, test_of}
use Rattle.management_steps.specs.declared.Step.{Step}
use Rattle.management_steps.specs.Step.{nothing, answer, answer_and_end, end, draft, order_step, ack_step}
use Rattle.management_asking.specs.Ask.{last_received, emergency_of, ask_coo, ask_eco, ask_coa, ask_eca}
use Rattle.management_requests.specs.Request.{ask_cbd, allows, ask_rst}
use Rattle.management_orders.specs.Carry.{answer_reply, with_answer, ended_by, carried}
use Rattle.managing.specs.Managed.{asked, step_asked, managed}
use Rattle.passing_passage.specs.Passage.{unreachable, prohibited_to, tells}
use Rattle.passing.specs.Pass.{not_reached, passed}
use Rattle.receiving.specs.Receive.{received_by, received}
use Rattle.receiving.specs.Receive as Receive
use Rattle.discrimination.specs.declared.Came.{Came}
use Rattle.discrimination.specs.declared.Came.TheVariants.{Malformed, Foreign, Delivered, Managed, Passed}
use Rattle.discrimination.specs.Discrimination.{from_link}
use Rattle.node.specs.declared.call.Event.{Event}
use Rattle.node.specs.declared.call.Event.TheVariants.{IntoService, Failure, Send, Acknowledgement, Received, FromHost, T1, T2, T3, T4, T6, T8, T10}
use Rattle.node.specs.Memory.{Memory}
use Rattle.node.specs.Call.{receives, call_of}
use Rattle.promise_runs.proofs.Outcomes.{RegularIn, unmet, by_test, both_by_test, rows_passed}
use Rattle.promise_contents.specs.Made.{Nothing, User, Made, declaration_of, answer_in, new_by, new_of}
use Rattle.promise_contents.specs.Given.{makes, gives_answer, gives_by, gives}
use Rattle.promise_contents.proofs.GivenCalls.{declares_placed}
use Rattle.promise_queueing.specs.Making.{open_path, path_by}
use Rattle.promise_queueing.specs.Due.{Due, NoneDue, IsDue, answer_due, tells_of, due_by, due_of, is_met, path_due, if_made, made_in}
use Rattle.promise_queueing.proofs.MadePaths.{any_open, order_path, path_taken, Fits, asked_fits}
use Rattle.promise_queueing.proofs.MakingCalls.{fails_within}
use Rattle.promise_queueing.proofs.DueLaws.{is_made_by, refused_unmet, both_off, not_given, none_made, room_in, due_for, Makes, none_due, refused_makes, judged_makes, Met, met_makes, made_met}

-- one of two tests, where the first fails
the_other : (x y : Bool) → not (x || y) ≡ false → x ≡ false → y ≡ true
the_other true y e off = unmet (sym off)
the_other false true e off = refl
the_other false false e off = unmet (sym e)

module _ (plan : Plan) (a : Areas) (octets : List ℕ) (regular : RegularIn a octets) (kinds : Kinds a.spans a.rings)
    (one : length a.arrivals ≡ 1) where
  -- the failure of an open link: its COO
  module _ (link : ℕ) where
    abbrev fail_reply : ℕ
    fail_reply = Failure.reply_of plan a.links link a.reports

    abbrev order : Draft
    order = order_of plan a.links link

    order_makes : (stands waits : Bool) → (stands ≡ true → waits ≡ false) → (eqb fail_reply 0 ≡ true → stands ≡ false → waits ≡ true)
        → Makes plan a (cond stands (due_for order) NoneDue) (Made order) (eqb fail_reply 0 && (not waits && makes plan order a))
        (judged fail_reply (cond waits (out_of_service plan a link cut_none) (open_failed plan a link)) a)
    unfolding open_failed Failure.reply_of made_in
    order_makes true true apart either = unmet (sym (apart refl))
    order_makes true false apart either =
        judged_makes plan a (due_for order) (Made order) (makes plan order a) fail_reply (open_failed plan a link)
        (refused_unmet (Failure.refusals_of plan a.links link a.reports) refl)
        (λ zero.
        met_makes plan a order (open_failed plan a link)
        (λ there. (
          refl,
          order_path plan a.marks a.links link (timer_of plan a link) regular.links_long
              (fails_within plan a octets regular kinds one link (eqb-true fail_reply 0 zero)),
        )))
    order_makes false true apart either =
        none_due plan a (Made order) (eqb fail_reply 0 && false) (judged fail_reply (out_of_service plan a link cut_none) a)
        (ap (made_in (Made order)) (and-false (eqb fail_reply 0)))
    order_makes false false apart either =
        none_due plan a (Made order) (eqb fail_reply 0 && makes plan order a) (judged fail_reply (open_failed plan a link) a)
        (cases (eqb fail_reply 0) (λ zero. unmet (either zero refl))
        (λ some. ap (λ (t : Bool). made_in (Made order) (t && makes plan order a)) some))

    failure_makes : (message : List ℕ)
        → Makes plan a (due_of plan (Failure link) message a) (Made order)
        (eqb fail_reply 0 && (not (eqb (state_at a.links link) 1) && makes plan order a))
        (failed plan a link)
    unfolding failed due_of order_of Failure.reply_of
    failure_makes message =
        let state = state_at a.links link in
        order_makes (eqb state 2) (eqb state 1) (λ stands. ap (λ (n : ℕ). eqb n 1) (eqb-true state 2 stands))
        (λ zero shut.
        let known =
        rows_passed (leb 32 link || short a.reports) (not (is_link plan link)) (not (eqb state 2 || eqb state 1)) [] (eqb-true fail_reply 0 zero)
        in
        the_other (eqb state 2) (eqb state 1) known.2 shut)

  -- a link comes into service: its CBD
  service_unmet : (link : ℕ) → room_in a ≡ true → eqb (Service.reply_of plan a link) 0 ≡ false → is_met (Service.reply_of plan a link) ≡ false
  unfolding Service.reply_of declare_reply reply_first
  service_unmet link there =
      let rows = refusals_first plan a.links link a.reports in
      let Says : ℕ → Type 0 = λ n. eqb n 0 ≡ false → is_met n ≡ false in
      by_test Says (eqb (first rows) 0) (declare_reply a.spans a.arrivals (sources_in plan a.links a.marks link)) (first rows)
      (λ e.
      by_test Says (declares (sources_in plan a.links a.marks link)) (management_reply a.spans a.arrivals) 0
      (λ d some. unmet (sym some ∙ there))
      (λ d some. unmet (sym some)))
      (λ e. refused_unmet rows refl)

  module _ (link : ℕ) where
    abbrev from : Sources
    from = sources_in plan a.links a.marks link

    abbrev service_reply : ℕ
    service_reply = Service.reply_of plan a link

    abbrev declaration : Draft
    declaration = declaration_of plan a link

    declared_makes : (free : Bool) → room_in a ≡ free → declares from ≡ true → (does : Outcome) → does.answer.reply ≡ 0
        → Makes plan a (due_for declaration) (Made declaration) (eqb service_reply 0 && true) (judged service_reply does a)
    unfolding made_in path_due path_by
    declared_makes true there named does zero =
        judged_makes plan a (due_for declaration) (Made declaration) true service_reply does (service_unmet link there)
        (λ e.
        ap₂ (λ (t u : Bool). cond (t && u) (due_for declaration) NoneDue) (sym (ap is_met zero)) (sym (ap₂ (λ (t u : Bool). t && u) named there)))
    declared_makes false full named does zero =
        ap (λ (t : Bool). cond (t && true) (due_for declaration) NoneDue)
        (cases (eqb service_reply 0)
        (λ e.
        let placed = declares_placed plan a octets regular kinds one link (eqb-true service_reply 0 e) named in
        unmet (sym full ∙ eq-eqb (management_reply a.spans a.arrivals) 0 placed))
        (λ e. e))
        ∙ sym (ap (λ (t : Bool). cond t (due_for declaration) NoneDue) (both_off (is_met (judged service_reply does a).answer.reply) (declares from) full))

    by_sources : (named : Bool) → declares from ≡ named → (does : Outcome) → does.answer.reply ≡ 0
        → Makes plan a (cond named (due_for declaration) NoneDue) (Made declaration) (eqb service_reply 0 && named) (judged service_reply does a)
    unfolding made_in
    by_sources true is does zero = declared_makes (room_in a) refl is does zero
    by_sources false is does zero =
        none_due plan a (Made declaration) (eqb service_reply 0 && false) (judged service_reply does a)
        (ap (made_in (Made declaration)) (and-false (eqb service_reply 0)))

    service_makes : (message : List ℕ)
        → Makes plan a (due_of plan (IntoService link) message a) (Made declaration) (eqb service_reply 0 && declares from) (into_service plan a link)
    unfolding into_service due_of
    service_makes message = by_sources (declares from) refl _ refl

  -- T10 expires: its RST
  t10_makes : (message : List ℕ) (x set : ℕ)
      → Makes plan a (due_of plan (T10 x set) message a) (Made (test_of plan x set)) (eqb (reply_t10 plan a.marks x set) 0 && makes plan (test_of plan x set) a)
      (expired_t10 plan a x set)
  unfolding expired_t10 reply_t10 test_of due_of path_by
  t10_makes message x set =
      let test = test_of plan x set in
      let does : Outcome = judged (makes_reply plan test a) (outcome (done 0) (with_made plan test a)) a in
      judged_makes plan a (due_for test) (Made test) (makes plan test a) (reply_t10 plan a.marks x set) does
      (refused_unmet (refusals_t10 plan a.marks x set) refl)
      (λ zero. met_makes plan a test does (made_met plan a test (outcome (done 0) (with_made plan test a)) (refl, any_open plan a.marks a.links test refl)))

  -- a step: its answer
  abbrev long : length a.links ≡ 256
  long = regular.links_long

  abbrev Answers : Due → Step → Type 0
  Answers due step = Makes plan a due (answer_in step) (gives_answer plan step a) (carried plan step a)

  module _ (step : Step) (fits : Fits plan a long step) (asks : eqb step.reply 0 ≡ true) (answers : step.answers ≡ true) where
    abbrev own : Draft
    own = step.draft

    ended_met : Met plan a own (ended_by plan step (with_made plan own a))
    unfolding ended_by out_of_service
    ended_met =
        let b : Areas = with_made plan own a in
        let left : Bool → ℕ =
        λ t. path_by (open_path plan (cond t (links_out a.links step.link) a.links) a.marks) own.message own.point own.slc
        in
        by_test (Met plan a own) step.ends (out_of_service plan b step.link step.parts) (outcome (done 0) b)
        (λ ends. (refl, fits answers ∙ ap left ends))
        (λ off. (refl, fits answers ∙ ap left off))

    carried_met : room_in a ≡ true → Met plan a own (carried plan step a)
    unfolding carried answer_reply with_answer
    carried_met there =
        let b : Areas = with_made plan own a in
        subst (λ (t : Bool). Met plan a own (cond t (judged (answer_reply plan step a) (ended_by plan step (with_answer plan step a)) a) (refused step.reply a)))
        (sym asks)
        (subst (λ (t : Bool). Met plan a own (judged (cond t (makes_reply plan own a) 0) (ended_by plan step (cond t b a)) a)) (sym answers)
        (made_met plan a own (ended_by plan step b) ended_met there))

    carried_makes : Answers (due_for own) step
    carried_makes =
        subst (λ (t : Bool). Makes plan a (due_for own) (answer_in step) (t && (step.answers && makes plan own a)) (carried plan step a)) (sym asks)
        (subst (λ (t : Bool). Makes plan a (due_for own) (cond t (Made own) Nothing) (t && makes plan own a) (carried plan step a)) (sym answers)
        (met_makes plan a own (carried plan step a) carried_met))

  -- one that is refused
  nothing_makes : (due : Due) → Answers due nothing
  unfolding carried
  nothing_makes due = refused_makes plan a due Nothing 11 refl

  -- one without an answer
  ack_makes : (link : ℕ) (known : LinkRecord) (parts : Cut) → Answers NoneDue (ack_step link known parts)
  unfolding ack_step made_in
  ack_makes link known parts =
      by_test (Answers NoneDue) (ltb link 32 && eqb known.timer 2) (end link parts) nothing
      (λ e. none_due plan a Nothing (gives_answer plan (end link parts) a) (carried plan (end link parts) a) refl)
      (λ e. nothing_makes NoneDue)

  -- each of the nine management messages
  module _ (arriving fsn point slc : ℕ) where
    abbrev link : ℕ
    link = link_named plan point slc

    abbrev known : LinkRecord
    known = record_at a.links link

    abbrev fitting : (message : Message) → Fits plan a long (step_asked plan a.links a.marks arriving fsn point slc message)
    fitting = asked_fits plan a long arriving fsn point slc

    managed_makes : (message : Message)
        → let step = step_asked plan a.links a.marks arriving fsn point slc message in
        Makes plan a (answer_due plan a arriving fsn point slc message) (answer_in step) (gives_answer plan step a) (managed plan arriving fsn point slc message a)
    unfolding managed asked answer_due ask_coo ask_coa ask_cbd ask_eco ask_eca ask_rst emergency_of order_step made_in
    managed_makes (COO f) =
        let coa = draft (COA (last_received a.links arriving fsn link)) point slc link in
        let eca = draft ECA point slc link in
        let last = answer_and_end coa link (cond (eqb known.state 1) cut_none (cut_at known f)) in
        by_test (λ (step : Step). Fits plan a long step → Answers (cond (eqb known.state 0) (due_for eca) (due_for coa)) step) (ltb link 32) _ nothing
        (λ e.
        both_by_test (λ (due : Due) (step : Step). Fits plan a long step → Answers due step) (eqb known.state 0) (due_for eca) (due_for coa) (answer eca) last
        (λ out fits. carried_makes (answer eca) fits refl refl)
        (λ on fits. carried_makes last fits refl refl))
        (λ e fits. nothing_makes _)
        (fitting (COO f))
    managed_makes (COA f) = ack_makes link known (cut_at known f)
    managed_makes (CBD code) =
        let cba = draft (CBA code) point slc 32 in
        by_test (λ (step : Step). Fits plan a long step → Answers (due_for cba) step) (ltb link 32) (answer cba) nothing
        (λ e fits. carried_makes (answer cba) fits refl refl)
        (λ e fits. nothing_makes (due_for cba))
        (fitting (CBD code))
    managed_makes (CBA code) = none_due plan a Nothing false (managed plan arriving fsn point slc (CBA code) a) refl
    managed_makes ECO =
        let eca = draft ECA point slc link in
        let last = answer_and_end eca link (cond (eqb known.state 1) cut_none (cut_unknown known)) in
        let Gets : Step → Type 0 = λ step. Fits plan a long step → Answers (due_for eca) step in
        by_test Gets (ltb link 32) _ nothing
        (λ e.
        by_test Gets (eqb known.state 0) (answer eca) last (λ out fits. carried_makes (answer eca) fits refl refl)
        (λ on fits. carried_makes last fits refl refl))
        (λ e fits. nothing_makes (due_for eca))
        (fitting ECO)
    managed_makes ECA = ack_makes link known (cut_unknown known)
    managed_makes (TFP x) = none_due plan a Nothing false (managed plan arriving fsn point slc (TFP x) a) refl
    managed_makes (TFA x) = none_due plan a Nothing false (managed plan arriving fsn point slc (TFA x) a) refl
    managed_makes (RST x) =
        let tfa = draft (TFA x) point 0 32 in
        by_test (λ (step : Step). Fits plan a long step → Answers (due_for tfa) step) (allows plan a.links a.marks point x) (answer tfa) nothing
        (λ e fits. carried_makes (answer tfa) fits refl refl)
        (λ e fits. nothing_makes (due_for tfa))
        (fitting (RST x))

  -- one that has no way: the TFP
  module _ (arriving x : ℕ) where
    abbrev tfp : Draft
    tfp = prohibited_to plan arriving x

    by_tells : (told : Bool) (does : Outcome) → Met plan a tfp does
        → Makes plan a (cond told (due_for tfp) NoneDue) (Made tfp) (told && makes plan tfp a)
        (cond told (judged (makes_reply plan tfp a) does a) (outcome (plain 9) a))
    by_tells true does met = met_makes plan a tfp (judged (makes_reply plan tfp a) does a) (made_met plan a tfp does met)
    by_tells false does met = none_due plan a (Made tfp) false (outcome (plain 9) a) (not_given (Made tfp))

    not_reached_makes : Makes plan a (cond (tells_of plan a x) (IsDue (TFP x) (adjacent_of plan arriving) 0) NoneDue) (Made tfp)
        (tells plan a.marks x && makes plan tfp a)
        (not_reached plan arriving x a)
    unfolding not_reached tells prohibited_to path_by
    not_reached_makes = by_tells (tells plan a.marks x) _ (refl, any_open plan a.marks a.links tfp refl)

  -- by what a message from a link is
  came_makes : (arriving fsn size : ℕ) (came : Came)
      → Makes plan a (due_by plan a arriving fsn came) (new_by plan arriving fsn size came a) (gives_by plan arriving fsn came a)
      (received_by plan arriving fsn size came a)
  unfolding received_by new_by gives_by due_by passed made_in
  came_makes arriving fsn size Malformed = none_due plan a Nothing false (received_by plan arriving fsn size Malformed a) refl
  came_makes arriving fsn size Foreign = none_due plan a Nothing false (received_by plan arriving fsn size Foreign a) refl
  came_makes arriving fsn size Delivered = none_due plan a Nothing false (received_by plan arriving fsn size Delivered a) refl
  came_makes arriving fsn size (Managed order) = managed_makes arriving fsn order.point order.slc order.message
  came_makes arriving fsn size (Passed label) =
      by_way (unreachable plan a label) (tells_of plan a label.dpc) _ _ _ _ (not_reached_makes arriving label.dpc)
    where
      by_way : (test may told placed : Bool) (x y : Outcome)
          → Makes plan a (cond may (IsDue (TFP label.dpc) (adjacent_of plan arriving) 0) NoneDue) (Made (prohibited_to plan arriving label.dpc)) told x
          → Makes plan a (cond (test && may) (IsDue (TFP label.dpc) (adjacent_of plan arriving) 0) NoneDue)
          (cond test (Made (prohibited_to plan arriving label.dpc)) (User size))
          (cond test told placed)
          (cond test x y)
      by_way true may told placed x y makes-it = makes-it
      by_way false may told placed x y makes-it = none_due plan a (User size) placed y refl

  -- a message that is taken leaves every path
  taken_path : (due : Due) (b : Areas) (arriving fsn : ℕ) → path_due plan a b due ≡ path_due plan a (with_taken arriving fsn b) due
  unfolding path_due
  taken_path NoneDue b arriving fsn = refl
  taken_path (IsDue message point slc) b arriving fsn =
      sym (path_taken plan a.marks b.links arriving fsn (draft message point slc 32))

  -- judged by the reply first, and taken or not
  received_makes : (message : List ℕ) (arriving fsn : ℕ)
      → Makes plan a (due_by plan a arriving fsn (from_link plan message)) (new_by plan arriving fsn (length message) (from_link plan message) a)
      (eqb (Receive.reply_of plan a.links arriving fsn a.reports) 0 && gives_by plan arriving fsn (from_link plan message) a)
      (received plan arriving fsn message a)
  unfolding received Receive.reply_of
  received_makes message arriving fsn =
      let came = from_link plan message in
      let due = due_by plan a arriving fsn came in
      let new = new_by plan arriving fsn (length message) came a in
      let given = gives_by plan arriving fsn came a in
      let o : Outcome = received_by plan arriving fsn (length message) came a in
      let said : ℕ = o.answer.reply in
      judged_makes plan a due new given (Receive.reply_of plan a.links arriving fsn a.reports) (taken_by arriving fsn o)
      (refused_unmet (Receive.refusals_of plan a.links arriving fsn a.reports) refl)
      (λ zero.
      let makes-it = came_makes arriving fsn (length message) came in
      by_test (λ (b : Areas). made_in new given ≡ if_made due (is_made_by plan due said a b (room_in a))) (is_taken said) (with_taken arriving fsn o.after) o.after
      (λ t. makes-it ∙ ap (λ (p : ℕ). cond (is_met said && (ltb p 32 && room_in a)) due NoneDue) (taken_path due o.after arriving fsn))
      (λ t. makes-it))

module _ (plan : Plan) (message : List ℕ) (m : Memory) (regular : RegularIn m.areas m.octets)
    (kinds : Kinds m.areas.spans m.areas.rings)
    (one : length m.areas.arrivals ≡ 1) where
  none_made_by : (event : Event)
      → NoneDue
      ≡ if_made NoneDue
      (is_made_by plan NoneDue (call_of plan event message m).answer.reply m.areas (call_of plan event message m).after.areas
      (room_in m.areas))
  none_made_by event =
      let o = call_of plan event message m in
      none_made plan o.answer.reply m.areas o.after.areas (room_in m.areas)

  -- every event
  pub call_makes : (event : Event)
      → let a = m.areas in
      let o = call_of plan event message m in
      made_in (new_of plan event message a) (gives plan event message a)
      ≡ if_made (due_of plan event message a)
      (is_made_by plan (due_of plan event message a) o.answer.reply a o.after.areas (room_in a))
  unfolding call_of new_of gives due_of receives made_in
  call_makes (IntoService link) = service_makes plan m.areas m.octets regular kinds one link message
  call_makes (Failure link) = failure_makes plan m.areas m.octets regular kinds one link message
  call_makes (Received link fsn) = received_makes plan m.areas m.octets regular kinds one message link fsn
  call_makes (T10 x set) = t10_makes plan m.areas m.octets regular kinds one message x set
  call_makes (Send link) = none_made_by (Send link)
  call_makes (Acknowledgement link b) = none_made_by (Acknowledgement link b)
  call_makes FromHost = none_made_by FromHost
  call_makes (T1 link) = none_made_by (T1 link)
  call_makes (T2 link) = none_made_by (T2 link)
  call_makes (T3 link) = none_made_by (T3 link)
  call_makes (T4 link) = none_made_by (T4 link)
  call_makes (T6 x) = none_made_by (T6 x)
  call_makes (T8 x) = none_made_by (T8 x)
