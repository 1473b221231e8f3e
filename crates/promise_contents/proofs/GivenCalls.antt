-- Every call gives an arrival number exactly where it queues a message, and then that message is held with it: a COO with a failure, a CBD with a
-- link that comes into service, the answer to a management message, the TFP of a message that has no way, the RST of T10, and what is passed on.
-- Assumes nothing.
use mathlib.Core.Path.{◌≡◌, refl, sym, subst, ◌∙◌}
use mathlib.Core.Bool.{Bool, true, false, cond, not, ◌&&◌}
use mathlib.Core.List.{List}
use Prim.Native.Nat.{ℕ, ◌≤◌}
use native.Mathlib.Omega.{arith}
use lib.Dec.{eqb}
use lib.ListN.{length}
use borrow.Author.Tests.{ltb-true, eqb-true, eqb-false}
use borrow.Table.Steps.{cases}
use Rattle.plan.specs.declared.data.Plan.{Plan}
use Rattle.plan.proofs.Split.{both_false}
use Rattle.area_links.specs.LinkRecords.{record_at}
use Rattle.queue_rings.specs.Ring.{count_of}
use Rattle.queue_store.specs.Sound.{Kinds}
use Rattle.wire.specs.declared.header.Label.{Label}
use Rattle.wire_messages.specs.declared.management.Message.{Message}
use Rattle.wire_messages.specs.declared.management.Message.TheVariants.{COO, COA, CBD, CBA, ECO, ECA, TFP, TFA, RST}
use Rattle.replies.specs.Reply.{done}
use Rattle.replies.specs.Areas.{Areas, Outcome, outcome, judged, refused}
use Rattle.queue_joining.specs.Queue.{management_reply, with_management}
use Rattle.numbers.specs.Numbers.{is_taken}
use Rattle.numbers.specs.Taken.{with_taken, taken_by}
use Rattle.management_making.specs.Make.{Held, path_of, held_in, with_held, with_made, makes_reply}
use Rattle.changeover_cuts.specs.Cuts.{cut_none}
use Rattle.changeover_ending.specs.End.{out_of_service}
use Rattle.changeover_failure.specs.Failure.{state_at, order_of}
use Rattle.changeover_failure.specs.Failure as Failure
use Rattle.changeover_failure.specs.Overdue as Overdue
use Rattle.changeover.specs.Fail.{open_failed, failed}
use Rattle.changeover_overdue.specs.Expire as Change
use Rattle.changeback_service.specs.InService.{declares, sources_in, reply_first}
use Rattle.changeback.specs.Service.{declare_reply, declared, into_service}
use Rattle.changeback.specs.Service as Service
use Rattle.changeback_waiting.specs.Wait.{answers, answered_by}
use Rattle.rerouting_marking.specs.Mark.{counts}
use Rattle.rerouting.specs.Transfer.{transferred}
use Rattle.rerouting.specs.Timer.{reply_t6, expired_t6, expired_t10}
use Rattle.rerouting_expiry.specs.Expiry.{reply_t10, test_of}
use Rattle.management_steps.specs.declared.Step.{Step}
use Rattle.management_orders.specs.Carry.{answer_reply, with_answer, ended_by, carried}
use Rattle.managing.specs.Managed.{asked, step_asked, managed}
use Rattle.passing_passage.specs.Passage.{unreachable, place_reply, queued, prohibited_to, tells}
use Rattle.passing.specs.Pass.{not_reached, passed}
use Rattle.passing_offering.specs.Host.{refuses, offered, from_host_by, sent}
use Rattle.receiving.specs.Receive.{received_by, received}
use Rattle.receiving.specs.Receive as Receive
use Rattle.discrimination.specs.declared.Came.{Came}
use Rattle.discrimination.specs.declared.Came.TheVariants.{Malformed, Foreign, Delivered, Managed, Passed}
use Rattle.discrimination.specs.Discrimination.{from_link, from_host}
use Rattle.node.specs.declared.call.Event.{Event}
use Rattle.node.specs.declared.call.Event.TheVariants.{IntoService, Failure, Send, Acknowledgement, Received, FromHost, T1, T2, T3, T4, T6, T8, T10}
use Rattle.node.specs.Memory.{Memory}
use Rattle.node.specs.Call.{sends, acknowledges, wait_ends, t8_ends, receives, takes_over, call_of}
use Rattle.promise_runs.proofs.Outcomes.{RegularIn, by_test, if_done_lem}
use Rattle.promise_runs.proofs.KeepsMaking.{made_regular}
use Rattle.promise_accounts.proofs.Never.{way_never}
use Rattle.promise_accounts.proofs.EvenEnding.{sent_queued}
use Rattle.promise_accounts.proofs.Bearing.{Bears, asked_bears}
use Rattle.promise_accounts.proofs.Starting.{Spares, asked_spares}
use Rattle.promise_accounts.proofs.Small.{Small, link_small, host_small}
use Rattle.promise_contents.specs.Made.{New, Nothing, User, Made, declaration_by, declaration_of, answer_in, new_by, new_of}
use Rattle.promise_contents.specs.Given.{makes, gives_answer, gives_by, gives, slot_for, Gains}
use Rattle.promise_contents.proofs.Given.{unchanged, not_given, if_and, unless_and, if_and_only, judged_gains, joined_gains, queued_gains, made_gains, made_stands, judged_made}
use Rattle.promise_contents.proofs.FreeEvents.{out_freer}

module _ (plan : Plan) (a : Areas) (octets : List ℕ) (regular : RegularIn a octets) (kinds : Kinds a.spans a.rings)
    (one : length a.arrivals ≡ 1) where
  -- by an outcome
  abbrev By : New → Bool → Outcome → Type 0
  By new given o = Gains new given a o.after

  -- the failure of an open link: its COO
  failure_gains : (link : ℕ)
      → By (Made (order_of plan a.links link))
      (eqb (Failure.reply_of plan a.links link a.reports) 0 && (not (eqb (state_at a.links link) 1) && makes plan (order_of plan a.links link) a))
      (failed plan a link)
  unfolding failed open_failed out_of_service
  failure_gains link =
      let order = order_of plan a.links link in
      judged_gains (Made order) (not (eqb (state_at a.links link) 1) && makes plan order a) a (Failure.reply_of plan a.links link a.reports) _
      (λ done.
      unless_and (By (Made order)) (eqb (state_at a.links link) 1) (makes plan order a) (out_of_service plan a link cut_none)
      (open_failed plan a link)
      (unchanged a, not_given)
      (made_gains a octets regular kinds one plan order))

  -- a link comes into service: with reply 0 its CBD has found a place and a number
  pub declares_placed : (link : ℕ) → Service.reply_of plan a link ≡ 0 → declares (sources_in plan a.links a.marks link) ≡ true
      → management_reply a.spans a.arrivals ≡ 0
  unfolding Service.reply_of declare_reply
  declares_placed link none there =
      let first = reply_first plan a.links link a.reports in
      cases (eqb first 0)
      (λ e. let reply : management_reply a.spans a.arrivals ≡ 0 = simp (e, there) at none in reply)
      (λ e. let reply : first ≡ 0 = simp e at none in absurd (eqb-false first 0 e reply))

  service_gains : (link : ℕ)
      → By (Made (declaration_of plan a link)) (eqb (Service.reply_of plan a link) 0 && declares (sources_in plan a.links a.marks link))
      (into_service plan a link)
  unfolding into_service declared
  service_gains link =
      let from = sources_in plan a.links a.marks link in
      let draft = declaration_by plan link from in
      judged_gains (Made draft) (declares from) a (Service.reply_of plan a link) _
      (λ none.
      if_and_only (λ (g : Bool) (then : Held). Gains (Made draft) g a (with_held a then)) (declares from)
      (with_management from.own draft.message draft.point draft.slc (held_in a))
      (held_in a)
      (λ there.
      joined_gains a octets regular kinds one draft from.own (omega (arith, ltb-true from.own 32 there)) (declares_placed link none there))
      (unchanged a, not_given))

  -- T1, or T2, expires
  change_gains : (link timer : ℕ) → By Nothing false (Change.expired plan a link timer)
  unfolding Change.expired out_of_service
  change_gains link timer =
      if_done_lem (By Nothing false) (Overdue.reply_of plan a.links link timer a.reports) _ (refused _ a)
      (λ e. (unchanged a, not_given))
      (unchanged a, not_given)

  -- T6 expires
  t6_gains : (x : ℕ) → By Nothing false (expired_t6 plan a x)
  unfolding expired_t6
  t6_gains x = if_done_lem (By Nothing false) (reply_t6 plan a.marks x a.reports) _ (refused _ a) (λ e. (unchanged a, not_given)) (unchanged a, not_given)

  -- T10 expires: its RST
  t10_gains : (x set : ℕ) → By (Made (test_of plan x set)) (eqb (reply_t10 plan a.marks x set) 0 && makes plan (test_of plan x set) a) (expired_t10 plan a x set)
  unfolding expired_t10
  t10_gains x set =
      let draft = test_of plan x set in
      judged_gains (Made draft) (makes plan draft a) a (reply_t10 plan a.marks x set) _
      (λ e.
      judged_made a octets regular kinds one plan draft (outcome (done 0) (with_made plan draft a)) (made_gains a octets regular kinds one plan draft))

  -- a step: its answer
  module _ (step : Step) where
    -- whether a link goes out behind it or not, for it never uses that link
    module _ (bears : Bears (count_of a.spans) step) (spares : Spares step) where
      ended_gains : step.answers ≡ true
          → By (Made step.draft) (makes plan step.draft a) (ended_by plan step (with_made plan step.draft a))
      unfolding ended_by out_of_service path_of
      ended_gains answers =
          let draft = step.draft in
          let b : Areas = with_made plan draft a in
          let path = path_of plan a.links a.marks draft in
          let gains = made_gains a octets regular kinds one plan draft in
          by_test (By (Made draft) (makes plan draft a)) step.ends (out_of_service plan b step.link step.parts) (outcome (done 0) b)
          (λ ends. (
            gains.0,
            λ (given : makes plan draft a ≡ true).
                let there = made_stands a octets regular kinds one plan draft given in
                let out =
                out_freer b octets (made_regular a octets regular plan draft) plan step.link (omega (arith, (bears ends).0)) step.parts
                in
                let stays =
                out.others (slot_for (Made draft) a) path
                (λ same.
                way_never plan a.links a.marks draft.never draft.point draft.slc there.0 (same ∙ sym (spares ends answers)))
                in
                ((gains.1 given).0, record { ring = path; within = omega (arith, there.0); stands = omega (arith, there.1, stays) }),
          ))
          (λ e. gains)

      ended_none : By Nothing false (ended_by plan step a)
      unfolding ended_by out_of_service
      ended_none =
          by_test (By Nothing false) step.ends (out_of_service plan a step.link step.parts) (outcome (done 0) a)
          (λ e. (unchanged a, not_given))
          (λ e. (unchanged a, not_given))

      answered_gains : (answers : Bool) → step.answers ≡ answers
          → By (cond answers (Made step.draft) Nothing) (answers && makes plan step.draft a)
          (judged (cond answers (makes_reply plan step.draft a) 0) (ended_by plan step (cond answers (with_made plan step.draft a) a)) a)
      answered_gains true e =
          judged_made a octets regular kinds one plan step.draft (ended_by plan step (with_made plan step.draft a)) (ended_gains e)
      answered_gains false e = ended_none

      carried_gains : By (answer_in step) (gives_answer plan step a) (carried plan step a)
      unfolding carried answer_reply with_answer
      carried_gains =
          judged_gains (answer_in step) (step.answers && makes plan step.draft a) a step.reply _
          (λ asks. answered_gains step.answers refl)

  -- each of the nine management messages
  module _ (arriving fsn point slc : ℕ) where
    abbrev step_of : Message → Step
    step_of message = step_asked plan a.links a.marks arriving fsn point slc message

    carries : (message : Message) → By (answer_in (step_of message)) (gives_answer plan (step_of message) a) (carried plan (step_of message) a)
    carries message =
        carried_gains (step_of message)
        (asked_bears (count_of a.spans) plan a.links a.marks
        (λ link h. sent_queued (record_at a.links link) (count_of a.spans link) (regular.each_link link h))
        arriving
        fsn
        point
        slc
        message)
        (asked_spares plan a.links a.marks arriving fsn point slc message)

    managed_gains : (message : Message)
        → By (answer_in (step_of message)) (gives_answer plan (step_of message) a) (managed plan arriving fsn point slc message a)
    unfolding managed asked answered_by transferred
    managed_gains (COO f) = carries (COO f)
    managed_gains (COA f) = carries (COA f)
    managed_gains (CBD code) = carries (CBD code)
    managed_gains (CBA code) =
        by_test (By Nothing false) (answers plan a.links point slc code) _ _ (λ e. (unchanged a, not_given)) (λ e. (unchanged a, not_given))
    managed_gains ECO = carries ECO
    managed_gains ECA = carries ECA
    managed_gains (TFP x) =
        by_test (By Nothing false) (counts plan a.marks point x true) _ _ (λ e. (unchanged a, not_given)) (λ e. (unchanged a, not_given))
    managed_gains (TFA x) =
        by_test (By Nothing false) (counts plan a.marks point x false) _ _ (λ e. (unchanged a, not_given)) (λ e. (unchanged a, not_given))
    managed_gains (RST x) = carries (RST x)

  -- one that has no way: the TFP
  not_reached_gains : (arriving x : ℕ)
      → By (Made (prohibited_to plan arriving x)) (tells plan a.marks x && makes plan (prohibited_to plan arriving x) a) (not_reached plan arriving x a)
  unfolding not_reached
  not_reached_gains arriving x =
      let draft = prohibited_to plan arriving x in
      if_and (By (Made draft)) (tells plan a.marks x) (makes plan draft a) _ _
      (λ e. judged_made a octets regular kinds one plan draft _ (made_gains a octets regular kinds one plan draft))
      (unchanged a, not_given)

  module _ (message : List ℕ) where
    abbrev size : ℕ
    size = length message

    -- one that has a way, if there is a place and a number
    placed_gains : (label : Label) → (5 ≤ size) × (size ≤ 273) → unreachable plan a label ≡ false
        → By (User size) (eqb (place_reply a) 0) (judged (place_reply a) (outcome (done 0) (queued plan a label size)) a)
    placed_gains label small reached =
        if_and_only (By (User size)) (eqb (place_reply a) 0) (outcome (done 0) (queued plan a label size)) (refused (place_reply a) a)
        (λ e. queued_gains a octets regular kinds one plan label message small reached (eqb-true (place_reply a) 0 e))
        (unchanged a, not_given)

    -- from a link
    came_gains : (arriving fsn : ℕ) (came : Came) → Small came size
        → By (new_by plan arriving fsn size came a) (gives_by plan arriving fsn came a) (received_by plan arriving fsn size came a)
    unfolding received_by new_by gives_by Small passed
    came_gains arriving fsn Malformed small = (unchanged a, not_given)
    came_gains arriving fsn Foreign small = (unchanged a, not_given)
    came_gains arriving fsn Delivered small = (unchanged a, not_given)
    came_gains arriving fsn (Managed order) small = managed_gains arriving fsn order.point order.slc order.message
    came_gains arriving fsn (Passed label) small =
        by_tests (unreachable plan a label) refl (not_reached_gains arriving label.dpc) (placed_gains label small)
      where
        by_tests : (test : Bool) → unreachable plan a label ≡ test
            → By (Made (prohibited_to plan arriving label.dpc))
            (tells plan a.marks label.dpc && makes plan (prohibited_to plan arriving label.dpc) a)
            (not_reached plan arriving label.dpc a)
            → (unreachable plan a label ≡ false
            → By (User size) (eqb (place_reply a) 0) (judged (place_reply a) (outcome (done 0) (queued plan a label size)) a))
            → By (cond test (Made (prohibited_to plan arriving label.dpc)) (User size))
            (cond test (tells plan a.marks label.dpc && makes plan (prohibited_to plan arriving label.dpc) a) (eqb (place_reply a) 0))
            (cond test (not_reached plan arriving label.dpc a) (judged (place_reply a) (outcome (done 0) (queued plan a label size)) a))
        by_tests true e told placed = told
        by_tests false e told placed = placed e

    -- judged by the reply first, and taken or not
    received_gains : (arriving fsn : ℕ)
        → By (new_by plan arriving fsn size (from_link plan message) a)
        (eqb (Receive.reply_of plan a.links arriving fsn a.reports) 0 && gives_by plan arriving fsn (from_link plan message) a)
        (received plan arriving fsn message a)
    unfolding received
    received_gains arriving fsn =
        let came = from_link plan message in
        let new = new_by plan arriving fsn size came a in
        let given = gives_by plan arriving fsn came a in
        let o : Outcome = received_by plan arriving fsn size came a in
        judged_gains new given a (Receive.reply_of plan a.links arriving fsn a.reports) (taken_by arriving fsn o)
        (λ e.
        by_test (Gains new given a) (is_taken o.answer.reply) (with_taken arriving fsn o.after) o.after
        (λ t. came_gains arriving fsn came (link_small plan message))
        (λ t. came_gains arriving fsn came (link_small plan message)))

    -- from the host: with reply 0, and with no other
    abbrev Hosted : Outcome → Type 0
    Hosted o = By (User size) (eqb o.answer.reply 0) o

    offered_gains : (label : Label) → (5 ≤ size) × (size ≤ 273) → Hosted (offered plan label size a)
    unfolding offered refuses
    offered_gains label small =
        by_test Hosted (refuses plan a label) _ _ (λ e. (unchanged a, not_given))
        (λ e.
        by_test Hosted (eqb (place_reply a) 0) (outcome (done 0) (queued plan a label size)) (refused (place_reply a) a)
        (λ none.
        let reached = (both_false (eqb label.dpc plan.code) (unreachable plan a label) e).1 in
        queued_gains a octets regular kinds one plan label message small reached (eqb-true (place_reply a) 0 none))
        (λ lacks. subst (λ (g : Bool). Gains (User size) g a a) (sym lacks) (unchanged a, not_given)))

    host_gains : (came : Came) → Small came size → Hosted (from_host_by plan came size a)
    unfolding from_host_by Small
    host_gains Malformed small = (unchanged a, not_given)
    host_gains Foreign small = (unchanged a, not_given)
    host_gains Delivered small = (unchanged a, not_given)
    host_gains (Managed order) small = (unchanged a, not_given)
    host_gains (Passed label) small = offered_gains label small

    sent_gains : Hosted (sent plan message a)
    unfolding sent
    sent_gains =
        by_test Hosted plan.given _ _ (λ e. host_gains (from_host plan message) (host_small plan message)) (λ e. (unchanged a, not_given))

module _ (plan : Plan) (message : List ℕ) (m : Memory) (regular : RegularIn m.areas m.octets)
    (kinds : Kinds m.areas.spans m.areas.rings)
    (one : length m.areas.arrivals ≡ 1) where
  -- every event
  pub call_gains : (event : Event)
      → Gains (new_of plan event message m.areas) (gives plan event message m.areas) m.areas (call_of plan event message m).after.areas
  unfolding call_of new_of gives sends acknowledges wait_ends t8_ends receives takes_over
  call_gains (IntoService link) = service_gains plan m.areas m.octets regular kinds one link
  call_gains (Failure link) = failure_gains plan m.areas m.octets regular kinds one link
  call_gains (Send link) = (unchanged m.areas, not_given)
  call_gains (Acknowledgement link b) = (unchanged m.areas, not_given)
  call_gains (Received link fsn) = received_gains plan m.areas m.octets regular kinds one message link fsn
  call_gains FromHost = sent_gains plan m.areas m.octets regular kinds one message
  call_gains (T1 link) = change_gains plan m.areas m.octets regular kinds one link 1
  call_gains (T2 link) = change_gains plan m.areas m.octets regular kinds one link 2
  call_gains (T3 link) = (unchanged m.areas, not_given)
  call_gains (T4 link) = (unchanged m.areas, not_given)
  call_gains (T6 x) = t6_gains plan m.areas m.octets regular kinds one x
  call_gains (T8 x) = (unchanged m.areas, not_given)
  call_gains (T10 x set) = t10_gains plan m.areas m.octets regular kinds one x set
