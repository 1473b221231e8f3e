-- A call that makes a message and takes no link out leaves it at the end of the queue that it joins, and every other queue as it was: a COO with a
-- failure, a CBD with a link that comes into service, the answer to a management message, the TFP of reply 9, the RST of T10.
-- Assumes nothing.
use mathlib.Core.Path.{◌≡◌, refl, sym, ap, subst, ◌∙◌}
use mathlib.Core.Bool.{Bool, true, false, cond, not, ◌&&◌, ◌||◌, and-eq-true_iff, true≢false}
use mathlib.Core.List.{List, [], ◌∷◌, ◌++◌, append-nil}
use Prim.Native.Nat.{ℕ, ◌<◌}
use native.Mathlib.Omega.{arith}
use lib.Dec.{eqb, leb}
use lib.ListN.{length}
use borrow.Author.Tests.{ltb-true, eqb-true, eq-eqb}
use Rattle.plan.specs.declared.data.Plan.{Plan}
use Rattle.wire_messages.specs.declared.management.Message.{Message}
use Rattle.wire_messages.specs.declared.management.Message.TheVariants.{COO, COA, CBD, CBA, ECO, ECA, TFP, TFA, RST}
use Rattle.wire_messages.specs.Management.{heading_of, field_of}
use Rattle.queue_store.specs.Sound.{Kinds}
use Rattle.reports.specs.Report.{short}
use Rattle.replies.specs.Reply.{done}
use Rattle.replies.specs.Areas.{Areas, areas, Outcome, outcome, judged, refused}
use Rattle.route_choice.specs.Which.{none}
use Rattle.lookup.specs.Lookup.{is_link}
use Rattle.queue_heads.specs.Head.{both}
use Rattle.queue_joining.specs.Queue.{next_of, management_reply, with_management}
use Rattle.numbers.specs.Numbers.{is_taken}
use Rattle.numbers.specs.Taken.{with_taken, taken_by}
use Rattle.management_making.specs.declared.Draft.{Draft}
use Rattle.management_making.specs.Make.{Held, path_of, has_path, is_made, held_in, with_made, makes_reply}
use Rattle.changeover_cuts.specs.Cuts.{cut_none}
use Rattle.changeover_ending.specs.End.{links_out, out_of_service}
use Rattle.changeover_failure.specs.Failure.{state_at, order_of}
use Rattle.changeover_failure.specs.Failure as Failure
use Rattle.changeover.specs.Fail.{timer_of, open_failed, failed}
use Rattle.changeback_service.specs.InService.{declares, sources_in, links_in}
use Rattle.changeback.specs.Service.{declared, resumed, into_service}
use Rattle.changeback.specs.Service as Service
use Rattle.rerouting.specs.Timer.{expired_t10}
use Rattle.rerouting_expiry.specs.Expiry.{reply_t10, test_of}
use Rattle.management_steps.specs.declared.Step.{Step}
use Rattle.management_orders.specs.Carry.{answer_reply, with_answer, ended_by, carried}
use Rattle.managing.specs.Managed.{asked, step_asked, managed}
use Rattle.passing_passage.specs.Passage.{unreachable, place_reply, queued, prohibited_to, tells}
use Rattle.passing.specs.Pass.{not_reached, passed}
use Rattle.receiving.specs.Receive.{received_by, received}
use Rattle.receiving.specs.Receive as Receive
use Rattle.discrimination.specs.declared.Came.{Came}
use Rattle.discrimination.specs.declared.Came.TheVariants.{Malformed, Foreign, Delivered, Managed, Passed}
use Rattle.discrimination.specs.Discrimination.{from_link}
use Rattle.node.specs.declared.call.Event.{Event}
use Rattle.node.specs.declared.call.Event.TheVariants.{IntoService, Failure, Send, Acknowledgement, Received, FromHost, T1, T2, T3, T4, T6, T8, T10}
use Rattle.node.specs.View.{view_of}
use Rattle.node.specs.Memory.{Memory}
use Rattle.node.specs.Call.{receives, call_of}
use Rattle.promise_runs.proofs.Outcomes.{RegularIn, unmet, by_test, rows_passed, link_within}
use Rattle.promise_accounts.specs.Gone.{queue_of}
use Rattle.promise_accounts.specs.Ending.{no_ending, ending_by_failure, ending_by_step, ending_by_message, ending_of}
use Rattle.promise_accounts.proofs.Answers.{management_joins, made_joined}
use Rattle.promise_contents.specs.Made.{New, Nothing, User, Made, declaration_of, answer_in, new_by, new_of}
use Rattle.promise_contents.specs.Given.{makes, gives_answer, gives_by, gives}
use Rattle.promise_contents.proofs.Given.{if_and, if_and_only, not_made}
use Rattle.promise_contents.proofs.GivenCalls.{declares_placed}
use Rattle.promise_queueing.specs.Making.{open_path, path_by, path_for, joins_made}
use Rattle.promise_queueing.proofs.MadePaths.{any_open, order_path, path_taken, Fits, asked_fits}

-- the second of two, where a test that something isn't given by fails
unless_off : {A : Type 0} (P : Bool → A → Type 0) (test given : Bool) (x y : A) → test ≡ false → P given y → P (not test && given) (cond test x y)
unless_off P true given x y off p = unmet (sym off)
unless_off P false given x y off p = p

module _ (plan : Plan) (a : Areas) (octets : List ℕ) (regular : RegularIn a octets) (kinds : Kinds a.spans a.rings)
    (one : length a.arrivals ≡ 1) where
  -- a message that is made, or isn't, stands at the end of the queue that it joins
  abbrev pub Stands : Draft → Bool → Areas → Type 0
  Stands draft made b =
      (made ≡ true → path_for plan a b draft < 32)
      × ((ring : ℕ) → ring < 33 → queue_of b ring ≡ queue_of a ring ++ joins_made plan draft made a b ring)

  -- what is new does, if the node makes it
  abbrev pub Joined : New → Bool → Areas → Type 0
  Joined Nothing made b = Unit {0}
  Joined (User size) made b = Unit {0}
  Joined (Made draft) made b = Stands draft made b

  -- none is made, and every queue is as it was
  none_stands : (draft : Draft) → Stands draft false a
  unfolding joins_made
  none_stands draft = (unmet, λ ring l. sym (append-nil (queue_of a ring)))

  none_joined : (new : New) → Joined new false a
  none_joined Nothing = tt
  none_joined (User size) = tt
  none_joined (Made draft) = none_stands draft

  -- one is, on its path
  on_path : (draft : Draft) (b : Areas) → ((ring : ℕ) → queue_of b ring ≡ queue_of (with_made plan draft a) ring)
      → path_of plan a.links a.marks draft ≡ path_for plan a b draft → Stands draft (makes plan draft a) b
  unfolding joins_made is_made
  on_path draft b same is =
      let path = path_of plan a.links a.marks draft in
      let placed = eqb (management_reply a.spans a.arrivals) 0 in (
        λ made. subst (λ (p : ℕ). p < 32) is (ltb-true path none ((and-eq-true_iff (has_path plan a.links a.marks draft) placed).0 made).0),
        λ ring l.
            same ring
            ∙ made_joined a octets regular.store plan draft ring l
            ∙ ap (λ (p : ℕ). queue_of a ring ++ cond (makes plan draft a && eqb ring p) (next_of a.arrivals ∷ []) []) is,
      )

  -- done, or refused because it finds no place or number
  judged_stands : (draft : Draft) (does : Outcome)
      → (eqb (makes_reply plan draft a) 0 ≡ true → Stands draft (makes plan draft a) does.after)
      → Stands draft (makes plan draft a) (judged (makes_reply plan draft a) does a).after
  judged_stands draft does stands =
      by_test (λ (o : Outcome). Stands draft (makes plan draft a) o.after) (eqb (makes_reply plan draft a) 0) does
      (refused (makes_reply plan draft a) a)
      stands
      (λ e. subst (λ (g : Bool). Stands draft g a) (sym (not_made a octets regular kinds one plan draft e)) (none_stands draft))

  -- the failure of an open link: its COO
  pub fails_within : (link : ℕ) → Failure.reply_of plan a.links link a.reports ≡ 0 → link < 32
  unfolding Failure.reply_of
  fails_within link done =
      let state = state_at a.links link in
      link_within link (short a.reports)
      (rows_passed (leb 32 link || short a.reports) (not (is_link plan link)) (not (eqb state 2 || eqb state 1)) [] done).0

  failure_stands : (link : ℕ) → (ending_by_failure plan a link).ends ≡ false
      → Stands (order_of plan a.links link)
      (eqb (Failure.reply_of plan a.links link a.reports) 0 && (not (eqb (state_at a.links link) 1) && makes plan (order_of plan a.links link) a))
      (failed plan a link).after
  unfolding failed open_failed ending_by_failure
  failure_stands link stays =
      let order = order_of plan a.links link in
      let reply = Failure.reply_of plan a.links link a.reports in
      let waits = eqb (state_at a.links link) 1 in
      if_and (λ (g : Bool) (o : Outcome). Stands order g o.after) (eqb reply 0) (not waits && makes plan order a) _ (refused reply a)
      (λ done.
      let off : waits ≡ false = ap (λ (t : Bool). t && waits) (sym done) ∙ stays in
      unless_off (λ (g : Bool) (o : Outcome). Stands order g o.after) waits (makes plan order a) (out_of_service plan a link cut_none)
      (open_failed plan a link)
      off
      (on_path order (open_failed plan a link).after (λ ring. refl)
      (order_path plan a.marks a.links link (timer_of plan a link) regular.links_long (fails_within link (eqb-true reply 0 done)))))
      (none_stands order)

  -- a link comes into service: its CBD
  service_stands : (link : ℕ)
      → Stands (declaration_of plan a link) (eqb (Service.reply_of plan a link) 0 && declares (sources_in plan a.links a.marks link))
      (into_service plan a link).after
  unfolding into_service declared joins_made path_by
  service_stands link =
      let from = sources_in plan a.links a.marks link in
      let own = from.own in
      let draft = declaration_of plan a link in
      let reply = Service.reply_of plan a link in
      if_and (λ (g : Bool) (o : Outcome). Stands draft g o.after) (eqb reply 0) (declares from) _ (refused reply a)
      (λ done.
      if_and_only
      (λ (g : Bool) (then : Held).
      Stands draft g
      (areas (links_in plan a.links a.marks link) a.marks then.queues.spans then.queues.rings then.rows then.arrivals (resumed plan a link).area))
      (declares from)
      (with_management own draft.message draft.point draft.slc (held_in a))
      (held_in a)
      (λ there.
      let within = ltb-true own 32 there in
      let placed = declares_placed plan a octets regular kinds one link (eqb-true reply 0 done) there in (
        λ made. within,
        λ ring l.
            management_joins a.rows octets (both a.spans a.rings) regular.store a.arrivals own (omega arith)
            (heading_of draft.message)
            draft.point
            draft.slc
            (field_of draft.message)
            ring
            l
            ∙ ap (λ (t : Bool). queue_of a ring ++ cond (t && eqb ring own) (next_of a.arrivals ∷ []) [])
            (eq-eqb (management_reply a.spans a.arrivals) 0 placed),
      ))
      (unmet, λ ring l. sym (append-nil (queue_of a ring))))
      (unmet, λ ring l. sym (append-nil (queue_of a ring)))

  -- T10 expires: its RST
  t10_stands : (x set : ℕ)
      → Stands (test_of plan x set) (eqb (reply_t10 plan a.marks x set) 0 && makes plan (test_of plan x set) a) (expired_t10 plan a x set).after
  unfolding expired_t10 test_of path_by
  t10_stands x set =
      let draft = test_of plan x set in
      if_and (λ (g : Bool) (o : Outcome). Stands draft g o.after) (eqb (reply_t10 plan a.marks x set) 0) (makes plan draft a) _ _
      (λ e.
      judged_stands draft (outcome (done 0) (with_made plan draft a))
      (λ placed. on_path draft (with_made plan draft a) (λ ring. refl) (any_open plan a.marks a.links draft refl)))
      (none_stands draft)

  -- a step: its answer
  module _ (step : Step) (fits : Fits plan a regular.links_long step) (stays : (ending_by_step plan a step).ends ≡ false) where
    answered_stands : (answers : Bool) → step.answers ≡ answers → eqb step.reply 0 ≡ true
        → Joined (cond answers (Made step.draft) Nothing) (answers && makes plan step.draft a)
        (judged (cond answers (makes_reply plan step.draft a) 0) (ended_by plan step (cond answers (with_made plan step.draft a) a)) a).after
    unfolding ended_by ending_by_step answer_reply
    answered_stands false e asks = tt
    answered_stands true e asks =
        let draft = step.draft in
        let b : Areas = with_made plan draft a in
        judged_stands draft (ended_by plan step b)
        (λ placed.
        by_test (λ (o : Outcome). Stands draft (makes plan draft a) o.after) step.ends (out_of_service plan b step.link step.parts)
        (outcome (done 0) b)
        (λ ends.
        let out : (eqb step.reply 0 && (eqb (answer_reply plan step a) 0 && step.ends)) ≡ true = simp (asks, e, placed, ends) in
        absurd (true≢false (sym out ∙ stays)))
        (λ off.
        on_path draft b (λ ring. refl)
        (fits e
        ∙ ap (λ (t : Bool). path_by (open_path plan (cond t (links_out a.links step.link) a.links) a.marks) draft.message draft.point draft.slc) off)))

    carried_stands : Joined (answer_in step) (gives_answer plan step a) (carried plan step a).after
    unfolding carried answer_reply with_answer
    carried_stands =
        if_and (λ (g : Bool) (o : Outcome). Joined (answer_in step) g o.after) (eqb step.reply 0) (step.answers && makes plan step.draft a) _ _
        (λ asks. answered_stands step.answers refl asks)
        (none_joined (answer_in step))

  -- each of the nine management messages
  module _ (arriving fsn point slc : ℕ) where
    abbrev step_of : Message → Step
    step_of message = step_asked plan a.links a.marks arriving fsn point slc message

    abbrev Answers : Message → Type 0
    Answers message =
        (ending_by_step plan a (step_of message)).ends ≡ false
        → Joined (answer_in (step_of message)) (gives_answer plan (step_of message) a) (managed plan arriving fsn point slc message a).after

    carries : (message : Message) → (ending_by_step plan a (step_of message)).ends ≡ false
        → Joined (answer_in (step_of message)) (gives_answer plan (step_of message) a) (carried plan (step_of message) a).after
    carries message = carried_stands (step_of message) (asked_fits plan a regular.links_long arriving fsn point slc message)

    managed_stands : (message : Message) → Answers message
    unfolding managed asked
    managed_stands (COO f) = carries (COO f)
    managed_stands (COA f) = carries (COA f)
    managed_stands (CBD code) = carries (CBD code)
    managed_stands (CBA code) = λ stays. tt
    managed_stands ECO = carries ECO
    managed_stands ECA = carries ECA
    managed_stands (TFP x) = λ stays. tt
    managed_stands (TFA x) = λ stays. tt
    managed_stands (RST x) = carries (RST x)

  -- one that has no way: the TFP
  not_reached_stands : (arriving x : ℕ)
      → Stands (prohibited_to plan arriving x) (tells plan a.marks x && makes plan (prohibited_to plan arriving x) a) (not_reached plan arriving x a).after
  unfolding not_reached prohibited_to path_by
  not_reached_stands arriving x =
      let draft = prohibited_to plan arriving x in
      if_and (λ (g : Bool) (o : Outcome). Stands draft g o.after) (tells plan a.marks x) (makes plan draft a) _ _
      (λ e. judged_stands draft _ (λ placed. on_path draft _ (λ ring. refl) (any_open plan a.marks a.links draft refl)))
      (none_stands draft)

  -- by what a message from a link is
  came_stands : (arriving fsn size : ℕ) (came : Came) → (ending_by_message plan a arriving fsn came).ends ≡ false
      → Joined (new_by plan arriving fsn size came a) (gives_by plan arriving fsn came a) (received_by plan arriving fsn size came a).after
  unfolding received_by new_by gives_by ending_by_message passed
  came_stands arriving fsn size Malformed stays = tt
  came_stands arriving fsn size Foreign stays = tt
  came_stands arriving fsn size Delivered stays = tt
  came_stands arriving fsn size (Managed order) stays = managed_stands arriving fsn order.point order.slc order.message stays
  came_stands arriving fsn size (Passed label) stays =
      by_tests (unreachable plan a label) (tells plan a.marks label.dpc && makes plan (prohibited_to plan arriving label.dpc) a)
      (eqb (place_reply a) 0)
      (not_reached plan arriving label.dpc a)
      (judged (place_reply a) (outcome (done 0) (queued plan a label size)) a)
      (not_reached_stands arriving label.dpc)
    where
      by_tests : (test told placed : Bool) (x y : Outcome) → Stands (prohibited_to plan arriving label.dpc) told x.after
          → Joined (cond test (Made (prohibited_to plan arriving label.dpc)) (User size)) (cond test told placed) (cond test x y).after
      by_tests true told placed x y stands = stands
      by_tests false told placed x y stands = tt

  -- a message that is taken leaves all of it
  taken_stands : (draft : Draft) (made : Bool) (b : Areas) (arriving fsn : ℕ) → Stands draft made b → Stands draft made (with_taken arriving fsn b)
  unfolding joins_made
  taken_stands draft made b arriving fsn stands =
      let same = path_taken plan a.marks b.links arriving fsn draft in (
        λ e. subst (λ (p : ℕ). p < 32) (sym same) (stands.0 e),
        λ ring l.
            stands.1 ring l
            ∙ ap (λ (p : ℕ). queue_of a ring ++ cond (made && eqb ring p) (next_of a.arrivals ∷ []) []) (sym same),
      )

  taken_joined : (new : New) (made : Bool) (b : Areas) (arriving fsn : ℕ) → Joined new made b → Joined new made (with_taken arriving fsn b)
  taken_joined Nothing made b arriving fsn joined = tt
  taken_joined (User size) made b arriving fsn joined = tt
  taken_joined (Made draft) made b arriving fsn joined = taken_stands draft made b arriving fsn joined

  -- judged by the reply first, and taken or not
  received_stands : (message : List ℕ) (arriving fsn : ℕ) → (ending_of plan a message (view_of (Received arriving fsn))).ends ≡ false
      → Joined (new_by plan arriving fsn (length message) (from_link plan message) a)
      (eqb (Receive.reply_of plan a.links arriving fsn a.reports) 0 && gives_by plan arriving fsn (from_link plan message) a)
      (received plan arriving fsn message a).after
  unfolding received ending_of
  received_stands message arriving fsn stays =
      let came = from_link plan message in
      let new = new_by plan arriving fsn (length message) came a in
      let given = gives_by plan arriving fsn came a in
      let reply = Receive.reply_of plan a.links arriving fsn a.reports in
      let o : Outcome = received_by plan arriving fsn (length message) came a in
      if_and (λ (g : Bool) (o : Outcome). Joined new g o.after) (eqb reply 0) given (taken_by arriving fsn o) (refused reply a)
      (λ done.
      let open_still : (ending_by_message plan a arriving fsn came).ends ≡ false =
      ap (λ (t : Bool). (cond t (ending_by_message plan a arriving fsn came) (no_ending a)).ends) (sym done) ∙ stays
      in
      let stands = came_stands arriving fsn (length message) came open_still in
      by_test (Joined new given) (is_taken o.answer.reply) (with_taken arriving fsn o.after) o.after
      (λ t. taken_joined new given o.after arriving fsn stands)
      (λ t. stands))
      (none_joined new)

module _ (plan : Plan) (message : List ℕ) (m : Memory) (regular : RegularIn m.areas m.octets)
    (kinds : Kinds m.areas.spans m.areas.rings)
    (one : length m.areas.arrivals ≡ 1) where
  -- every event
  pub call_made : (event : Event) → (ending_of plan m.areas message (view_of event)).ends ≡ false
      → Joined plan m.areas m.octets regular kinds one (new_of plan event message m.areas) (gives plan event message m.areas)
      (call_of plan event message m).after.areas
  unfolding call_of new_of gives ending_of receives
  call_made (IntoService link) stays = service_stands plan m.areas m.octets regular kinds one link
  call_made (Failure link) stays = failure_stands plan m.areas m.octets regular kinds one link stays
  call_made (Received link fsn) stays = received_stands plan m.areas m.octets regular kinds one message link fsn stays
  call_made (T10 x set) stays = t10_stands plan m.areas m.octets regular kinds one x set
  call_made (Send link) stays = tt
  call_made (Acknowledgement link b) stays = tt
  call_made FromHost stays = tt
  call_made (T1 link) stays = tt
  call_made (T2 link) stays = tt
  call_made (T3 link) stays = tt
  call_made (T4 link) stays = tt
  call_made (T6 x) stays = tt
  call_made (T8 x) stays = tt
