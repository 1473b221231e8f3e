-- Which reasons a call gives, over every run of calls from every configuration: 3 never, and 2 only with an ECO or ECA.
-- Assumes nothing.
use mathlib.Core.Path.{◌≡◌, refl, ap, ap₂, ◌∙◌}
use mathlib.Core.Logic.{inl, inr}
use mathlib.Core.Bool.{cond, ◌&&◌}
use mathlib.Core.List.{List, [], ◌++◌}
use Prim.Native.Nat.{ℕ, ◌<◌}
use native.Mathlib.Omega.{arith}
use lib.Dec.{eqb, ltb, lit<}
use lib.ListN.{take, drop}
use Rattle.counting.specs.Counting.{in_range, distance}
use Rattle.plan.specs.declared.data.Plan.{Plan}
use Rattle.plan.specs.Find.{given}
use Rattle.area_links.specs.declared.LinkRecord.{LinkRecord}
use Rattle.area_links.specs.LinkRecords.{record_at}
use Rattle.wire_messages.specs.declared.management.Message.{Message}
use Rattle.wire_messages.specs.declared.management.Message.TheVariants.{COO, COA, CBD, CBA, ECO, ECA, TFP, TFA, RST}
use Rattle.replies.specs.Areas.{Areas}
use Rattle.lookup.specs.Lookup.{link_named}
use Rattle.route_access.specs.Change.{is_accessible}
use Rattle.queue_heads.specs.Head.{both}
use Rattle.queue_moving.specs.Move.{goes_to}
use Rattle.management_making.specs.declared.Draft.{Draft}
use Rattle.changeover_cuts.specs.declared.Cut.{Cut}
use Rattle.changeover_cuts.specs.Cuts.{cut, cut_none, cut_at}
use Rattle.changeover_ending.specs.End.{links_out}
use Rattle.management_steps.specs.declared.Step.{Step}
use Rattle.management_steps.specs.Step.{nothing, answer, answer_and_end, end, draft, order_step, ack_step}
use Rattle.management_asking.specs.Ask.{last_received, emergency_of, ask_coo, ask_coa}
use Rattle.management_requests.specs.Request.{allows, ask_cbd, ask_rst}
use Rattle.managing.specs.Managed.{asked, step_asked}
use Rattle.discrimination.specs.declared.Order.{Order}
use Rattle.discrimination.specs.declared.Came.{Came}
use Rattle.discrimination.specs.declared.Came.TheVariants.{Malformed, Foreign, Delivered, Managed, Passed}
use Rattle.discrimination.specs.Sorted.{of_managed}
use Rattle.discrimination.specs.Discrimination.{from_link}
use Rattle.receiving.specs.Receive as Receive
use Rattle.plan_configuration.specs.Configure.{configured}
use Rattle.node.specs.declared.call.Event.{Event}
use Rattle.node.specs.declared.call.Event.TheVariants.{IntoService, Failure, Send, Acknowledgement, Received, FromHost, T1, T2, T3, T4, T6, T8, T10}
use Rattle.node.specs.View.{view_of}
use Rattle.node.specs.Memory.{Memory, Result}
use Rattle.promise_runs.specs.Run.{Call, lent, ran, fresh, Whole}
use Rattle.promise_runs.proofs.Outcomes.{by_test}
use Rattle.promise_ledger.specs.Held.{arrival_of}
use Rattle.promise_ledger.specs.Reported.{Report}
use Rattle.promise_leaving.specs.Apart.{let_go}
use Rattle.promise_leaving.specs.Going.{slots_of, drops_for, dropped_part, rest, stranded}
use Rattle.promise_accounts.specs.Ending.{Ending, no_ending, ending_by_timer, ending_by_failure, ending_by_step, ending_by_message, ending_of}
use Rattle.promise_farend.specs.History.{result_of}
use Rattle.promise_changeover.specs.ChangedOver.{WithoutNumber, Brings}
use Rattle.promise_reports.specs.Tells.{access_changes, ending_told, message_told, event_told, reports_of_call}
use Rattle.promise_reports.proofs.Exactly.{reports_exactly}
use Rattle.promise_resending.specs.Reasons.{dropped_with, Reasons}
use Rattle.promise_resending.proofs.Given.{dropped_append, dropped_other, changes_none}

-- a step by which nothing is dropped
abbrev DropsNone : Step → Type 0
DropsNone step = step.parts.dropped ≡ 0

at_drops_none : (known : LinkRecord) (f : ℕ) → (cut_at known f).dropped ≡ 0
unfolding cut_at
at_drops_none known f =
    by_test (λ (c : Cut). c.dropped ≡ 0) (in_range 128 known.acknowledged known.sent f) (cut (distance 128 known.acknowledged f) 0) cut_none
    (λ on. refl)
    (λ off. refl)

order_drops_none : (known : LinkRecord) (link : ℕ) (own emergency : Draft) (parts : Cut) → parts.dropped ≡ 0
    → DropsNone (order_step known link own emergency parts)
unfolding order_step
order_drops_none known link own emergency parts none =
    by_test DropsNone (eqb known.state 0) (answer emergency) (answer_and_end own link (cond (eqb known.state 1) cut_none parts)) (λ out. refl)
    (λ in_service. by_test (λ (c : Cut). c.dropped ≡ 0) (eqb known.state 1) cut_none parts (λ waits. refl) (λ carries. none))

ack_drops_none : (link : ℕ) (known : LinkRecord) (parts : Cut) → parts.dropped ≡ 0 → DropsNone (ack_step link known parts)
unfolding ack_step
ack_drops_none link known parts none =
    by_test DropsNone (ltb link 32 && eqb known.timer 2) (end link parts) nothing (λ counts. none) (λ ignored. refl)

-- what a message asks of a link, unless it is an ECO or ECA
module _ (plan : Plan) (links marks : List ℕ) (arriving fsn point slc : ℕ) where
  abbrev link : ℕ
  link = link_named plan point slc

  abbrev known : LinkRecord
  known = record_at links link

  asked_drops_none : (message : Message) → (message ≡ ECO → ⊥) → (message ≡ ECA → ⊥)
      → DropsNone (step_asked plan links marks arriving fsn point slc message)
  unfolding asked ask_coo ask_coa ask_cbd ask_rst
  asked_drops_none (COO f) no-eco no-eca =
      let own = draft (COA (last_received links arriving fsn link)) point slc link in
      by_test DropsNone (ltb link 32) (order_step known link own (emergency_of point slc link) (cut_at known f)) nothing
      (λ e. order_drops_none known link own (emergency_of point slc link) (cut_at known f) (at_drops_none known f))
      (λ e. refl)
  asked_drops_none (COA f) no-eco no-eca = ack_drops_none link known (cut_at known f) (at_drops_none known f)
  asked_drops_none (CBD code) no-eco no-eca =
      by_test DropsNone (ltb link 32) (answer (draft (CBA code) point slc 32)) nothing (λ e. refl) (λ e. refl)
  asked_drops_none (CBA code) no-eco no-eca = refl
  asked_drops_none ECO no-eco no-eca = absurd (no-eco refl)
  asked_drops_none ECA no-eco no-eca = absurd (no-eca refl)
  asked_drops_none (TFP x) no-eco no-eca = refl
  asked_drops_none (TFA x) no-eco no-eca = refl
  asked_drops_none (RST x) no-eco no-eca =
      by_test DropsNone (allows plan links marks point x) (answer (draft (TFA x) point 0 32)) nothing (λ e. refl) (λ e. refl)

-- how a call ends that brings neither
module _ (plan : Plan) (a : Areas) (call : Call) (neither : (link : ℕ) → Brings plan call link WithoutNumber → ⊥) where
  came_drops_none : (arriving fsn : ℕ) → call.event ≡ Received arriving fsn → (came : Came) → from_link plan call.message ≡ came
      → (ending_by_message plan a arriving fsn came).parts.dropped ≡ 0
  unfolding ending_by_message ending_by_step
  came_drops_none arriving fsn received Malformed read = refl
  came_drops_none arriving fsn received Foreign read = refl
  came_drops_none arriving fsn received Delivered read = refl
  came_drops_none arriving fsn received (Passed label) read = refl
  came_drops_none arriving fsn received (Managed order) read =
      let brings : WithoutNumber order.message → ⊥ =
      λ says.
      neither (link_named plan order.point order.slc)
      (record { arriving = arriving; fsn = fsn; order = order; received = received; read = read; says = says; names = refl })
      in
      asked_drops_none plan a.links a.marks arriving fsn order.point order.slc order.message (λ is. brings (inl is)) (λ is. brings (inr is))

  ending_drops_none : (event : Event) → call.event ≡ event → (ending_of plan a call.message (view_of event)).parts.dropped ≡ 0
  unfolding ending_of ending_by_timer ending_by_failure
  ending_drops_none (IntoService link) is = refl
  ending_drops_none (Failure link) is = refl
  ending_drops_none (Send link) is = refl
  ending_drops_none (Acknowledgement link b) is = refl
  ending_drops_none (Received link fsn) is =
      by_test (λ (e : Ending). e.parts.dropped ≡ 0) (eqb (Receive.reply_of plan a.links link fsn a.reports) 0)
      (ending_by_message plan a link fsn (from_link plan call.message))
      (no_ending a)
      (λ done. came_drops_none link fsn is (from_link plan call.message) refl)
      (λ refused. refl)
  ending_drops_none FromHost is = refl
  ending_drops_none (T1 link) is = refl
  ending_drops_none (T2 link) is = refl
  ending_drops_none (T3 link) is = refl
  ending_drops_none (T4 link) is = refl
  ending_drops_none (T6 x) is = refl
  ending_drops_none (T8 x) is = refl
  ending_drops_none (T10 x set) is = refl

-- what is told for a reason other than 1
module _ (plan : Plan) (reason : ℕ) (low : reason < 4) (not-1 : 1 ≡ reason → ⊥) where
  access_none : (links marks links_after marks_after : List ℕ) → dropped_with reason (access_changes plan links marks links_after marks_after) ≡ []
  access_none links marks links_after marks_after =
      changes_none reason low plan (is_accessible plan links marks) (is_accessible plan links_after marks_after) 0 (given plan)

  -- of a link that goes out, where none is dropped for it
  ending_none : (ending : Ending)
      → let a = ending.from in
      dropped_with reason (drops_for 2 a.rows (dropped_part ending.parts (slots_of (both a.spans a.rings) ending.link))) ≡ []
      → dropped_with reason (ending_told plan ending) ≡ []
  unfolding ending_told
  ending_none ending none =
      let a = ending.from in
      let links = links_out a.links ending.link in
      let goes = goes_to plan links a.marks a.rows in
      let slots = slots_of (both a.spans a.rings) ending.link in
      let cut_off : List Report = drops_for 2 a.rows (dropped_part ending.parts slots) in
      let stray : List Report = drops_for 1 a.rows (stranded goes (rest ending.parts slots)) in
      let all : List ℕ → List ℕ → List ℕ = λ one two. one ++ two in
      dropped_append reason (cut_off ++ stray) (access_changes plan a.links a.marks links a.marks)
      ∙ ap₂ all
      (dropped_append reason cut_off stray
      ∙ ap₂ all none (dropped_other reason 1 not-1 (arrival_of a.rows) (stranded goes (rest ending.parts slots))))
      (access_none a.links a.marks links a.marks)

  -- of a management message, and of every other event
  message_none : (a : Areas) (marks : List ℕ) (message : Message) → dropped_with reason (message_told plan a marks message) ≡ []
  unfolding message_told dropped_with
  message_none a marks (TFP x) = access_none a.links a.marks a.links marks
  message_none a marks (TFA x) = access_none a.links a.marks a.links marks
  message_none a marks (COO f) = refl
  message_none a marks (COA f) = refl
  message_none a marks (CBD code) = refl
  message_none a marks (CBA code) = refl
  message_none a marks ECO = refl
  message_none a marks ECA = refl
  message_none a marks (RST x) = refl

  came_none : (a after : Areas) (came : Came)
      → dropped_with reason (of_managed [] (λ (order : Order). message_told plan a after.marks order.message) came) ≡ []
  unfolding dropped_with
  came_none a after Malformed = refl
  came_none a after Foreign = refl
  came_none a after Delivered = refl
  came_none a after (Passed label) = refl
  came_none a after (Managed order) = message_none a after.marks order.message

  event_none : (message : List ℕ) (a after : Areas) (event : Event) → dropped_with reason (event_told plan message a after event) ≡ []
  unfolding event_told dropped_with
  event_none message a after (IntoService link) = access_none a.links a.marks after.links a.marks
  event_none message a after (Received link fsn) = came_none a after (from_link plan message)
  event_none message a after (T6 x) =
      dropped_other reason 1 not-1 (arrival_of a.rows) (stranded (goes_to plan after.links after.marks a.rows) (let_go a x))
  event_none message a after (Failure link) = refl
  event_none message a after (Send link) = refl
  event_none message a after (Acknowledgement link b) = refl
  event_none message a after FromHost = refl
  event_none message a after (T1 link) = refl
  event_none message a after (T2 link) = refl
  event_none message a after (T3 link) = refl
  event_none message a after (T4 link) = refl
  event_none message a after (T8 x) = refl
  event_none message a after (T10 x set) = refl

  -- every call
  call_none : (message : List ℕ) (event : Event) (a : Areas) (r : Result)
      → let ending = ending_of plan a message (view_of event) in
      let from = ending.from in
      dropped_with reason (drops_for 2 from.rows (dropped_part ending.parts (slots_of (both from.spans from.rings) ending.link))) ≡ []
      → dropped_with reason (reports_of_call plan message event a r) ≡ []
  unfolding reports_of_call dropped_with
  call_none message event a r none =
      let ending = ending_of plan a message (view_of event) in
      let told = event_told plan message a r.after.areas event in
      let Nothing : List Report → Type 0 = λ l. dropped_with reason l ≡ [] in
      by_test Nothing ending.ends (ending_told plan ending) (cond (eqb r.answer.reply 0) told [])
      (λ ends. ending_none ending none)
      (λ stays. by_test Nothing (eqb r.answer.reply 0) told [] (λ done. event_none message a r.after.areas event) (λ refused. refl))

module _ (m : Memory) (whole : Whole m) (text : List ℕ) (calls : List Call) where
  abbrev its : Plan
  its = (configured text).plan

  pub reasons : (call : Call) → Reasons its call (result_of its call (ran its calls (fresh m)))
  unfolding dropped_with
  reasons call =
      let a = (lent call (ran its calls (fresh m))).areas in
      let r = result_of its call (ran its calls (fresh m)) in
      let ending = ending_of its a call.message (view_of call.event) in
      let from = ending.from in
      let slots : List ℕ = slots_of (both from.spans from.rings) ending.link in
      let told = reports_exactly m whole text calls call in
      record {
        never_3 =
            ap (dropped_with 3) told
            ∙ call_none its 3 (lit< tt) (λ e. omega (arith, e)) call.message call.event a r
            (dropped_other 3 2 (λ e. omega (arith, e)) (arrival_of from.rows) (dropped_part ending.parts slots));
        only_without_number =
            λ neither.
            ap (dropped_with 2) told
            ∙ call_none its 2 (lit< tt) (λ e. omega (arith, e)) call.message call.event a r
            (ap (λ (n : ℕ). dropped_with 2 (drops_for 2 from.rows (take n (drop ending.parts.retired slots))))
            (ending_drops_none its a call neither call.event refl));
      }
