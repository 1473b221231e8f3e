-- Where a message takes a link out, its answer is queued before on the link that the rule gives over the links which the call leaves open.
-- Assumes nothing.
use mathlib.Core.Path.{◌≡◌, refl, sym, ap, ◌∙◌}
use mathlib.Core.Bool.{Bool, true, false, cond, ◌&&◌, and-eq-true_iff}
use mathlib.Core.List.{List}
use Prim.Native.Nat.{ℕ}
use lib.Dec.{eqb}
use lib.ListN.{length}
use Rattle.plan.specs.declared.data.Plan.{Plan}
use Rattle.wire_messages.specs.declared.management.Message.{Message}
use Rattle.wire_messages.specs.declared.management.Message.TheVariants.{COO, COA, CBD, CBA, ECO, ECA, TFP, TFA, RST}
use Rattle.replies.specs.Areas.{Areas, Outcome, refused}
use Rattle.numbers.specs.Numbers.{is_taken}
use Rattle.numbers.specs.Taken.{with_taken, taken_by}
use Rattle.changeover_ending.specs.End.{links_out, out_of_service}
use Rattle.management_steps.specs.declared.Step.{Step}
use Rattle.management_orders.specs.Carry.{answer_reply, ended_by, carried}
use Rattle.managing.specs.Managed.{asked, step_asked, managed}
use Rattle.receiving.specs.Receive.{received_by, received}
use Rattle.receiving.specs.Receive as Receive
use Rattle.discrimination.specs.declared.Came.{Came}
use Rattle.discrimination.specs.declared.Came.TheVariants.{Malformed, Foreign, Delivered, Managed, Passed}
use Rattle.discrimination.specs.Discrimination.{from_link}
use Rattle.node.specs.declared.call.Event.{Event}
use Rattle.node.specs.declared.call.Event.TheVariants.{IntoService, Failure, Send, Acknowledgement, Received, FromHost, T1, T2, T3, T4, T6, T8, T10}
use Rattle.node.specs.View.{view_of}
use Rattle.node.specs.Memory.{Memory}
use Rattle.node.specs.Call.{receives, call_of}
use Rattle.promise_runs.proofs.Outcomes.{unmet, by_test}
use Rattle.promise_accounts.specs.Ending.{Ending, no_ending, ending_by_failure, ending_by_step, ending_by_message, ending_of}
use Rattle.promise_accounts.proofs.Answers.{left_links}
use Rattle.promise_contents.specs.Made.{New, Nothing, User, Made, answer_in, new_by, new_of}
use Rattle.promise_queueing.specs.Making.{open_path, path_by, path_for}
use Rattle.promise_queueing.proofs.MadePaths.{path_taken, Fits, asked_fits}

module _ (plan : Plan) (a : Areas) (long : length a.links ≡ 256) where
  -- the path of an answer, if there is one
  abbrev pub Answered : ℕ → New → Areas → Type 0
  Answered path Nothing b = Unit {0}
  Answered path (User size) b = Unit {0}
  Answered path (Made draft) b = path ≡ path_for plan a b draft

  -- a step that takes a link out
  module _ (step : Step) (fits : Fits plan a long step) (out : (ending_by_step plan a step).ends ≡ true) where
    -- leaves the links with that one out
    left_out : (step.ends ≡ true) × ((carried plan step a).after.links ≡ links_out a.links step.link)
    unfolding carried ended_by ending_by_step out_of_service
    left_out =
        let asks = (and-eq-true_iff (eqb step.reply 0) (eqb (answer_reply plan step a) 0 && step.ends)).0 out in
        let placed = (and-eq-true_iff (eqb (answer_reply plan step a) 0) step.ends).0 asks.1 in
        (placed.1, simp (asks.0, placed.0, placed.1) (ap (λ (links : List ℕ). links_out links step.link) (left_links a plan step)))

    answered_on : (answers : Bool) → step.answers ≡ answers
        → Answered (ending_by_step plan a step).path (cond answers (Made step.draft) Nothing) (carried plan step a).after
    unfolding ending_by_step
    answered_on false e = tt
    answered_on true e =
        let draft = step.draft in
        fits e
        ∙ ap (λ (t : Bool). path_by (open_path plan (cond t (links_out a.links step.link) a.links) a.marks) draft.message draft.point draft.slc) left_out.0
        ∙ ap (λ (links : List ℕ). path_by (open_path plan links a.marks) draft.message draft.point draft.slc) (sym left_out.1)

    carried_answered : Answered (ending_by_step plan a step).path (answer_in step) (carried plan step a).after
    carried_answered = answered_on step.answers refl

  -- each of the nine management messages
  module _ (arriving fsn point slc : ℕ) where
    abbrev step_of : Message → Step
    step_of message = step_asked plan a.links a.marks arriving fsn point slc message

    carries : (message : Message) → (ending_by_step plan a (step_of message)).ends ≡ true
        → Answered (ending_by_step plan a (step_of message)).path (answer_in (step_of message)) (carried plan (step_of message) a).after
    carries message = carried_answered (step_of message) (asked_fits plan a long arriving fsn point slc message)

    managed_answered : (message : Message) → (ending_by_step plan a (step_of message)).ends ≡ true
        → Answered (ending_by_step plan a (step_of message)).path (answer_in (step_of message)) (managed plan arriving fsn point slc message a).after
    unfolding managed asked
    managed_answered (COO f) = carries (COO f)
    managed_answered (COA f) = carries (COA f)
    managed_answered (CBD code) = carries (CBD code)
    managed_answered (CBA code) = λ out. tt
    managed_answered ECO = carries ECO
    managed_answered ECA = carries ECA
    managed_answered (TFP x) = λ out. tt
    managed_answered (TFA x) = λ out. tt
    managed_answered (RST x) = carries (RST x)

  -- by what a message from a link is
  came_answered : (arriving fsn size : ℕ) (came : Came) → (ending_by_message plan a arriving fsn came).ends ≡ true
      → Answered (ending_by_message plan a arriving fsn came).path (new_by plan arriving fsn size came a) (received_by plan arriving fsn size came a).after
  unfolding received_by new_by ending_by_message
  came_answered arriving fsn size Malformed out = tt
  came_answered arriving fsn size Foreign out = tt
  came_answered arriving fsn size Delivered out = tt
  came_answered arriving fsn size (Managed order) out = managed_answered arriving fsn order.point order.slc order.message out
  came_answered arriving fsn size (Passed label) out = unmet out

  -- a message that is taken leaves every path
  taken_answered : (path : ℕ) (new : New) (b : Areas) (arriving fsn : ℕ) → Answered path new b → Answered path new (with_taken arriving fsn b)
  taken_answered path Nothing b arriving fsn answered = tt
  taken_answered path (User size) b arriving fsn answered = tt
  taken_answered path (Made draft) b arriving fsn answered =
      answered ∙ sym (path_taken plan a.marks b.links arriving fsn draft)

  -- judged by the reply first, and taken or not
  received_answered : (message : List ℕ) (arriving fsn : ℕ) → (ending_of plan a message (view_of (Received arriving fsn))).ends ≡ true
      → Answered (ending_of plan a message (view_of (Received arriving fsn))).path
      (new_by plan arriving fsn (length message) (from_link plan message) a)
      (received plan arriving fsn message a).after
  unfolding received ending_of
  received_answered message arriving fsn =
      let came = from_link plan message in
      let new = new_by plan arriving fsn (length message) came a in
      let o : Outcome = received_by plan arriving fsn (length message) came a in
      by_done (eqb (Receive.reply_of plan a.links arriving fsn a.reports) 0) (ending_by_message plan a arriving fsn came) (taken_by arriving fsn o)
      (refused (Receive.reply_of plan a.links arriving fsn a.reports) a)
      (λ out.
      let answered = came_answered arriving fsn (length message) came out in
      by_test (Answered (ending_by_message plan a arriving fsn came).path new) (is_taken o.answer.reply) (with_taken arriving fsn o.after) o.after
      (λ t. taken_answered (ending_by_message plan a arriving fsn came).path new o.after arriving fsn answered)
      (λ t. answered))
    where
      by_done : (test : Bool) (ending : Ending) (x y : Outcome)
          → (ending.ends ≡ true → Answered ending.path (new_by plan arriving fsn (length message) (from_link plan message) a) x.after)
          → (cond test ending (no_ending a)).ends ≡ true
          → Answered (cond test ending (no_ending a)).path (new_by plan arriving fsn (length message) (from_link plan message) a) (cond test x y).after
      by_done true ending x y does out = does out
      by_done false ending x y does out = unmet out

module _ (plan : Plan) (message : List ℕ) (m : Memory) (long : length m.areas.links ≡ 256) where
  -- every event that answers: the failure of a waiting link has no answer
  pub call_answered : (event : Event) → (ending_of plan m.areas message (view_of event)).ends ≡ true
      → (ending_of plan m.areas message (view_of event)).answers ≡ true
      → Answered plan m.areas long (ending_of plan m.areas message (view_of event)).path (new_of plan event message m.areas)
      (call_of plan event message m).after.areas
  unfolding call_of new_of ending_of ending_by_failure receives
  call_answered (Received link fsn) out answers = received_answered plan m.areas long message link fsn out
  call_answered (Failure link) out answers = unmet answers
  call_answered (IntoService link) out answers = unmet out
  call_answered (T10 x set) out answers = unmet out
  call_answered (Send link) out answers = tt
  call_answered (Acknowledgement link b) out answers = tt
  call_answered FromHost out answers = tt
  call_answered (T1 link) out answers = tt
  call_answered (T2 link) out answers = tt
  call_answered (T3 link) out answers = tt
  call_answered (T4 link) out answers = tt
  call_answered (T6 x) out answers = tt
  call_answered (T8 x) out answers = tt
