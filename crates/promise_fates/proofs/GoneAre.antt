-- The lines `acknowledged` and `retired` of every call are the messages that the promises say it acknowledges and retires, in order, each with its link: over
-- any run of calls from any configuration. Assumes nothing.
use mathlib.Core.Path.{◌≡◌, refl, sym, ap, subst, ◌∙◌}
use mathlib.Core.Logic.{◌⊎◌, inl, inr, ⊎_elim}
use mathlib.Core.Bool.{Bool, true, false, cond, not, true≢false, false≢true}
use mathlib.Core.List.{List, [], ◌++◌, map, append-nil}
use Prim.Native.Nat.{ℕ, ◌<◌}
use native.Mathlib.Omega.{arith}
use lib.Dec.{eqb, leb}
use lib.ListN.{length, take}
use borrow.Table.Steps.{cases}
use Rattle.plan.specs.declared.data.Plan.{Plan}
use Rattle.area_links.specs.LinkRecords.{record_at}
use Rattle.replies.specs.Areas.{Areas}
use Rattle.numbers.specs.Numbers.{up_to}
use Rattle.lookup.specs.Lookup.{is_link}
use Rattle.acknowledging.specs.Acknowledge as Acknowledge
use Rattle.management_steps.specs.declared.Step.{Step}
use Rattle.management_orders.specs.Carry.{answer_reply}
use Rattle.managing.specs.Managed.{step_asked}
use Rattle.discrimination.specs.declared.Came.{Came}
use Rattle.discrimination.specs.declared.Came.TheVariants.{Malformed, Foreign, Delivered, Managed, Passed}
use Rattle.discrimination.specs.Discrimination.{from_link}
use Rattle.receiving.specs.Receive as Receive
use Rattle.plan_configuration.specs.Configure.{configured}
use Rattle.node.specs.View.{View, Comes, Fails, Sends, Acknowledges, Arrives, HandedOver, Overdue, Expires, view_of}
use Rattle.node.specs.Memory.{Memory, Result}
use Rattle.fate_lines.specs.declared.Fate.{Fate}
use Rattle.fate_lines.specs.declared.Fate.TheVariants.{Unchanged, Acknowledged, Retired}
use Rattle.fate_places.specs.Places.{message_at, nowhere}
use Rattle.replay_fates.specs.declared.deciding.Part.{Part}
use Rattle.replay_fates.specs.declared.deciding.Part.TheVariants.{Acknowledging, Retiring}
use Rattle.replay_fates.specs.Fates.{fate_at, leaving_part}
use Rattle.replay_fates.specs.Holds.{Seen}
use Rattle.replay_answers.specs.Answers.{acknowledges_of}
use Rattle.promise_runs.specs.Run.{Call, lent, ran, fresh, Whole}
use Rattle.promise_runs.proofs.Reached.{configured_regular}
use Rattle.promise_runs.proofs.Outcomes.{if_done_lem, both_by_test, rows_passed, link_within}
use Rattle.promise_accounts.specs.Gone.{queue_of, up_to_b, acknowledged_by, retired_by_step, retired_by_message, retired_by}
use Rattle.promise_accounts.specs.Ending.{Ending, no_ending, ending_by_step, ending_by_message, ending_of}
use Rattle.promise_changeover.proofs.Asking.{ending_asks}
use Rattle.promise_farend.specs.History.{result_of}
use Rattle.promise_fates.specs.Told.{seen_of}
use Rattle.promise_fates.specs.Lines.{picked, acknowledged_line, retired_line}
use Rattle.promise_fates.specs.History.{acknowledged_over, AcknowledgedAre, RetiredAre}
use Rattle.promise_fates.proofs.Walked.{in_queues, walked_in}
use Rattle.promise_fates.proofs.Settled.{Settled, call_settles}
use Rattle.promise_fates.proofs.Parts.{by_either, part, to, only_left, no_acknowledged, no_retired}
use Rattle.promise_fates.proofs.GoneLines.{give, gone_lines, none_lines}
use Rattle.promise_fates.proofs.FatesTrue.{at_most}

-- none, or the first of the queue of a link
abbrev FirstOf : Areas → ℕ → List ℕ → Type 0
FirstOf a link gone = (gone ≡ []) ⊎ ((link < 33) × ((many : ℕ) × (gone ≡ take many (queue_of a link))))

module _ (plan : Plan) (a : Areas) where
  acknowledged_within : (link b : ℕ) → Acknowledge.reply_of plan a.links link b ≡ 0 → link < 32
  unfolding Acknowledge.reply_of
  acknowledged_within link b done =
      let passed =
      rows_passed (Acknowledge.out_of_range link b) (not (is_link plan link)) (not (Acknowledge.link_open a.links link)) _ done
      in
      link_within link (leb 128 b) passed.0

  acknowledged_first : (view : View) → FirstOf a (acknowledged_over view) (acknowledged_by plan a view)
  unfolding acknowledged_by up_to_b
  acknowledged_first (Acknowledges link b) =
      if_done_lem (FirstOf a link) (Acknowledge.reply_of plan a.links link b) (take (up_to (record_at a.links link) b) (queue_of a link)) []
      (λ done. inr (omega (arith, acknowledged_within link b done), (up_to (record_at a.links link) b, refl)))
      (inl refl)
  acknowledged_first (Comes link) = inl refl
  acknowledged_first (Fails link) = inl refl
  acknowledged_first (Sends link) = inl refl
  acknowledged_first (Arrives link fsn) = inl refl
  acknowledged_first HandedOver = inl refl
  acknowledged_first (Overdue link timer) = inl refl
  acknowledged_first Expires = inl refl

  -- an event that acknowledges retires none, and one that doesn't acknowledges none
  none_acknowledged : (view : View) → acknowledges_of view ≡ false → acknowledged_by plan a view ≡ []
  unfolding acknowledged_by
  none_acknowledged (Acknowledges link b) e = absurd (true≢false e)
  none_acknowledged (Comes link) e = refl
  none_acknowledged (Fails link) e = refl
  none_acknowledged (Sends link) e = refl
  none_acknowledged (Arrives link fsn) e = refl
  none_acknowledged HandedOver e = refl
  none_acknowledged (Overdue link timer) e = refl
  none_acknowledged Expires e = refl

  none_retired : (message : List ℕ) (view : View) → acknowledges_of view ≡ true → retired_by plan a message view ≡ []
  unfolding retired_by
  none_retired message (Acknowledges link b) e = refl
  none_retired message (Comes link) e = refl
  none_retired message (Fails link) e = refl
  none_retired message (Sends link) e = refl
  none_retired message (Arrives link fsn) e = absurd (false≢true e)
  none_retired message HandedOver e = refl
  none_retired message (Overdue link timer) e = refl
  none_retired message Expires e = refl

  -- where no link goes out, none is retired
  step_unended : (step : Step) → (ending_by_step plan a step).ends ≡ false → retired_by_step plan a step ≡ []
  unfolding ending_by_step retired_by_step
  step_unended step e =
      cases (eqb step.reply 0)
      (λ f.
      cases (eqb (answer_reply plan step a) 0)
      (λ g.
      let last : step.ends ≡ false = simp (f, g) at e in
      simp (f, g, last))
      (λ g. simp (f, g)))
      (λ f. simp f)

  message_unended : (arriving fsn : ℕ) (came : Came) → (ending_by_message plan a arriving fsn came).ends ≡ false
      → retired_by_message plan a arriving fsn came ≡ []
  unfolding ending_by_message retired_by_message
  message_unended arriving fsn Malformed e = refl
  message_unended arriving fsn Foreign e = refl
  message_unended arriving fsn Delivered e = refl
  message_unended arriving fsn (Managed order) e =
      step_unended (step_asked plan a.links a.marks arriving fsn order.point order.slc order.message) e
  message_unended arriving fsn (Passed label) e = refl

  unended : (message : List ℕ) (view : View) → (ending_of plan a message view).ends ≡ false → retired_by plan a message view ≡ []
  unfolding ending_of retired_by
  unended message (Arrives link fsn) e =
      both_by_test (λ (ending : Ending) (retired : List ℕ). ending.ends ≡ false → retired ≡ [])
      (eqb (Receive.reply_of plan a.links link fsn a.reports) 0)
      (ending_by_message plan a link fsn (from_link plan message))
      (no_ending a)
      (retired_by_message plan a link fsn (from_link plan message))
      []
      (λ done. message_unended link fsn (from_link plan message))
      (λ refused f. refl)
      e
  unended message (Comes link) e = refl
  unended message (Fails link) e = refl
  unended message (Sends link) e = refl
  unended message (Acknowledges link b) e = refl
  unended message HandedOver e = refl
  unended message (Overdue link timer) e = refl
  unended message Expires e = refl

module _ (m : Memory) (whole : Whole m) (one : length m.areas.arrivals ≡ 1) (text : List ℕ) (calls : List Call) (call : Call) where
  abbrev plan : Plan
  plan = (configured text).plan

  abbrev before : Memory
  before = ran plan calls (fresh m)

  abbrev r : Result
  r = result_of plan call before

  abbrev a : Areas
  a = (lent call before).areas

  abbrev b : Areas
  b = r.after.areas

  abbrev view : View
  view = view_of call.event

  abbrev acknowledged : List ℕ
  acknowledged = acknowledged_by plan a view

  abbrev retired : List ℕ
  retired = retired_by plan a call.message view

  abbrev s : Seen
  s = seen_of plan call before

  settles : Settled a b r.answer.reports (acknowledged ++ retired)
  settles = call_settles m whole one text calls call

  -- those that are gone by a part of what is told
  module _ (gone : List ℕ) (all : Settled a b r.answer.reports gone) (line : ℕ → ℕ → Fate) (which : Part) (read : Fate → List Fate)
      (each : (queue place : ℕ)
      → read (fate_at which s.before s.after s.reports s.told.reports queue place)
      ≡ give a b r.answer.reports gone all line queue (message_at s.before queue place).arrival) where
    walked : picked read (part read s which s.before)
        ≡ in_queues (λ (queue : ℕ). picked (give a b r.answer.reports gone all line queue) (queue_of a queue)) 0 33
    walked =
        walked_in which s.before s.after s.reports s.told.reports read (give a b r.answer.reports gone all line) each
        all.short_before
        (at_most before (configured_regular text m whole calls))

    first_lines : (link : ℕ) → FirstOf a link gone → picked read (part read s which s.before) ≡ map (λ (number : ℕ). line number link) gone
    first_lines link first =
        walked
        ∙ ⊎_elim
        (λ (none : gone ≡ []).
        none_lines a b r.answer.reports gone all line none ∙ sym (ap (map (λ (number : ℕ). line number link)) none))
        (λ (some : (link < 33) × ((many : ℕ) × (gone ≡ take many (queue_of a link)))).
        gone_lines a b r.answer.reports gone all line link some.1.0 some.0 some.1.1)
        first

  leaving_is : (kind : Bool) → acknowledges_of view ≡ kind → leaving_part s.told ≡ cond kind Acknowledging Retiring
  leaving_is kind e = ap (λ (t : Bool). cond t Acknowledging Retiring) e

  pub acknowledged_are : AcknowledgedAre plan call before
  acknowledged_are =
      cases (acknowledges_of view)
      (λ e.
      let none = none_retired plan a call.message view e in
      let same : acknowledged ++ retired ≡ acknowledged = ap (λ (l : List ℕ). acknowledged ++ l) none ∙ append-nil acknowledged in
      only_left acknowledged_line s Acknowledging (leaving_is true e) refl (λ n l h. refl) (λ n l f. refl) (λ n f t. refl)
      ∙ first_lines acknowledged (subst (Settled a b r.answer.reports) same settles) Acknowledged Acknowledging acknowledged_line
      (λ queue place.
      by_either acknowledged_line (eqb (to acknowledged_line s s.before queue place) nowhere)
      (Acknowledged (message_at s.before queue place).arrival queue)
      Unchanged)
      (acknowledged_over view)
      (acknowledged_first plan a view))
      (λ e.
      only_left acknowledged_line s Retiring (leaving_is false e) refl (λ n l h. refl) (λ n l f. refl) (λ n f t. refl)
      ∙ no_retired acknowledged_line s refl (λ n l. refl)
      ∙ sym (ap (map (λ (number : ℕ). Acknowledged number (acknowledged_over view))) (none_acknowledged plan a view e)))

  pub retired_are : RetiredAre plan call before
  retired_are =
      let ending = ending_of plan a call.message view in
      cases (acknowledges_of view)
      (λ e.
      only_left retired_line s Acknowledging (leaving_is true e) refl (λ n l h. refl) (λ n l f. refl) (λ n f t. refl)
      ∙ no_acknowledged retired_line s refl (λ n l. refl)
      ∙ sym (ap (map (λ (number : ℕ). Retired number ending.link)) (none_retired plan a call.message view e)))
      (λ e.
      let same : acknowledged ++ retired ≡ retired = ap (λ (l : List ℕ). l ++ retired) (none_acknowledged plan a view e) in
      only_left retired_line s Retiring (leaving_is false e) refl (λ n l h. refl) (λ n l f. refl) (λ n f t. refl)
      ∙ first_lines retired (subst (Settled a b r.answer.reports) same settles) Retired Retiring retired_line
      (λ queue place.
      by_either retired_line (eqb (to retired_line s s.before queue place) nowhere)
      (Retired (message_at s.before queue place).arrival queue)
      Unchanged)
      ending.link
      (cases ending.ends
      (λ ends.
      let asks = ending_asks plan a before.octets (configured_regular text m whole calls) call.message view ends in
      inr (omega (arith, asks.within), (ending.parts.retired, asks.retires)))
      (λ stays. inl (unended plan a call.message view stays))))
