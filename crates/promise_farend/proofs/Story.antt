-- A far end all of whose acknowledgements were true has taken all that was acknowledged, and no more than was sent.
-- Assumes nothing.
use mathlib.Core.Path.{◌≡◌, ap}
use mathlib.Core.Bool.{Bool, true, cond}
use mathlib.Core.List.{List, [], ◌∷◌}
use Prim.Native.Nat.{ℕ}
use native.Mathlib.Omega.{arith}
use lib.Dec.{ltb}
use lib.ListN.{length}
use borrow.Author.Tests.{ltb-true, ltb-false}
use borrow.Table.Steps.{cases}
use Rattle.plan.specs.declared.data.Plan.{Plan}
use Rattle.replies.specs.Areas.{Areas}
use Rattle.node.specs.View.{View, Comes, Fails, Sends, Acknowledges, Arrives, HandedOver, Overdue, Expires, view_of}
use Rattle.node.specs.Memory.{Memory, Result}
use Rattle.promise_runs.specs.Run.{Call, lent, called}
use Rattle.promise_runs.proofs.Outcomes.{unmet}
use Rattle.promise_farend.specs.History.{History, begun, result_of, is_done, event_by, history_by, history_in, begins}
use Rattle.promise_farend.specs.FarEnd.{Honest, TrueStep, TrueRun, taken_in}

-- where one begins, nothing is done yet
pub begins_anew : (plan : Plan) (a : Areas) (link : ℕ) (r : Result) (s : History) (view : View) → begins link (is_done r) view ≡ true
    → event_by plan a link r s view ≡ begun
unfolding begins event_by
begins_anew plan a link r s (Comes other) e = ap (λ (t : Bool). cond t begun s) e
begins_anew plan a link r s (Sends other) e = unmet e
begins_anew plan a link r s (Acknowledges other b) e = unmet e
begins_anew plan a link r s (Fails other) e = unmet e
begins_anew plan a link r s (Arrives other fsn) e = unmet e
begins_anew plan a link r s HandedOver e = unmet e
begins_anew plan a link r s (Overdue other timer) e = unmet e
begins_anew plan a link r s Expires e = unmet e

-- a true step leaves an honest far end honest
step_honest : (anew : Bool) (before after : History) (took takes : ℕ) → (anew ≡ true → after.acknowledged ≡ []) → Honest before took
    → TrueStep anew before after took takes
    → Honest after takes
step_honest anew before after took takes empty honest step = record {
  acknowledged_taken =
      cases (ltb (length before.acknowledged) (length after.acknowledged))
      (λ more. step.acknowledged_truly (ltb-true (length before.acknowledged) (length after.acknowledged) more))
      (λ none.
      let few = ltb-false (length before.acknowledged) (length after.acknowledged) none in
      cases anew (λ e. omega (arith, ap length (empty e)))
      (λ e. omega (arith, step.grows e, honest.acknowledged_taken)));
  taken_sent = step.of_sent;
}

-- and so does a run
module _ (plan : Plan) (link : ℕ) where
  pub run_honest : (calls : List Call) (takings : List ℕ) (m : Memory) (s : History) (took : ℕ) → Honest s took
      → TrueRun plan link calls takings m s took
      → Honest (history_in plan calls m link s) (taken_in calls takings took)
  unfolding TrueRun history_in taken_in history_by
  run_honest [] takings m s took honest story = honest
  run_honest (call ∷ later) [] m s took honest story = absurd story
  run_honest (call ∷ later) (takes ∷ takings) m s took honest story =
      let r = result_of plan call m in
      let view = view_of call.event in
      run_honest later takings (called plan call m) (history_by plan call m link s) takes
      (step_honest (begins link (is_done r) view) s (history_by plan call m link s) took takes
      (λ anew. ap (λ (h : History). h.acknowledged) (begins_anew plan (lent call m).areas link r s view anew))
      honest
      story.0)
      story.1
