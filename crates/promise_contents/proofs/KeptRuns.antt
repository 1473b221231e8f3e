-- Every run of calls keeps what is held: a slot whose message has a number that was given before the run has the row and the octets
-- that it had then.
-- Assumes nothing.
use mathlib.Core.Path.{◌≡◌, ◌∙◌}
use mathlib.Core.Logic.{⊎_elim}
use mathlib.Core.List.{List, [], ◌∷◌}
use Prim.Native.Nat.{ℕ, ◌<◌}
use native.Mathlib.Omega.{arith}
use lib.ListN.{length}
use Rattle.plan.specs.declared.data.Plan.{Plan}
use Rattle.node.specs.Memory.{Memory}
use Rattle.promise_runs.specs.Run.{Call, lent, called, ran}
use Rattle.promise_contents.specs.Content.{content_of, row_in, next_in, Same, Newer, Kept}
use Rattle.promise_contents.proofs.Kept.{kept_none, kept_on}
use Rattle.promise_contents.proofs.KeptCalls.{call_keeps}

module _ (plan : Plan) where
  -- a call of a run, with what it is lent
  pub called_keeps : (call : Call) (m : Memory) → length m.areas.rows ≡ 2048
      → Kept (content_of m) (content_of (called plan call m))
  unfolding called
  called_keeps call m all = call_keeps plan call.message (lent call m) all call.event

  -- any run
  pub run_keeps : (calls : List Call) (m : Memory) → length m.areas.rows ≡ 2048
      → Kept (content_of m) (content_of (ran plan calls m))
  unfolding ran
  run_keeps [] m all = kept_none (content_of m)
  run_keeps (call ∷ later) m all =
      let next : Memory = called plan call m in
      let here = called_keeps call m all in
      kept_on (content_of m) (content_of next) (content_of (ran plan later next)) here (run_keeps later next (here.long ∙ all))

  -- a message that was queued before the run: its slot holds what it held
  pub older_same : (calls : List Call) (m : Memory) → length m.areas.rows ≡ 2048 → (slot : ℕ) → slot < 256
      → (row_in (content_of (ran plan calls m)) slot).arrival < next_in (content_of m)
      → Same (content_of m) (content_of (ran plan calls m)) slot
  older_same calls m all slot h older =
      ⊎_elim (λ (same : Same (content_of m) (content_of (ran plan calls m)) slot). same)
      (λ (newer : Newer (content_of m) (content_of (ran plan calls m)) slot). absurd (omega (arith, newer, older)))
      ((run_keeps calls m all).each slot h)
