-- The drops of a call by their reasons: "reason 2 remains only for ECO and ECA, reason 3 is given no more" (R236, R237).
use Rattle.std.specs.Prelude.{ℕ, ◌≡◌, cond, List, [], ◌∷◌, eqb}
use Rattle.plan.specs.declared.data.Plan.{Plan}
use Rattle.node.specs.Memory.{Result}
use Rattle.promise_runs.specs.Run.{Call}
use Rattle.promise_ledger.specs.Reported.{Report}
use Rattle.promise_accounts.specs.Gone.{told_by}
use Rattle.promise_changeover.specs.ChangedOver.{WithoutNumber, Brings}

-- the arrival numbers of the drops for a reason among some reports, in order
unfoldable pub dropped_with : ℕ → List Report → List ℕ
dropped_with reason [] = []
dropped_with reason (told ∷ later) = cond (eqb told.kind reason) (told.number ∷ dropped_with reason later) (dropped_with reason later)

-- of a call that gives `r`
pub record Reasons (plan : Plan) (call : Call) (r : Result) : Type 0 where
  -- "reason 3 is given no more" (R237)
  pub never_3 : dropped_with 3 (told_by r) ≡ []
  -- "reason 2 remains only for ECO and ECA" (R236): where some message is dropped for it, the call brings one of them
  pub only_without_number : ((link : ℕ) → Brings plan call link WithoutNumber → ⊥) → dropped_with 2 (told_by r) ≡ []
