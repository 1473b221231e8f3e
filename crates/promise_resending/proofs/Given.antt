-- The drops for a reason among what a call tells: those given for it, and none of what is given for another, or of changes of access.
-- Assumes nothing.
use mathlib.Core.Path.{◌≡◌, refl, ap₂, ◌∙◌}
use mathlib.Core.Bool.{Bool, not, ◌&&◌}
use mathlib.Core.List.{List, [], ◌∷◌, ◌++◌, map}
use Prim.Native.Nat.{ℕ, zero, suc, ◌+◌, ◌<◌}
use native.Mathlib.Omega.{arith}
use lib.Dec.{eqb}
use borrow.Author.Tests.{eq-eqb, ne_eqb}
use borrow.Table.Steps.{cases}
use Rattle.plan.specs.declared.data.Plan.{Plan}
use Rattle.route_access.specs.Change.{code_of}
use Rattle.promise_ledger.specs.Reported.{Report, report}
use Rattle.promise_leaving.specs.Going.{change, changes}
use Rattle.promise_resending.specs.Reasons.{dropped_with}

module _ (reason : ℕ) where
  pub dropped_append : (one two : List Report) → dropped_with reason (one ++ two) ≡ dropped_with reason one ++ dropped_with reason two
  unfolding dropped_with
  dropped_append [] two = refl
  dropped_append (told ∷ later) two =
      cases (eqb told.kind reason) (λ e. simp (e, dropped_append later two)) (λ e. simp (e, dropped_append later two))

  -- those given for the reason
  pub dropped_own : (numbers : List ℕ) → dropped_with reason (map (report reason) numbers) ≡ numbers
  unfolding dropped_with
  dropped_own [] = refl
  dropped_own (number ∷ later) = simp (eq-eqb reason reason refl, dropped_own later)

  -- and for another
  pub dropped_other : (other : ℕ) → (other ≡ reason → ⊥) → (number_of : ℕ → ℕ) (all : List ℕ)
      → dropped_with reason (map (λ (one : ℕ). report other (number_of one)) all) ≡ []
  unfolding dropped_with
  dropped_other other differ number_of [] = refl
  dropped_other other differ number_of (one ∷ later) = simp (ne_eqb other reason differ, dropped_other other differ number_of later)

  -- a pause or resume is no drop
  module _ (low : reason < 4) where
    change_none : (before after : Bool) (code : ℕ) → dropped_with reason (change before after code) ≡ []
    unfolding dropped_with
    change_none before after code =
        let paused = ne_eqb 4 reason (λ e. omega (arith, e)) in
        let resumed = ne_eqb 5 reason (λ e. omega (arith, e)) in
        cases (before && not after) (λ e. simp (e, paused))
        (λ e. cases (after && not before) (λ o. simp (e, o, resumed)) (λ o. simp (e, o)))

    pub changes_none : (plan : Plan) (before after : ℕ → Bool) (destination count : ℕ)
        → dropped_with reason (changes plan before after destination count) ≡ []
    unfolding changes dropped_with
    changes_none plan before after destination zero = refl
    changes_none plan before after destination (suc more) =
        dropped_append (change (before destination) (after destination) (code_of plan destination))
        (changes plan before after (destination + 1) more)
        ∙ ap₂ (λ (one two : List ℕ). one ++ two) (change_none (before destination) (after destination) (code_of plan destination))
        (changes_none plan before after (destination + 1) more)
