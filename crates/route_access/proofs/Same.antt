-- The report of changes depends on the access of the given destinations only, and of access that is as it was nothing is told.
-- Assumes nothing.
use mathlib.Core.Path.{◌≡◌, refl, ap, ◌∙◌}
use mathlib.Core.Bool.{Bool, true, false}
use Prim.Native.Nat.{ℕ, zero, suc, ◌+◌, ◌<◌}
use native.Mathlib.Omega.{arith}
use Rattle.plan.specs.declared.data.Plan.{Plan}
use Rattle.plan.specs.Find.{given}
use Rattle.reports.specs.Report.{Log}
use Rattle.route_access.specs.Change.{code_of, told_one, told_from, changes_told}

module _ (plan : Plan) (before before' after after' : ℕ → Bool) where
  -- the same for so many destinations from one on
  told_from_same : (d more : ℕ) (log : Log) → ((k : ℕ) → k < d + more → before k ≡ before' k)
      → ((k : ℕ) → k < d + more → after k ≡ after' k)
      → told_from plan before after d more log ≡ told_from plan before' after' d more log
  unfolding told_from
  told_from_same d zero log b a = refl
  told_from_same d (suc more) log b a =
      let code = code_of plan d in
      let this : told_one (before d) (after d) code log ≡ told_one (before' d) (after' d) code log =
      ap (λ (t : Bool). told_one t (after d) code log) (b d (omega arith))
      ∙ ap (λ (t : Bool). told_one (before' d) t code log) (a d (omega arith))
      in
      ap (λ (l : Log). told_from plan before after (d + 1) more l) this
      ∙ told_from_same (d + 1) more (told_one (before' d) (after' d) code log) (λ k h. b k (omega arith)) (λ k h. a k (omega arith))

pub told_same : (plan : Plan) (before before' after after' : ℕ → Bool) (log : Log)
    → ((d : ℕ) → d < given plan → before d ≡ before' d) → ((d : ℕ) → d < given plan → after d ≡ after' d)
    → changes_told plan before after log ≡ changes_told plan before' after' log
told_same plan before before' after after' log b a =
    told_from_same plan before before' after after' 0 (given plan) log (λ d h. b d (omega arith)) (λ d h. a d (omega arith))

-- of what is as it was nothing is told
unchanged_one : (access : Bool) (code : ℕ) (log : Log) → told_one access access code log ≡ log
unfolding told_one
unchanged_one true code log = refl
unchanged_one false code log = refl

unchanged_from : (plan : Plan) (before : ℕ → Bool) (d more : ℕ) (log : Log)
    → told_from plan before before d more log ≡ log
unfolding told_from
unchanged_from plan before d zero log = refl
unchanged_from plan before d (suc more) log =
    unchanged_from plan before (d + 1) more _ ∙ unchanged_one (before d) (code_of plan d) log

pub unchanged_told : (plan : Plan) (before : ℕ → Bool) (log : Log) → changes_told plan before before log ≡ log
unchanged_told plan before log = unchanged_from plan before 0 (given plan) log
