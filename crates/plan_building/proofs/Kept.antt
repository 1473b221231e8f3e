-- An outcome of a statement leaves a sound plan: by each of its tests, where it is refused, and where it is put in. Assumes nothing.
use mathlib.Core.Path.{◌≡◌, refl}
use mathlib.Core.Bool.{Bool, true, false, cond}
use Rattle.std.specs.Prelude.{Result, Ok, Err}
use Rattle.plan.specs.declared.data.Plan.{Plan}
use Rattle.plan_building.specs.declared.Fault.{Fault}
use Rattle.plan.specs.Sound.{Sound}
use Rattle.plan_building.specs.Building.{Kept}

module _ (plan : Plan) where
  -- of two outcomes that each leave a sound plan, the one that a test picks does
  pub choose : (test : Bool) (first second : Result Plan Fault) → (test ≡ true → Kept plan first) → (test ≡ false → Kept plan second) → Kept plan (cond test first second)
  choose true first second told passed = told refl
  choose false first second told passed = passed refl

  -- a fault told, and the plan as it was
  pub refuse : Sound plan → (fault : Fault) → Kept plan (Err fault)
  refuse sound fault = record { still_sound = sound; as_it_was = λ told. refl }

  -- a statement put in
  pub accept : (next : Plan) → Sound next → Kept plan (Ok next)
  accept next still = record { still_sound = still; as_it_was = λ told. absurd (told refl) }
