-- What holds of the plan that a statement leaves: by each of its tests, where it is refused, and where it is put in; and so of the plan of
-- every text. Assumes nothing.
use mathlib.Core.Path.{◌≡◌, refl}
use mathlib.Core.Bool.{Bool, true, false, cond}
use mathlib.Core.List.{List}
use Prim.Native.Nat.{ℕ}
use Rattle.plan.specs.declared.data.Plan.{Plan}
use Rattle.plan.specs.Data.{empty_plan}
use Rattle.plan.specs.Sound.{Sound}
use Rattle.plan.proofs.Sound.{empty_sound}
use Rattle.plan_building.specs.Building.{plan_after}
use Rattle.plan_keywords.specs.declared.Word.{Word}
use Rattle.plan_configuration.specs.Configure.{is_node, add_by, add_line, configured}
use Rattle.plan_configuration.proofs.Made.{added_sound}
use Rattle.plan_faults.proofs.EachLine.{each_line, each_text}
use Rattle.plan_building.specs.declared.Fault.{Fault}
use Rattle.std.specs.Prelude.{Some, Result, Ok, Err}

pub record Leaves (P : Plan → Type 0) (plan : Plan) (added : Result Plan Fault) : Type 0 where
  pub left : P (plan_after plan added)

module _ (P : Plan → Type 0) (plan : Plan) where
  pub choose : (test : Bool) (a b : Result Plan Fault) → (test ≡ true → Leaves P plan a) → (test ≡ false → Leaves P plan b) → Leaves P plan (cond test a b)
  choose true a b told passed = told refl
  choose false a b told passed = passed refl

  pub refuse : P plan → (fault : Fault) → Leaves P plan (Err fault)
  refuse kept fault = record { left = kept }

  pub put_in : (next : Plan) → P next → Leaves P plan (Ok next)
  put_in next kept = record { left = kept }

-- the plan of some lines is sound, and has what each statement keeps
record Made (P : Plan → Type 0) (plan : Plan) : Type 0 where
  sound : Sound plan
  kept : P plan

-- what holds of the empty plan, and of a sound plan with a statement more, holds of the plan of every text
module _ (P : Plan → Type 0) (empty : P empty_plan)
    (adds : (plan : Plan) → Sound plan → P plan → (word : Word) → (is_node (Some word) ≡ false → plan.given ≡ true) → (a b c : ℕ) → Leaves P plan (add_by word plan a b c)) where
  line_more : (plan : Plan) → Made P plan → (line : List ℕ) (ended : Bool) → Made P (plan_after plan (add_line plan line ended))
  line_more plan so_far line ended =
      each_line (λ added. Made P (plan_after plan added)) plan (λ fault. so_far)
      (λ word has a b c.
      record {
        sound = (added_sound plan so_far.sound (record { word = word; first = a; second = b; third = c })).still_sound;
        kept = (adds plan so_far.sound so_far.kept word has a b c).left;
      })
      line
      ended

  pub each_made : (text : List ℕ) → P (configured text).plan
  each_made text = (each_text (Made P) (record { sound = empty_sound; kept = empty }) line_more text).kept
