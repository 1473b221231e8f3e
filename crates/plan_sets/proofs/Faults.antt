-- When each fault of a set line is told, and when the set is put into the plan: the tests in their order. Assumes nothing.
use mathlib.Core.Path.{◌≡◌}
use mathlib.Core.Bool.{true, false}
use mathlib.Core.Logic.{◌⊎◌}
use Prim.Native.Nat.{ℕ}
use lib.Dec.{eqb, ltb}
use lib.ListN.{set}
use Rattle.plan.specs.declared.data.Plan.{Plan}
use Rattle.plan.specs.Data.{set_at}
use Rattle.plan_repeats.specs.Taken.{adjacent_taken}
use Rattle.plan_sets.specs.SetLines.{add_set, new_set, with_sets}
use Rattle.plan_building.proofs.Tests.{either, neither, one_of, none_of}
use Rattle.plan_building.specs.declared.Fault.TheVariants.{OutOfRange, Repeat}
use Rattle.std.specs.Prelude.{Ok, Err}

-- `set number adjacent`
module _ (plan : Plan) (number adjacent : ℕ) where
  pub set_out : (ltb 7 number ≡ true) ⊎ (ltb 16383 adjacent ≡ true) → Err OutOfRange ≡ add_set plan number adjacent
  set_out out = simp (either (ltb 7 number) (ltb 16383 adjacent) out)

  module _ (within : (ltb 7 number ≡ false) × (ltb 16383 adjacent ≡ false)) where
    pub set_repeats : ((set_at plan number).given ≡ true) ⊎ ((adjacent_taken plan.sets adjacent ≡ true) ⊎ (eqb adjacent plan.code ≡ true))
        → Err Repeat ≡ add_set plan number adjacent
    set_repeats repeats =
        simp (
          neither (ltb 7 number) (ltb 16383 adjacent) within,
          one_of (set_at plan number).given (adjacent_taken plan.sets adjacent) (eqb adjacent plan.code) repeats,
        )

    pub set_added : ((set_at plan number).given ≡ false) × ((adjacent_taken plan.sets adjacent ≡ false) × (eqb adjacent plan.code ≡ false))
        → Ok (with_sets plan (set plan.sets number (new_set adjacent))) ≡ add_set plan number adjacent
    set_added fresh =
        simp (
          neither (ltb 7 number) (ltb 16383 adjacent) within,
          none_of (set_at plan number).given (adjacent_taken plan.sets adjacent) (eqb adjacent plan.code) fresh,
        )
