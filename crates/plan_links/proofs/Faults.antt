-- When each fault of a link line is told, and when the link is put into the plan: the tests in their order. Assumes nothing.
use mathlib.Core.Path.{◌≡◌}
use mathlib.Core.Bool.{true, false, not}
use mathlib.Core.Logic.{◌⊎◌}
use Prim.Native.Nat.{ℕ}
use lib.Dec.{ltb, leb}
use Rattle.plan.specs.declared.data.Plan.{Plan}
use Rattle.plan.specs.Data.{set_at, link_at, links_of}
use Rattle.plan_repeats.specs.Taken.{slc_taken}
use Rattle.plan_links.specs.LinkLines.{add_link, links_with, with_link}
use Rattle.plan_building.proofs.Tests.{either, neither, one_of, none_of}
use Rattle.plan_building.specs.declared.Fault.TheVariants.{OutOfRange, Repeat, NotGiven, Full}
use Rattle.std.specs.Prelude.{Ok, Err}

-- `link number set slc`
module _ (plan : Plan) (number those slc : ℕ) where
  pub link_out : (ltb 31 number ≡ true) ⊎ ((ltb 7 those ≡ true) ⊎ (ltb 15 slc ≡ true)) → Err OutOfRange ≡ add_link plan number those slc
  link_out out = simp (one_of (ltb 31 number) (ltb 7 those) (ltb 15 slc) out)

  module _ (within : (ltb 31 number ≡ false) × ((ltb 7 those ≡ false) × (ltb 15 slc ≡ false))) where
    pub link_unknown : not (set_at plan those).given ≡ true → Err NotGiven ≡ add_link plan number those slc
    link_unknown e = simp (none_of (ltb 31 number) (ltb 7 those) (ltb 15 slc) within, e)

    module _ (known : not (set_at plan those).given ≡ false) where
      pub link_repeats : ((link_at plan number).given ≡ true) ⊎ (slc_taken plan (links_of plan those) slc ≡ true)
          → Err Repeat ≡ add_link plan number those slc
      link_repeats repeats =
          simp (
            none_of (ltb 31 number) (ltb 7 those) (ltb 15 slc) within,
            known,
            either (link_at plan number).given (slc_taken plan (links_of plan those) slc) repeats,
          )

      module _ (fresh : ((link_at plan number).given ≡ false) × (slc_taken plan (links_of plan those) slc ≡ false)) where
        pub link_full : leb 8 (set_at plan those).count ≡ true → Err Full ≡ add_link plan number those slc
        link_full full =
            simp (
              none_of (ltb 31 number) (ltb 7 those) (ltb 15 slc) within,
              known,
              neither (link_at plan number).given (slc_taken plan (links_of plan those) slc) fresh,
              full,
            )

        pub link_added : leb 8 (set_at plan those).count ≡ false
            → Ok (with_link plan number those slc (links_with plan number those slc)) ≡ add_link plan number those slc
        link_added room =
            simp (
              none_of (ltb 31 number) (ltb 7 those) (ltb 15 slc) within,
              known,
              neither (link_at plan number).given (slc_taken plan (links_of plan those) slc) fresh,
              room,
            )
