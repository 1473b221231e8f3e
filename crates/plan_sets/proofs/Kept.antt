-- A node line and a set line put into a sound plan leave a sound plan, and a refused one the plan as it was. Assumes nothing.
use mathlib.Core.Path.{refl}
use mathlib.Core.Bool.{◌||◌}
use mathlib.Core.List.{List}
use Prim.Native.Nat.{ℕ, ◌≤◌, ◌<◌}
use native.Mathlib.Omega.{arith}
use lib.Dec.{ltb, eqb}
use lib.ListN.{set}
use borrow.Author.Tests.{ltb-false}
use Rattle.plan.specs.declared.data.Plan.{Plan}
use Rattle.plan.specs.declared.data.Link.{Link}
use Rattle.plan.specs.declared.data.LinkSet.{LinkSet}
use Rattle.plan.specs.Data.{set_at}
use Rattle.plan.specs.Sound.{Sound}
use Rattle.plan_repeats.specs.Taken.{adjacent_taken}
use Rattle.plan_building.specs.Building.{Kept}
use Rattle.plan_sets.specs.SetLines.{new_set, add_node, add_set}
use Rattle.plan.proofs.Sound.{Linked, holds_none, sound_of, linked, listed}
use Rattle.plan.proofs.Split.{both_false}
use Rattle.plan_building.proofs.SetKept.{set_linked}
use Rattle.plan_building.proofs.Kept.{choose, refuse, accept}
use Rattle.plan_building.specs.declared.Fault.TheVariants.{OutOfRange, Repeat}

-- a set without links
pub new_set_linked : (sets : List LinkSet) (links : List Link) (number adjacent : ℕ) → Linked sets links → number < 8
    → Linked (set sets number (new_set adjacent)) links
new_set_linked sets links number adjacent linked inside =
    set_linked sets links links number (new_set adjacent) linked inside refl linked.all_links (holds_none links number) linked.holds

module _ (plan : Plan) (sound : Sound plan) where
  pub node_kept : (code ni : ℕ) → Kept plan (add_node plan code ni)
  node_kept code ni =
      choose plan (ltb 16383 code || ltb 3 ni) _ _ (λ e. refuse plan sound OutOfRange)
      (λ e. choose plan plan.given _ _ (λ f. refuse plan sound Repeat)
      (λ f. accept plan _ (sound_of _ (linked plan sound) (listed plan sound))))

  pub set_kept : (number adjacent : ℕ) → Kept plan (add_set plan number adjacent)
  set_kept number adjacent =
      choose plan (ltb 7 number || ltb 16383 adjacent) _ _ (λ e. refuse plan sound OutOfRange)
      (λ e.
      let within : number ≤ 7 = ltb-false 7 number (both_false (ltb 7 number) (ltb 16383 adjacent) e).0 in
      choose plan ((set_at plan number).given || (adjacent_taken plan.sets adjacent || eqb adjacent plan.code)) _ _ (λ f. refuse plan sound Repeat)
      (λ f. accept plan _ (sound_of _ (new_set_linked plan.sets plan.links number adjacent (linked plan sound) (omega arith)) (listed plan sound))))
