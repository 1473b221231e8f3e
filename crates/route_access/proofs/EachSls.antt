-- A destination is accessible exactly if the rule yields it a link, and that for one SLS as for each.
-- Assumes nothing.
use mathlib.Core.Path.{◌≡◌, sym, ◌∙◌}
use mathlib.Core.List.{List}
use Prim.Native.Nat.{ℕ}
use lib.Dec.{ltb}
use Rattle.plan.specs.declared.data.Plan.{Plan}
use Rattle.route_serving.specs.State.{serves, is_marked}
use Rattle.route_choice.specs.Which.{none, accessible}
use Rattle.route_choice.proofs.Access.{accessible_exactly}
use Rattle.route_serving.proofs.Proper.{serves_proper}
use Rattle.route_ways.specs.Way.{for_users, link_for, current_link}
use Rattle.route_access.specs.Change.{is_accessible}

module _ (plan : Plan) (links marks : List ℕ) (d : ℕ) where
  -- the rule yields a link, for an SLS whichever it is
  some_link : (sls : ℕ) → ltb (current_link plan links marks d sls) none
      ≡ accessible (serves links for_users) (is_marked marks d) plan d
  unfolding link_for
  some_link sls =
      accessible_exactly (serves links for_users) (is_marked marks d) plan (serves_proper links for_users) sls d

  -- "is inaccessible exactly if there is none"
  pub accessible_is : is_accessible plan links marks d ≡ accessible (serves links for_users) (is_marked marks d) plan d
  unfolding is_accessible
  accessible_is = some_link 0

  pub each_sls : (sls : ℕ) → is_accessible plan links marks d ≡ ltb (current_link plan links marks d sls) none
  each_sls sls = accessible_is ∙ sym (some_link sls)
