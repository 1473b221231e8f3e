-- The rule yields a link exactly if the destination is accessible. Assumes nothing.
use mathlib.Core.Path.{◌≡◌, refl}
use mathlib.Core.Bool.{Bool}
use mathlib.Core.List.{List, [], ◌∷◌}
use Prim.Native.Nat.{ℕ, ◌+◌}
use lib.Dec.{ltb}
use borrow.Table.Steps.{cases}
use Rattle.plan.specs.declared.data.Plan.{Plan}
use Rattle.plan.specs.declared.data.Route.{Route}
use Rattle.plan.specs.Data.{routes_of}
use Rattle.route_choice.specs.Which.{none, Proper, usable, link_from, chosen, accessible_from, accessible}
use Rattle.route_choice.proofs.Ranks.{usable_link}

module _ (serves marked : ℕ → Bool) (plan : Plan) (proper : Proper serves) (sls : ℕ) where
  accessible_from_lem : (rank : ℕ) (routes : List Route)
      → ltb (link_from serves marked plan sls rank routes) none ≡ accessible_from serves marked plan rank routes
  unfolding link_from accessible_from
  accessible_from_lem rank [] = refl
  accessible_from_lem rank (route ∷ worse) =
      cases (usable serves marked plan rank route)
      (λ e. simp e (usable_link serves marked plan proper rank route sls e))
      (λ e. simp e (accessible_from_lem (rank + 1) worse))

  -- "is inaccessible exactly if there is none"
  pub accessible_exactly : (destination : ℕ)
      → ltb (chosen serves marked plan destination sls) none ≡ accessible serves marked plan destination
  accessible_exactly destination = accessible_from_lem 0 (routes_of plan destination)
