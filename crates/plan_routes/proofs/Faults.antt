-- When each fault of a route line is told, and when the route is put into the plan: the tests in their order. Assumes nothing.
use mathlib.Core.Path.{◌≡◌}
use mathlib.Core.Bool.{true, false, not}
use mathlib.Core.Logic.{◌⊎◌}
use Prim.Native.Nat.{ℕ}
use lib.Dec.{eqb, ltb, leb}
use lib.ListN.{get_or}
use Rattle.plan.specs.declared.data.Plan.{Plan}
use Rattle.plan.specs.Data.{absent_route, set_at, routes_of}
use Rattle.plan.specs.Find.{place_of, is_found}
use Rattle.plan_repeats.specs.Taken.{set_taken}
use Rattle.plan_routes.specs.RouteLines.{add_known, add_route, known_route, new_route}
use Rattle.plan_building.proofs.Tests.{either, neither, one_of, none_of}
use Rattle.plan_building.specs.declared.Fault.TheVariants.{OutOfRange, Repeat, NotGiven, Full}
use Rattle.std.specs.Prelude.{Ok, Err}

-- a route of a destination that is given
module _ (plan : Plan) (place destination those rank : ℕ) where
  pub known_repeats : (set_taken (routes_of plan place) those ≡ true) ⊎ ((get_or (routes_of plan place) rank absent_route).given ≡ true)
      → Err Repeat ≡ add_known plan place destination those rank
  known_repeats repeats = simp (either (set_taken (routes_of plan place) those) (get_or (routes_of plan place) rank absent_route).given repeats)

  pub known_added : (set_taken (routes_of plan place) those ≡ false) × ((get_or (routes_of plan place) rank absent_route).given ≡ false)
      → Ok (known_route plan place destination those rank) ≡ add_known plan place destination those rank
  known_added fresh = simp (neither (set_taken (routes_of plan place) those) (get_or (routes_of plan place) rank absent_route).given fresh)

-- `route destination set rank`
module _ (plan : Plan) (destination those rank : ℕ) where
  pub route_out : (ltb 16383 destination ≡ true) ⊎ ((ltb 7 those ≡ true) ⊎ (ltb 3 rank ≡ true)) → Err OutOfRange ≡ add_route plan destination those rank
  route_out out = simp (one_of (ltb 16383 destination) (ltb 7 those) (ltb 3 rank) out)

  module _ (within : (ltb 16383 destination ≡ false) × ((ltb 7 those ≡ false) × (ltb 3 rank ≡ false))) where
    pub route_unknown : not (set_at plan those).given ≡ true → Err NotGiven ≡ add_route plan destination those rank
    route_unknown e = simp (none_of (ltb 16383 destination) (ltb 7 those) (ltb 3 rank) within, e)

    module _ (known : not (set_at plan those).given ≡ false) where
      pub route_own : eqb destination plan.code ≡ true → Err Repeat ≡ add_route plan destination those rank
      route_own own = simp (none_of (ltb 16383 destination) (ltb 7 those) (ltb 3 rank) within, known, own)

      module _ (other : eqb destination plan.code ≡ false) where
        pub route_more : is_found plan destination ≡ true
            → add_known plan (place_of plan destination) destination those rank ≡ add_route plan destination those rank
        route_more found = simp (none_of (ltb 16383 destination) (ltb 7 those) (ltb 3 rank) within, known, other, found)

        module _ (new : is_found plan destination ≡ false) where
          pub route_full : leb 64 plan.count ≡ true → Err Full ≡ add_route plan destination those rank
          route_full full = simp (none_of (ltb 16383 destination) (ltb 7 those) (ltb 3 rank) within, known, other, new, full)

          pub route_first : leb 64 plan.count ≡ false
              → Ok (new_route plan (place_of plan destination) destination those rank) ≡ add_route plan destination those rank
          route_first room = simp (none_of (ltb 16383 destination) (ltb 7 those) (ltb 3 rank) within, known, other, new, room)
