-- A route line put into a sound plan leaves a sound plan, and a refused one the plan as it was. Assumes nothing.
use mathlib.Core.Path.{◌≡◌, sym, subst, ◌∙◌}
use mathlib.Core.Bool.{true, false, not, ◌||◌, false≢true}
use Prim.Native.Nat.{ℕ, ◌+◌, ◌<◌}
use native.Mathlib.Omega.{arith}
use lib.Dec.{ltb, leb, eqb}
use lib.ListN.{replicate, length-set}
use borrow.Author.Tests.{leb-false}
use Rattle.plan.specs.declared.data.Plan.{Plan}
use Rattle.plan.specs.declared.data.Route.{Route}
use Rattle.plan.specs.Data.{absent_route, set_at, routes_of}
use Rattle.plan.specs.Find.{given, place_of, is_found}
use Rattle.plan.specs.Sound.{Sound}
use Rattle.plan_building.specs.Building.{Kept}
use Rattle.plan_routes.specs.RouteLines.{route_taken, with_route, known_route, new_route, add_route}
use Rattle.plan.proofs.Found.{parted, found_stands, stands_found}
use Rattle.plan.proofs.Sound.{Listed, sound_of, linked, listed}
use Rattle.plan_building.proofs.Kept.{choose, refuse, accept}
use Rattle.plan_routes.proofs.DestinationKept.{known_listed, new_listed}
use Rattle.plan_building.specs.declared.Fault.TheVariants.{OutOfRange, Repeat, NotGiven, Full}

module _ (plan : Plan) (sound : Sound plan) (destination those rank : ℕ) where
  abbrev place : ℕ
  place = place_of plan destination

  -- a route more of a destination that is found
  known_sound : is_found plan destination ≡ true → Sound (known_route plan place destination those rank)
  known_sound found =
      let stands = found_stands plan sound destination found in
      let inside : place < 64 = omega (arith, stands.within) in
      let route : Route = record { given = true; set = those } in
      sound_of _ (linked plan sound)
      (known_listed (given plan) plan.destinations place (record { code = destination; routes = with_route (routes_of plan place) those rank }) (listed plan sound)
      (length-set (routes_of plan place) rank route ∙ sound.four_ranks place inside)
      inside
      stands.has_code)

  -- the first route of one that isn't
  new_sound : is_found plan destination ≡ false → plan.count < 64 → Sound (new_route plan place destination those rank)
  new_sound missing room =
      let route : Route = record { given = true; set = those } in
      let one_more : given plan + 1 ≡ given (new_route plan place destination those rank) = omega arith in
      sound_of _ (linked plan sound)
      (subst (λ (n : ℕ). Listed n (new_route plan place destination those rank).destinations) one_more
      (new_listed (given plan) plan.destinations place (record { code = destination; routes = with_route (replicate 4 absent_route) those rank }) (listed plan sound)
      (length-set (replicate 4 absent_route) rank route)
      (omega arith)
      (parted plan sound destination)
      (λ i h same. false≢true (sym missing ∙ (stands_found plan sound destination i (record { within = h; has_code = same })).0))))

  pub route_kept : Kept plan (add_route plan destination those rank)
  route_kept =
      choose plan (ltb 16383 destination || (ltb 7 those || ltb 3 rank)) _ _ (λ e. refuse plan sound OutOfRange)
      (λ e. choose plan (not (set_at plan those).given) _ _ (λ f. refuse plan sound NotGiven)
      (λ f. choose plan (eqb destination plan.code) _ _ (λ g. refuse plan sound Repeat)
      (λ g. choose plan (is_found plan destination) _ _
      (λ found. choose plan (route_taken (routes_of plan place) those rank) _ _ (λ taken. refuse plan sound Repeat) (λ free. accept plan _ (known_sound found)))
      (λ missing. choose plan (leb 64 plan.count) _ _ (λ full. refuse plan sound Full)
      (λ room. accept plan _ (new_sound missing (leb-false 64 plan.count room)))))))
