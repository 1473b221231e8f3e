-- Facts on the links that a route has to go round. Assumes nothing.
use mathlib.Core.Path.{◌≡◌}
use mathlib.Core.Bool.{Bool, false, not, ◌&&◌}
use mathlib.Core.List.{[]}
use Prim.Native.Nat.{◌≤◌}
use native.Mathlib.Omega.{arith}
use lib.Dec.{ltb}
use lib.ListN.{length, get_or-eq_default}
use borrow.Author.Tests.{ltb-false}
use borrow.Table.Steps.{cases}
use Rattle.plan.specs.Data.{absent_set, links_of}
use Rattle.plan.specs.declared.data.LinkSet.{LinkSet}
use Rattle.plan.specs.declared.data.Plan.{Plan}
use Rattle.plan.specs.declared.data.Route.{Route}
use Rattle.route_choice.specs.Which.{set_for, in_turn}

module _ (plan : Plan) (route : Route) (prohibited : Bool) where
  -- past the last set there are no links
  pub no_set : length plan.sets ≤ route.set → in_turn plan route prohibited ≡ []
  no_set past =
      let empty : LinkSet = record { given = false; adjacent = 0; count = 0; links = [] } in
      cases (route.given && not prohibited)
      (λ e. simp (e, get_or-eq_default plan.sets empty {n = route.set} past))
      (λ e. simp e)

  -- the links of the set that is named for a route are those it has to go round
  pub set_links : length plan.sets ≡ 8 → links_of plan (set_for route prohibited) ≡ in_turn plan route prohibited
  set_links eight =
      let none = get_or-eq_default plan.sets absent_set {n = 8} (omega arith) in
      cases route.given
      (λ g.
      cases prohibited
      (λ p. simp (g, p, none))
      (λ p.
      cases (ltb route.set 8)
      (λ l. simp (g, p, l))
      (λ l. simp (g, p, l, none, get_or-eq_default plan.sets absent_set {n = route.set} (omega (arith, ltb-false route.set 8 l))))))
      (λ g. simp (g, none))
