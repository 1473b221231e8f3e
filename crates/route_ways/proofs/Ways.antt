-- What the chooser says is the way to a point and the link of a destination. Assumes nothing.
use mathlib.Core.Path.{◌≡◌, ap, ◌∙◌}
use mathlib.Core.Bool.{Bool, true, false, cond}
use mathlib.Core.List.{List}
use Prim.Native.Nat.{ℕ}
use Rattle.std.specs.Prelude.{Ok, Err}
use Rattle.plan.specs.declared.data.Plan.{Plan}
use Rattle.plan.specs.Find.{place_of, is_found, found_of}
use Rattle.plan.proofs.Found.{found_ok, found_err}
use Rattle.route_serving.specs.declared.Need.{Need}
use Rattle.route_serving.specs.State.{serves, is_marked}
use Rattle.route_choice.specs.Which.{none, chosen}
use Rattle.route_ways.specs.declared.Direction.{Direction}
use Rattle.route_ways.specs.Way.{for_users, link_for, way_of, direction_of, current_link}

module _ (plan : Plan) (links marks : List ℕ) (need : Need) where
  -- what it says for what user messages need is the current link
  pub link_there : (destination sls link : ℕ) → need ≡ for_users
      → link ≡ chosen (serves links need) (is_marked marks destination) plan destination sls
      → link ≡ current_link plan links marks destination sls
  unfolding link_for
  link_there destination sls link users chose =
      chose ∙ ap (λ (n : Need). chosen (serves links n) (is_marked marks destination) plan destination sls) users

  module _ (point sls place : ℕ) where
    -- the way is that of the point's place, by what the search says
    by_search : (found : Bool) → is_found plan point ≡ found → place ≡ place_of plan point
        → ◌≡◌ {A = Direction} (record { link = cond found (link_for plan links marks need place sls) none; place = place })
        (direction_of plan links marks need point sls)
    unfolding way_of
    by_search found e is = simp (e, is)

    -- no given destination has the code
    pub no_way : Err place ≡ found_of plan point
        → ◌≡◌ {A = Direction} (record { link = none; place = place }) (direction_of plan links marks need point sls)
    no_way e = let said = found_err plan point place e in by_search false said.0 said.1

    -- one has it
    pub way_there : Ok place ≡ found_of plan point → (link : ℕ)
        → link ≡ chosen (serves links need) (is_marked marks place) plan place sls
        → ◌≡◌ {A = Direction} (record { link = link; place = place }) (direction_of plan links marks need point sls)
    unfolding link_for
    way_there e link chose =
        let said = found_ok plan point place e in
        ap (λ (l : ℕ). record { link = l; place = place }) chose ∙ by_search true said.0 said.1
