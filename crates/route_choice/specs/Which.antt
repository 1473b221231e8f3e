-- "Which link": the rule, over a test on links that says which of them serve.
use Rattle.std.specs.Prelude.{Bool, false, cond, not, ◌&&◌, ◌||◌, List, [], ◌∷◌, ℕ, ◌+◌, ltb}
use Rattle.plan.specs.declared.data.Plan.{Plan}
use Rattle.plan.specs.declared.data.LinkSet.{LinkSet}
use Rattle.plan.specs.declared.data.Route.{Route}
use Rattle.plan.specs.Data.{links_of, routes_of}
-- the walking rule round a set
pub use Rattle.route_round.specs.Round.{none, Proper, going_round, link_of_set}
unfoldable pub use Rattle.route_round.specs.Round.{first_serving, some_serves}

-- a plan of which only the sets are asked for
abbrev pub of_sets : List LinkSet → Plan
of_sets sets = record { given = false; code = 0; ni = 0; count = 0; sets = sets; links = []; destinations = [] }

-- the set of a route, 8 where there is none, it is marked prohibited, or its set is none of the eight
abbrev pub set_for : Route → Bool → ℕ
set_for route prohibited = cond (route.given && (not prohibited && ltb route.set 8)) route.set 8

-- the links that a route has to go round: those of its set, and none where there is no route or it is marked prohibited
abbrev pub in_turn : Plan → Route → Bool → List ℕ
in_turn plan route prohibited = cond (route.given && not prohibited) (links_of plan route.set) []

-- "A route is usable if its set has a carrying link and it isn't marked prohibited." (R79, R80)
abbrev pub usable : (ℕ → Bool) → (ℕ → Bool) → Plan → ℕ → Route → Bool
usable serves marked plan rank route =
    route.given && (not (marked rank) && some_serves serves (links_of plan route.set))

-- "A destination uses its usable route of best rank" (R81): the link for an SLS, over the routes from a rank on (R142, R202, R233)
unfoldable pub link_from : (ℕ → Bool) → (ℕ → Bool) → Plan → ℕ → ℕ → List Route → ℕ
link_from serves marked plan sls rank [] = none
link_from serves marked plan sls rank (route ∷ worse) =
    cond (usable serves marked plan rank route)
    (link_of_set serves (links_of plan route.set) sls)
    (link_from serves marked plan sls (rank + 1) worse)

-- the link of a pair (destination, SLS) (R13)
abbrev pub chosen : (ℕ → Bool) → (ℕ → Bool) → Plan → ℕ → ℕ → ℕ
chosen serves marked plan destination sls = link_from serves marked plan sls 0 (routes_of plan destination)

-- "is inaccessible exactly if there is none" (R82)
unfoldable pub accessible_from : (ℕ → Bool) → (ℕ → Bool) → Plan → ℕ → List Route → Bool
accessible_from serves marked plan rank [] = false
accessible_from serves marked plan rank (route ∷ worse) =
    usable serves marked plan rank route || accessible_from serves marked plan (rank + 1) worse

abbrev pub accessible : (ℕ → Bool) → (ℕ → Bool) → Plan → ℕ → Bool
accessible serves marked plan destination = accessible_from serves marked plan 0 (routes_of plan destination)
