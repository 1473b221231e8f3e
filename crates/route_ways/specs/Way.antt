-- The way of a message to a point: the link that the rule gives it.
use Rattle.std.specs.Prelude.{ℕ, true, false, cond, List}
use Rattle.plan.specs.declared.data.Plan.{Plan}
use Rattle.plan.specs.Find.{place_of, is_found}
use Rattle.route_serving.specs.declared.Need.{Need}
use Rattle.route_ways.specs.declared.Direction.{Direction}
use Rattle.route_serving.specs.State.{serves, is_marked}
use Rattle.route_choice.specs.Which.{none, chosen}

-- user messages need a carrying link, whichever it is
abbrev pub for_users : Need
for_users = record { «open» = false; never = none }

-- "management messages the node makes use open links only" (R84); the answer of a changeover "never uses this link" (R132)
abbrev pub for_management : ℕ → Need
for_management never = record { «open» = true; never = never }

-- the link of a destination for an SLS, where a link must be what the message needs
unfoldable pub link_for : Plan → List ℕ → List ℕ → Need → ℕ → ℕ → ℕ
link_for plan links marks need destination sls = chosen (serves links need) (is_marked marks destination) plan destination sls

-- "by the same rule for their DPC" (R85): the link to a point, none where it isn't configured
unfoldable pub way_of : Plan → List ℕ → List ℕ → Need → ℕ → ℕ → ℕ
way_of plan links marks need point sls =
    cond (is_found plan point) (link_for plan links marks need (place_of plan point) sls) none

-- with the place of the point among the destinations
abbrev pub direction_of : Plan → List ℕ → List ℕ → Need → ℕ → ℕ → Direction
direction_of plan links marks need point sls =
    record { link = way_of plan links marks need point sls; place = place_of plan point }

-- the current link of a pair (destination, SLS)
abbrev pub current_link : Plan → List ℕ → List ℕ → ℕ → ℕ → ℕ
current_link plan links marks destination sls = link_for plan links marks for_users destination sls
