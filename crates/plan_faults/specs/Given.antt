-- What a line can repeat, name or find full: what the lines above it have given.
use Rattle.std.specs.Prelude.{ℕ, Bool, not, ◌&&◌, List, length, get_or, take, eqb, leb}
use Rattle.plan.specs.declared.data.Plan.{Plan}
use Rattle.plan.specs.declared.data.Destination.{Destination}
use Rattle.plan.specs.Data.{absent_route, set_at, link_at, links_of}
use Rattle.plan.specs.Find.{given}
use Rattle.plan_repeats.specs.Search.{one}
use Rattle.plan_repeats.specs.Taken.{adjacent_taken, slc_taken, set_taken}

-- a node line is given
abbrev pub node_given : Plan → Bool
node_given plan = plan.given

-- the code is our own
abbrev pub is_ours : Plan → ℕ → Bool
is_ours plan code = eqb code plan.code

-- a set with that number is given
abbrev pub set_given : Plan → ℕ → Bool
set_given plan number = (set_at plan number).given

-- one of the given sets has that adjacent code
abbrev pub adjacent_given : Plan → ℕ → Bool
adjacent_given plan adjacent = adjacent_taken plan.sets adjacent

-- a link with that number is given
abbrev pub link_given : Plan → ℕ → Bool
link_given plan number = (link_at plan number).given

-- one of the set's links has that SLC
abbrev pub slc_given : Plan → ℕ → ℕ → Bool
slc_given plan those slc = slc_taken plan (links_of plan those) slc

-- the set has eight links
abbrev pub set_full : Plan → ℕ → Bool
set_full plan those = leb 8 (length (links_of plan those))

-- the destinations that are given
abbrev pub destinations_of : Plan → List Destination
destinations_of plan = take (given plan) plan.destinations

-- one of them has that code
abbrev pub destination_given : Plan → ℕ → Bool
destination_given plan code = one (λ (d : Destination). eqb d.code code) (destinations_of plan)

-- the one with that code has a route by that set
abbrev pub route_by_set : Plan → ℕ → ℕ → Bool
route_by_set plan code those = one (λ (d : Destination). eqb d.code code && set_taken d.routes those) (destinations_of plan)

-- the one with that code has a route of that rank
abbrev pub route_of_rank : Plan → ℕ → ℕ → Bool
route_of_rank plan code rank = one (λ (d : Destination). eqb d.code code && (get_or d.routes rank absent_route).given) (destinations_of plan)

-- 64 destinations are given, and the code is that of none
abbrev pub destinations_full : Plan → ℕ → Bool
destinations_full plan code = not (destination_given plan code) && leb 64 (length (destinations_of plan))
