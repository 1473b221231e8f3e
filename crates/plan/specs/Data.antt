-- What stands in a plan: sets, links and destinations by their numbers, and what stands where nothing is given.
use Rattle.std.specs.Prelude.{ℕ, false, List, [], get_or, take, replicate}
use Rattle.plan.specs.declared.data.Plan.{Plan}
use Rattle.plan.specs.declared.data.LinkSet.{LinkSet}
use Rattle.plan.specs.declared.data.Link.{Link}
use Rattle.plan.specs.declared.data.Route.{Route}
use Rattle.plan.specs.declared.data.Destination.{Destination}

-- what stands past the end of a table: nothing given
abbrev pub absent_set : LinkSet
absent_set = record { given = false; adjacent = 0; count = 0; links = [] }

abbrev pub absent_link : Link
absent_link = record { given = false; set = 0; slc = 0 }

abbrev pub absent_route : Route
absent_route = record { given = false; set = 0 }

abbrev pub absent_destination : Destination
absent_destination = record { code = 0; routes = [] }

abbrev pub set_at : Plan → ℕ → LinkSet
set_at plan number = get_or plan.sets number absent_set

abbrev pub link_at : Plan → ℕ → Link
link_at plan number = get_or plan.links number absent_link

abbrev pub destination_at : Plan → ℕ → Destination
destination_at plan place = get_or plan.destinations place absent_destination

-- "Links of a set stand in SLC order." (R76)
abbrev pub links_of : Plan → ℕ → List ℕ
links_of plan set = take (set_at plan set).count (set_at plan set).links

-- the routes of a destination, the best rank first (R13)
abbrev pub routes_of : Plan → ℕ → List Route
routes_of plan destination = (destination_at plan destination).routes

-- a set, and a destination, that isn't given
abbrev pub empty_set : LinkSet
empty_set = record { given = false; adjacent = 0; count = 0; links = replicate 8 0 }

abbrev pub empty_destination : Destination
empty_destination = record { code = 0; routes = replicate 4 absent_route }

-- the plan with nothing in it, and no node
abbrev pub empty_plan : Plan
empty_plan =
    record {
      given = false;
      code = 0;
      ni = 0;
      count = 0;
      sets = replicate 8 empty_set;
      links = replicate 32 absent_link;
      destinations = replicate 64 empty_destination;
    }
