-- What a plan has so that its words say it again, as every plan by value does: tables of their sizes, and octets where octets are read.
use Rattle.std.specs.Prelude.{ℕ, ◌<◌, ◌≡◌, length, get_or}
use Rattle.plan.specs.declared.data.Plan.{Plan}
use Rattle.plan.specs.declared.data.LinkSet.{LinkSet}
use Rattle.plan.specs.declared.data.Link.{Link}
use Rattle.plan.specs.declared.data.Destination.{Destination}
use Rattle.plan.specs.Data.{absent_route, set_at, link_at, destination_at}

-- a set: places for eight links, its count and each of its links an octet
pub record SetFits (set : LinkSet) : Type 0 where
  pub octet : set.count < 256
  pub eight : length set.links ≡ 8
  pub octets : (place : ℕ) → get_or set.links place 0 < 256

-- a link: its set and its SLC are octets
pub record LinkFits (link : Link) : Type 0 where
  pub set_octet : link.set < 256
  pub slc_octet : link.slc < 256

-- a destination: four routes, the set of each an octet
pub record DestinationFits (destination : Destination) : Type 0 where
  pub four : length destination.routes ≡ 4
  pub octets : (rank : ℕ) → rank < 4 → (get_or destination.routes rank absent_route).set < 256

-- a plan: its network indicator and its count are octets, eight sets, 32 links, 64 destinations
pub record Fits (plan : Plan) : Type 0 where
  pub ni_octet : plan.ni < 256
  pub count_octet : plan.count < 256
  pub eight_sets : length plan.sets ≡ 8
  pub all_links : length plan.links ≡ 32
  pub all_destinations : length plan.destinations ≡ 64
  pub each_set : (number : ℕ) → number < 8 → SetFits (set_at plan number)
  pub each_link : (number : ℕ) → number < 32 → LinkFits (link_at plan number)
  pub each_destination : (place : ℕ) → place < 64 → DestinationFits (destination_at plan place)
