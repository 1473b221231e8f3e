-- The words in which is said what the rule's link is, and which pairs a link's loss or return moves.
use Rattle.std.specs.Prelude.{◌≡◌, Bool, true, false, List, ℕ, ◌%◌, ◌<◌, length, get_or}
use Rattle.plan.specs.declared.data.Plan.{Plan}
use Rattle.plan.specs.declared.data.Route.{Route}
use Rattle.plan.specs.Data.{absent_route, links_of, routes_of}
use Rattle.route_choice.specs.Which.{none, going_round, link_of_set, usable, chosen}

-- a destination's route of a rank
abbrev pub route_of : Plan → ℕ → ℕ → Route
route_of plan destination rank = get_or (routes_of plan destination) rank absent_route

-- "A destination uses its usable route of best rank." (R81)
pub record Uses (serves marked : ℕ → Bool) (plan : Plan) (destination rank : ℕ) : Type 0 where
  pub ranked : rank < length (routes_of plan destination)
  pub usable_there : usable serves marked plan rank (route_of plan destination rank) ≡ true
  pub none_better : (better : ℕ) → better < rank → usable serves marked plan better (route_of plan destination better) ≡ false

-- the links of the set that a destination uses by its route of a rank
abbrev pub used_links : Plan → ℕ → ℕ → List ℕ
used_links plan destination rank = links_of plan (route_of plan destination rank).set

-- those links from the place of an SLS on, going round (R77)
abbrev pub turn_of : Plan → ℕ → ℕ → ℕ → List ℕ
turn_of plan destination rank sls =
    going_round (sls % length (used_links plan destination rank)) (used_links plan destination rank)

-- "the next carrying one" (R78): a link that stands at a place of some in turn and serves, while none before it does
pub record First (serves : ℕ → Bool) (turn : List ℕ) (link : ℕ) : Type 0 where
  pub place : ℕ
  pub in_turn : place < length turn
  pub stands_there : get_or turn place none ≡ link
  pub serves_there : serves link ≡ true
  pub none_before : (before : ℕ) → before < place → serves (get_or turn before none) ≡ false

-- a link that is yielded: the rule's, of the set of the usable route of best rank, and the first there that serves, going round (R213)
pub record Chosen (serves marked : ℕ → Bool) (plan : Plan) (destination sls link : ℕ) : Type 0 where
  pub rank : ℕ
  pub best_route : Uses serves marked plan destination rank
  pub of_its_set : link ≡ link_of_set serves (used_links plan destination rank) sls
  pub first_going_round : First serves (turn_of plan destination rank sls) link

-- one link serves no more, and all others as before (R83)
pub record Lost (serves serves' : ℕ → Bool) (link : ℕ) : Type 0 where
  pub lost : serves' link ≡ false
  pub others : (other : ℕ) → (other ≡ link → ⊥) → serves' other ≡ serves other

-- one link serves again, and all others as before
pub record Back (serves serves' : ℕ → Bool) (link : ℕ) : Type 0 where
  pub was_out : serves link ≡ false
  pub serves_again : serves' link ≡ true
  pub others : (other : ℕ) → (other ≡ link → ⊥) → serves' other ≡ serves other

-- a link takes a pair from another: "some pair's current link becomes this link from another" (R92)
pub record Takes (serves serves' marked : ℕ → Bool) (plan : Plan) (destination sls link from : ℕ) : Type 0 where
  pub was_on : chosen serves marked plan destination sls ≡ from
  pub was_a_link : from < none
  pub is_on : chosen serves' marked plan destination sls ≡ link

-- a link stands in a set
pub record StandsInSet (plan : Plan) (link set : ℕ) : Type 0 where
  pub place : ℕ
  pub in_the_set : place < length (links_of plan set)
  pub stands_there : get_or (links_of plan set) place none ≡ link

-- no link stands in two sets, or twice in one
abbrev pub EachInOnePlace : Plan → Type 0
EachInOnePlace plan =
    (set set' place place' : ℕ) → place < length (links_of plan set) → place' < length (links_of plan set')
    → get_or (links_of plan set) place none ≡ get_or (links_of plan set') place' none
    → (set ≡ set') × (place ≡ place')
