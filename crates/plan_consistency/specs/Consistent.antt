-- What holds of every plan that a text makes, beside `Sound`: what is given fits together, and names what it is to name.
use Rattle.std.specs.Prelude.{ℕ, ◌≤◌, ◌<◌, ◌≡◌, true, false, ◌↔◌, length, get_or}
use Rattle.plan.specs.declared.data.Plan.{Plan}
use Rattle.plan.specs.declared.data.Route.{Route}
use Rattle.plan.specs.Data.{absent_route, empty_plan, set_at, link_at, links_of, routes_of}
use Rattle.plan.specs.Find.{code_at, given}
use Rattle.plan.specs.Sound.{link_in}
use Rattle.lookup.specs.Lookup.{link_named, is_link, slc_of, adjacent_of}

-- the route of a rank
abbrev pub route_at : Plan → ℕ → ℕ → Route
route_at plan destination rank = get_or (routes_of plan destination) rank absent_route

-- a link stands at a place of its set, and the set is given (R76, R168)
pub record InItsSet (plan : Plan) (link : ℕ) : Type 0 where
  pub set_given : (set_at plan (link_at plan link).set).given ≡ true
  pub place : ℕ
  pub within : place < length (links_of plan (link_at plan link).set)
  pub there : link_in plan (link_at plan link).set place ≡ link

-- a plan whose links, sets, routes and codes fit together
pub record Consistent (plan : Plan) : Type 0 where
  -- without a node nothing is given (R165)
  pub node_first : plan.given ≡ false → plan ≡ empty_plan
  -- every given link stands in its set (R76, R168)
  pub links_in_sets : (link : ℕ) → (link_at plan link).given ≡ true → InItsSet plan link
  -- no two links of a set have one SLC (R171)
  pub slcs_apart : (link other : ℕ) → (link_at plan link).given ≡ true → (link_at plan other).given ≡ true
      → (link_at plan link).set ≡ (link_at plan other).set → (link_at plan link).slc ≡ (link_at plan other).slc → link ≡ other
  -- no two given sets have one adjacent code (R170)
  pub adjacent_apart : (those others : ℕ) → (set_at plan those).given ≡ true → (set_at plan others).given ≡ true
      → (set_at plan those).adjacent ≡ (set_at plan others).adjacent → those ≡ others
  -- and none has our own (R173)
  pub adjacent_not_ours : (those : ℕ) → (set_at plan those).given ≡ true → (set_at plan those).adjacent ≡ plan.code → ⊥
  -- every route goes by a given set (R168)
  pub routes_by_given : (destination rank : ℕ) → destination < given plan → (route_at plan destination rank).given ≡ true
      → (set_at plan (route_at plan destination rank).set).given ≡ true
  -- no two routes of a destination go by one set (R172)
  pub routes_apart : (destination rank other : ℕ) → destination < given plan
      → (route_at plan destination rank).given ≡ true → (route_at plan destination other).given ≡ true
      → (route_at plan destination rank).set ≡ (route_at plan destination other).set → rank ≡ other
  -- no destination has our own code (R173)
  pub destination_not_ours : (destination : ℕ) → destination < given plan → code_at plan.destinations destination ≡ plan.code → ⊥

-- the numbers in a plan are in their ranges: "Point codes 0 to 16383, SLS and SLC 0 to 15" (R14, R15)
pub record InRange (plan : Plan) : Type 0 where
  pub code_range : plan.code ≤ 16383
  pub ni_range : plan.ni ≤ 3
  pub adjacent_range : (those : ℕ) → (set_at plan those).adjacent ≤ 16383
  pub slc_range : (link : ℕ) → (link_at plan link).slc ≤ 15
  pub destination_range : (destination : ℕ) → code_at plan.destinations destination ≤ 16383

-- "A link is named by the message's OPC, as adjacent point, and its SLC" (R117): it is named by those that it has, and by no others
abbrev pub NamesExactly : Plan → Type 0
NamesExactly plan =
    (point slc link : ℕ) → link < 32
    → (link_named plan point slc ≡ link) ↔ ((is_link plan link ≡ true) × (adjacent_of plan link ≡ point) × (slc_of plan link ≡ slc))
