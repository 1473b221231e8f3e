-- What messages and calls name: "A link is named by the message's OPC, as adjacent point, and its SLC" (R117).
use Rattle.std.specs.Prelude.{ℕ, zero, suc, ◌+◌, Bool, cond, ◌&&◌, List, [], ◌∷◌, ltb, eqb, take}
use Rattle.constants.specs.Constants.{link_count, no_link}
use Rattle.plan.specs.declared.data.Plan.{Plan}
use Rattle.plan.specs.declared.data.LinkSet.{LinkSet}
use Rattle.plan.specs.declared.data.Route.{Route}
use Rattle.plan.specs.Data.{set_at, link_at, routes_of}

-- no set, no link, no rank
abbrev pub no_set : ℕ
no_set = 8

abbrev pub no_rank : ℕ
no_rank = 4

-- the set to an adjacent point, of so many from one on
unfoldable pub set_from : Plan → ℕ → ℕ → ℕ → ℕ
set_from plan point set zero = no_set
set_from plan point set (suc more) =
    cond ((set_at plan set).given && eqb (set_at plan set).adjacent point) set (set_from plan point (set + 1) more)

-- the set to an adjacent point
unfoldable pub set_to : Plan → ℕ → ℕ
set_to plan point = set_from plan point 0 8

-- the links of a set
abbrev pub all_of : LinkSet → List ℕ
all_of those = take those.count those.links

-- the link with an SLC among some
unfoldable pub link_with : Plan → ℕ → List ℕ → ℕ
link_with plan slc [] = no_link
link_with plan slc (link ∷ rest) =
    cond (ltb link link_count && eqb (link_at plan link).slc slc) link (link_with plan slc rest)

-- the link that a message names
unfoldable pub link_named : Plan → ℕ → ℕ → ℕ
link_named plan point slc =
    cond (ltb (set_to plan point) 8) (link_with plan slc (all_of (set_at plan (set_to plan point)))) no_link

-- whether a route goes by a set
abbrev pub by_set : ℕ → Route → Bool
by_set set route = route.given && eqb route.set set

-- the rank of the route by a set, of those from a rank on
unfoldable pub rank_from : ℕ → ℕ → List Route → ℕ
rank_from set rank [] = no_rank
rank_from set rank (route ∷ worse) = cond (route.given && eqb route.set set) rank (rank_from set (rank + 1) worse)

-- "the route to X by Y's set" (R140)
unfoldable pub rank_by : Plan → ℕ → ℕ → ℕ
rank_by plan destination set = cond (ltb destination 64) (rank_from set 0 (routes_of plan destination)) no_rank

-- whether a link, or a set, "named by the host" (R44) is configured; without a node none is
unfoldable pub is_link : Plan → ℕ → Bool
is_link plan link = plan.given && (ltb link link_count && (link_at plan link).given)

unfoldable pub is_set : Plan → ℕ → Bool
is_set plan set = plan.given && (ltb set 8 && (set_at plan set).given)

-- a link's set, SLC and adjacent point
unfoldable pub set_of : Plan → ℕ → ℕ
set_of plan link = cond (ltb link link_count) (link_at plan link).set no_set

unfoldable pub slc_of : Plan → ℕ → ℕ
slc_of plan link = cond (ltb link link_count) (link_at plan link).slc 0

unfoldable pub adjacent_of : Plan → ℕ → ℕ
adjacent_of plan link = cond (ltb (set_of plan link) 8) (set_at plan (set_of plan link)).adjacent 0
