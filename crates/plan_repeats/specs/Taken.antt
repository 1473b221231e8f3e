-- What is taken already, which a statement would repeat.
use Rattle.std.specs.Prelude.{ℕ, Bool, ◌&&◌, cond, List, eqb, ltb, Option, Some, None, Result, Ok, Err}
use Rattle.plan.specs.declared.data.Plan.{Plan}
use Rattle.plan.specs.declared.data.LinkSet.{LinkSet}
use Rattle.plan.specs.declared.data.Route.{Route}
use Rattle.plan.specs.Data.{link_at}
use Rattle.plan_repeats.specs.Search.{one, many}

-- whether one of some sets has the adjacent code (R170)
abbrev pub adjacent_taken : List LinkSet → ℕ → Bool
adjacent_taken sets adjacent = one (λ (those : LinkSet). those.given && eqb those.adjacent adjacent) sets

-- whether one of some links has the SLC (R171)
abbrev pub slc_taken : Plan → List ℕ → ℕ → Bool
slc_taken plan links slc = one (λ (link : ℕ). eqb (link_at plan link).slc slc) links

-- how many of some links have a lower SLC: the place of a new one among them, "in SLC order" (R76)
abbrev pub lower : Plan → List ℕ → ℕ → ℕ
lower plan links slc = many (λ (link : ℕ). ltb (link_at plan link).slc slc) links

-- the same, Ok; where one of the links has the SLC, Err (R76, R171)
abbrev pub among : Plan → List ℕ → ℕ → Result ℕ ℕ
among plan links slc = cond (slc_taken plan links slc) (Err (lower plan links slc)) (Ok (lower plan links slc))

-- the place of a new SLC among some links, none where one of them has it (R76, R171)
abbrev pub place_among : Plan → List ℕ → ℕ → Option ℕ
place_among plan links slc = cond (slc_taken plan links slc) None (Some (lower plan links slc))

-- whether one of some routes goes by the set (R172)
abbrev pub set_taken : List Route → ℕ → Bool
set_taken routes those = one (λ (route : Route). route.given && eqb route.set those) routes
