-- Where a code stands, or would stand, among destinations that are in ascending code: found by halving.
use Rattle.std.specs.Prelude.{ℕ, zero, suc, ◌+◌, ◌-◌, ◌/◌, min, Bool, cond, ◌&&◌, List, get_or, replicate, ltb, eqb, Result, Ok, Err}
use Rattle.plan.specs.declared.data.Plan.{Plan}
use Rattle.plan.specs.declared.data.Destination.{Destination}
use Rattle.plan.specs.declared.find.There.{There}
use Rattle.plan.specs.Data.{absent_destination, absent_route, routes_of}

-- the code of the destination at a place
abbrev pub code_at : List Destination → ℕ → ℕ
code_at destinations place = (get_or destinations place absent_destination).code

-- the first place from `low` up to `high` whose code isn't below the given one, in so many halvings
unfoldable pub halved : List Destination → ℕ → ℕ → ℕ → ℕ → ℕ
halved destinations code zero low high = low
halved destinations code (suc turns) low high =
    let middle = low + (high - low) / 2 in
    cond (ltb low high)
    (cond (ltb (code_at destinations middle) code)
    (halved destinations code turns (middle + 1) high)
    (halved destinations code turns low middle))
    low

-- how many destinations are given, of 64
abbrev pub given : Plan → ℕ
given plan = min plan.count 64

-- the place of a code among the given destinations; seven halvings serve for 64
abbrev pub place_of : Plan → ℕ → ℕ
place_of plan code = halved plan.destinations code 7 0 (given plan)

-- whether a given destination has the code
abbrev pub is_found : Plan → ℕ → Bool
is_found plan code = ltb (place_of plan code) (given plan) && eqb (code_at plan.destinations (place_of plan code)) code

-- the place of the destination that has the code, Ok; if none has, where one would have to be put in, Err
abbrev pub found_of : Plan → ℕ → Result ℕ ℕ
found_of plan code = cond (is_found plan code) (Ok (place_of plan code)) (Err (place_of plan code))

-- both, with the routes of the destination that is given there
abbrev pub there_of : Plan → ℕ → There
there_of plan code =
    record {
      found = found_of plan code;
      routes = cond (ltb (place_of plan code) (given plan)) (routes_of plan (place_of plan code)) (replicate 4 absent_route);
    }
