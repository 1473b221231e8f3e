-- A route line put into the plan: to a destination that is given, or to a new one.
use Rattle.std.specs.Prelude.{ℕ, ◌+◌, Bool, true, cond, not, ◌||◌, List, get_or, set, replicate, eqb, ltb, leb, Result, Ok, Err}
use Rattle.plan.specs.declared.data.Plan.{Plan}
use Rattle.plan.specs.declared.data.Route.{Route}
use Rattle.plan.specs.Data.{absent_route, set_at, routes_of}
use Rattle.plan.specs.Find.{place_of, is_found}
use Rattle.plan_repeats.specs.Taken.{set_taken}
use Rattle.plan_entries.specs.Insert.{inserted}
use Rattle.plan_building.specs.declared.Fault.{Fault}
use Rattle.plan_building.specs.declared.Fault.TheVariants.{OutOfRange, Repeat, NotGiven, Full}

-- "destination with the same set or rank" (R172)
abbrev pub route_taken : List Route → ℕ → ℕ → Bool
route_taken routes those rank = set_taken routes those || (get_or routes rank absent_route).given

-- the routes with one more
abbrev pub with_route : List Route → ℕ → ℕ → List Route
with_route routes those rank = set routes rank (record { given = true; set = those })

-- one more route of a destination that is given
abbrev pub known_route : Plan → ℕ → ℕ → ℕ → ℕ → Plan
known_route plan place destination those rank =
    record {
      given = plan.given;
      code = plan.code;
      ni = plan.ni;
      count = plan.count;
      sets = plan.sets;
      links = plan.links;
      destinations =
          set plan.destinations place
          (record { code = destination; routes = with_route (routes_of plan place) those rank });
    }

-- "22 a repeat (.. destination with the same set or rank)" (R172)
abbrev pub add_known : Plan → ℕ → ℕ → ℕ → ℕ → Result Plan Fault
add_known plan place destination those rank =
    cond (route_taken (routes_of plan place) those rank) (Err Repeat)
    (Ok (known_route plan place destination those rank))

-- the first route of a destination, which is put in at its place
abbrev pub new_route : Plan → ℕ → ℕ → ℕ → ℕ → Plan
new_route plan place destination those rank =
    record {
      given = plan.given;
      code = plan.code;
      ni = plan.ni;
      count = plan.count + 1;
      sets = plan.sets;
      links = plan.links;
      destinations =
          inserted place
          (record { code = destination; routes = with_route (replicate 4 absent_route) those rank })
          plan.destinations;
    }

-- `route destination set rank` (R11, R12, R14, R164, R168, R173, R174)
abbrev pub add_route : Plan → ℕ → ℕ → ℕ → Result Plan Fault
add_route plan destination those rank =
    cond (ltb 16383 destination || (ltb 7 those || ltb 3 rank)) (Err OutOfRange)
    (cond (not (set_at plan those).given) (Err NotGiven)
    (cond (eqb destination plan.code) (Err Repeat)
    (cond (is_found plan destination) (add_known plan (place_of plan destination) destination those rank)
    (cond (leb 64 plan.count) (Err Full)
    (Ok (new_route plan (place_of plan destination) destination those rank))))))
