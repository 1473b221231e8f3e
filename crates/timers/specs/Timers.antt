-- Which timers run (decision 38): T1 to T4 of a link, T6 and T8 of a destination, T10 of a route, each a yes or no in the state.
use Rattle.std.specs.Prelude.{ℕ, Bool, cond, ◌&&◌, ◌||◌, List, eqb, ltb}
use Rattle.plan.specs.declared.data.Plan.{Plan}
use Rattle.plan.specs.Find.{place_of, is_found}
use Rattle.area_links.specs.declared.LinkRecord.{LinkRecord}
use Rattle.area_flags.specs.Flags.{flag_at}
use Rattle.area_links.specs.LinkRecords.{record_at}
use Rattle.lookup.specs.Lookup.{is_link, rank_by}

-- a timer of a link, by its number: T4 runs exactly while a CBD is unanswered
unfoldable pub runs_on : LinkRecord → ℕ → Bool
runs_on known timer =
    cond (eqb timer 1 || eqb timer 2)
    (eqb known.timer timer)
    (cond (eqb timer 3) known.t3 (eqb timer 4 && ltb 0 known.code))

-- a timer of a configured link (R3)
unfoldable pub link_timer : Plan → List ℕ → ℕ → ℕ → Bool
link_timer plan links link timer = is_link plan link && runs_on (record_at links link) timer

-- T6, or T8, of a configured destination
unfoldable pub destination_timer : Plan → List ℕ → ℕ → ℕ → Bool
destination_timer plan marks x timer =
    plan.given
    && (is_found plan x
    && cond (eqb timer 6) (flag_at marks (place_of plan x) 4) (eqb timer 8 && flag_at marks (place_of plan x) 5))

-- T10 of the route to a destination by a set: it runs exactly while the mark stands (R141, R147, R148)
unfoldable pub route_timer : Plan → List ℕ → ℕ → ℕ → Bool
route_timer plan marks x set =
    plan.given
    && (is_found plan x
    && (ltb (rank_by plan (place_of plan x) set) 4 && flag_at marks (place_of plan x) (rank_by plan (place_of plan x) set)))
