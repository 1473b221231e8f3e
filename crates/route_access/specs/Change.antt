-- The access of destinations, and the report of its changes: "pause or resume, by code, of each destination whose access changed" (R139).
use Rattle.std.specs.Prelude.{ℕ, zero, suc, ◌+◌, Bool, cond, not, ◌&&◌, List, [], ◌∷◌, ltb}
use Rattle.plan.specs.declared.data.Plan.{Plan}
use Rattle.plan.specs.Data.{destination_at}
use Rattle.plan.specs.Find.{given}
use Rattle.route_choice.specs.Which.{none}
use Rattle.reports.specs.Report.{Log, pause, resume, told}
use Rattle.route_ways.specs.Way.{current_link}

-- "is inaccessible exactly if there is none" (R82): the rule yields a link, for one SLS as for each
unfoldable pub is_accessible : Plan → List ℕ → List ℕ → ℕ → Bool
is_accessible plan links marks destination = ltb (current_link plan links marks destination 0) none

-- a table of so many places from one on
unfoldable pub table_from : (ℕ → Bool) → ℕ → ℕ → List Bool
table_from says place zero = []
table_from says place (suc more) = says place ∷ table_from says (suc place) more

-- which of 64 destinations are accessible; one that isn't given is not
abbrev pub accesses_of : Plan → List ℕ → List ℕ → List Bool
accesses_of plan links marks =
    table_from (λ (destination : ℕ). ltb destination (given plan) && is_accessible plan links marks destination) 0 64

-- the code of a destination
unfoldable pub code_of : Plan → ℕ → ℕ
code_of plan destination = cond (ltb destination 64) (destination_at plan destination).code 0

-- the report of one destination
unfoldable pub told_one : Bool → Bool → ℕ → Log → Log
told_one before after code log =
    cond (before && not after) (told log pause code) (cond (after && not before) (told log resume code) log)

-- the report of so many destinations from one on
unfoldable pub told_from : Plan → (ℕ → Bool) → (ℕ → Bool) → ℕ → ℕ → Log → Log
told_from plan before after destination zero log = log
told_from plan before after destination (suc more) log =
    told_from plan before after (destination + 1) more
    (told_one (before destination) (after destination) (code_of plan destination) log)

-- the report of all that are given, in ascending code
abbrev pub changes_told : Plan → (ℕ → Bool) → (ℕ → Bool) → Log → Log
changes_told plan before after log = told_from plan before after 0 (given plan) log
