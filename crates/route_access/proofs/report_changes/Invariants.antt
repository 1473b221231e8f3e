-- `route_access::report_changes` meets its contract. The loop's invariant: with what is left to tell the report is the whole.
-- Assumes nothing.
use mathlib.Core.Path.{◌≡◌}
use mathlib.Core.Bool.{Bool, false}
use mathlib.Core.List.{List}
use Prim.Native.Nat.{ℕ, ◌-◌}
use lib.ListN.{get_or}
use Rattle.plan_words.specs.Words.{plan_at}
use Rattle.plan.specs.declared.data.Plan.{Plan}
use Rattle.reports.specs.Report.{Log, log}
use Rattle.route_access.specs.Change.{is_accessible, told_from}
use Rattle.route_access.proofs.report_changes.Given as goal

-- the report of so many destinations from one on, as the areas and the caller's table say
abbrev pub telling : Plan → List ℕ → List ℕ → List Bool → ℕ → ℕ → Log → Log
telling plan links marks before = told_from plan (λ (d : ℕ). get_or before d false) (is_accessible plan links marks)

abbrev pub invariant-loop-destination : goal.invariant-loop-destination
invariant-loop-destination l =
    telling (plan_at l.plan) l.links l.marks l.before l.destination (l.destination-end - l.destination) (log l.reports l.told)
    ≡ telling (plan_at l.plan) l.links l.marks l.before 0 l.destination-end (log l.initial.reports l.count)
