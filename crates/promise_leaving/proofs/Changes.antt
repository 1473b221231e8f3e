-- The changes of access, told behind what was told before, destination by destination.
-- Assumes nothing.
use mathlib.Core.Path.{◌≡◌, refl, sym, ap, ◌∙◌}
use mathlib.Core.Bool.{Bool, true, false}
use mathlib.Core.List.{List, [], ◌++◌, append-nil, append_assoc}
use Prim.Native.Nat.{ℕ, zero, suc, ◌+◌, ◌≤◌, ◌<◌}
use native.Mathlib.Omega.{arith}
use lib.ListN.{length}
use Rattle.plan.specs.declared.data.Plan.{Plan}
use Rattle.reports.specs.Report.{Log, pause, resume, room}
use Rattle.route_access.specs.Change.{code_of, told_one, told_from}
use Rattle.promise_ledger.specs.Reported.{Report, reports_of}
use Rattle.promise_leaving.specs.Going.{change, changes}
use Rattle.promise_ledger.proofs.Told.{told_there, told_count, told_long}

-- what one destination adds to a log: its change, if any, in a record at most
record Adds (tells : List Report) (written after : Log) : Type 0 where
  pub told : reports_of after ≡ reports_of written ++ tells
  pub counted : after.count ≤ written.count + 1
  pub long : length after.area ≡ length written.area

module _ (code : ℕ) (written : Log) (h : written.count < room written.area) where
  adds_none : Adds [] written written
  adds_none = record { told = sym (append-nil (reports_of written)); counted = omega arith; long = refl }

  change_told : (before after : Bool) → Adds (change before after code) written (told_one before after code written)
  unfolding told_one
  change_told true true = adds_none
  change_told false false = adds_none
  change_told true false = record {
    told = told_there written pause code h;
    counted = omega (arith, told_count written pause code h);
    long = told_long written pause code;
  }
  change_told false true = record {
    told = told_there written resume code h;
    counted = omega (arith, told_count written resume code h);
    long = told_long written resume code;
  }

-- what so many add
module _ (plan : Plan) (before after : ℕ → Bool) where
  pub changes_told_lem : (more destination : ℕ) (written : Log) → written.count + more ≤ room written.area
      → reports_of (told_from plan before after destination more written)
      ≡ reports_of written ++ changes plan before after destination more
  unfolding told_from changes
  changes_told_lem zero destination written enough = sym (append-nil (reports_of written))
  changes_told_lem (suc more) destination written enough =
      let code : ℕ = code_of plan destination in
      let tells : List Report = change (before destination) (after destination) code in
      let later : List Report = changes plan before after (destination + 1) more in
      let next : Log = told_one (before destination) (after destination) code written in
      let one : Adds tells written next = change_told code written (omega arith) (before destination) (after destination) in
      let room-left : next.count + more ≤ room next.area = omega (arith, one.counted, one.long) in
      changes_told_lem more (destination + 1) next room-left
      ∙ ap (λ (l : List Report). l ++ later) one.told
      ∙ append_assoc (reports_of written) tells later
