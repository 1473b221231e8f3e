-- The reports of every call, after every run of calls on a node that any configuration's text makes: which they are, what they say of accesses, and
-- what is left of the area. Assumes nothing.
use mathlib.Core.Path.{◌≡◌, sym, subst}
use mathlib.Core.Bool.{true}
use mathlib.Core.List.{List}
use Prim.Native.Nat.{ℕ}
use Rattle.plan.specs.declared.data.Plan.{Plan}
use Rattle.plan_configuration.specs.Configure.{configured}
use Rattle.plan_configuration.proofs.Made.{configured_sound}
use Rattle.node.specs.Memory.{Memory, Result}
use Rattle.node.specs.Call.{call_of}
use Rattle.promise_runs.specs.Run.{Call, lent, ran, fresh, Whole}
use Rattle.promise_runs.proofs.Reached.{configured_regular}
use Rattle.promise_accounts.specs.Gone.{told_by}
use Rattle.promise_reports.specs.Tells.{reports_of_call}
use Rattle.promise_reports.specs.ByCode.{accesses_in, access_in, ByCode}
use Rattle.promise_reports.specs.Unwritten.{Unwritten, Untold, is_quiet}
use Rattle.promise_reports.proofs.Telling.{call_told}
use Rattle.promise_reports.proofs.Unwritten.{call_unwritten}
use Rattle.promise_reports.proofs.Quiet.{quiet_untold}
use Rattle.promise_reports.proofs.ByCode.{changes_by_code}
use Rattle.promise_reports.proofs.Accesses.{call_accesses}

module _ (m : Memory) (whole : Whole m) (text : List ℕ) (calls : List Call) (call : Call) where
  -- the plan of the text, the memory that is lent to a call after the others, and what the call gives
  abbrev plan : Plan
  plan = (configured text).plan

  abbrev before : Memory
  before = lent call (ran plan calls (fresh m))

  abbrev given : Result
  given = call_of plan call.event call.message before

  -- they are what its event tells, and nothing else, in that order
  pub reports_exactly : told_by given ≡ reports_of_call plan call.message call.event before.areas given
  reports_exactly = call_told plan call.message before (configured_regular text m whole calls) call.event

  -- those of accesses tell each destination's change from before the call to after it, by code, and no access changes untold
  pub accesses_exactly : ByCode plan (access_in plan before.areas) (access_in plan given.after.areas) (accesses_in (told_by given))
  accesses_exactly =
      let access = access_in plan before.areas in
      let after = access_in plan given.after.areas in
      subst (ByCode plan access after)
      (sym (call_accesses plan call.message before (configured_regular text m whole calls) call.event))
      (changes_by_code plan access after (configured_sound text))

  -- behind them the area is as it was lent
  pub area_unwritten : Unwritten call.reports given
  area_unwritten = call_unwritten plan call.message before call.event

  -- a refusal, and an event that takes no link out and changes no access, write nothing
  pub nothing_told : is_quiet plan call.message call.event before.areas given ≡ true → Untold call.reports given
  nothing_told = quiet_untold plan call.message before call.event
