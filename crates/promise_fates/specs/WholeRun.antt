-- What is told of all calls of a run: the messages told as acknowledged and as retired are all those that are counted so where "every message ever queued is
-- in exactly one place" (D3).
use Rattle.std.specs.Prelude.{ℕ, ◌≡◌, List, [], ◌∷◌, ◌++◌}
use Rattle.plan.specs.declared.data.Plan.{Plan}
use Rattle.node.specs.Memory.{Memory}
use Rattle.fate_lines.specs.declared.Fate.{Fate}
use Rattle.fate_lines.specs.declared.Fate.TheVariants.{Unchanged, Queued, Sent, Acknowledged, Retired, Moved}
use Rattle.promise_runs.specs.Run.{Call, called}
use Rattle.promise_accounts.specs.Gone.{nothing_gone, gone_in}
use Rattle.promise_fates.specs.Lines.{picked}
use Rattle.promise_fates.specs.History.{fates_by}

-- all lines of a run, the first call's first
unfoldable pub told_in : Plan → List Call → Memory → List Fate
told_in plan [] m = []
told_in plan (call ∷ later) m = fates_by plan call m ++ told_in plan later (called plan call m)

-- the arrival number of a line `acknowledged`
abbrev pub acknowledged_number : Fate → List ℕ
acknowledged_number (Acknowledged arrival link) = arrival ∷ []
acknowledged_number Unchanged = []
acknowledged_number (Queued arrival link heading) = []
acknowledged_number (Sent arrival link fsn) = []
acknowledged_number (Retired arrival link) = []
acknowledged_number (Moved arrival from to) = []

-- that of a line `retired`
abbrev pub retired_number : Fate → List ℕ
retired_number (Retired arrival link) = arrival ∷ []
retired_number Unchanged = []
retired_number (Queued arrival link heading) = []
retired_number (Sent arrival link fsn) = []
retired_number (Acknowledged arrival link) = []
retired_number (Moved arrival from to) = []

pub record RunTold (plan : Plan) (calls : List Call) (m : Memory) : Type 0 where
  pub acknowledged : (gone_in plan calls m nothing_gone).acknowledged ≡ picked acknowledged_number (told_in plan calls m)
  pub retired : (gone_in plan calls m nothing_gone).retired ≡ picked retired_number (told_in plan calls m)
