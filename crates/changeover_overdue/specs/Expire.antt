-- T1's or T2's expiry: nothing is retired or dropped for it, and the whole queue moves (R127, R235)
use Rattle.std.specs.Prelude.{ℕ}
use Rattle.plan.specs.declared.data.Plan.{Plan}
use Rattle.replies.specs.Areas.{Areas, Outcome, judged}
use Rattle.changeover_cuts.specs.Cuts.{cut_none}
use Rattle.changeover_ending.specs.End.{out_of_service}
use Rattle.changeover_failure.specs.Overdue.{reply_of}

-- the expiry of T1 or T2
unfoldable pub expired : Plan → Areas → ℕ → ℕ → Outcome
expired plan a link timer =
    judged (reply_of plan a.links link timer a.reports)
    (out_of_service plan a link cut_none)
    a
