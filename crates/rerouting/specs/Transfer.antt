-- What a TFP or TFA leaves: the mark set or cleared and the access that changed told where it counts.
use Rattle.std.specs.Prelude.{ℕ, Bool, cond, List}
use Rattle.plan.specs.declared.data.Plan.{Plan}
use Rattle.replies.specs.Reply.{plain, done}
use Rattle.replies.specs.Areas.{Areas, areas, Outcome, outcome}
use Rattle.reports.specs.Report.{Log, log}
use Rattle.route_access.specs.Change.{is_accessible, changes_told}
use Rattle.rerouting_marking.specs.Mark.{counts, marks_after}

-- a pause, or a resume
unfoldable pub access_told : Plan → Areas → List ℕ → Log
access_told plan a marks =
    changes_told plan (is_accessible plan a.links a.marks) (is_accessible plan a.links marks) (log a.reports 0)

-- a TFP, or a TFA, about X from a point (R153)
unfoldable pub transferred : Plan → ℕ → ℕ → Bool → Areas → Outcome
transferred plan point x prohibits a =
    let marks = marks_after plan a.links a.marks point x prohibits in
    let told = access_told plan a marks in
    cond (counts plan a.marks point x prohibits)
    (outcome (done told.count)
    (areas a.links marks a.spans a.rings a.rows a.arrivals told.area))
    (outcome (plain 11) a)
