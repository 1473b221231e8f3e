-- What the expiry of T6 and T10 leaves.
use Rattle.std.specs.Prelude.{ℕ, false, List, ◌∷◌}
use Rattle.plan.specs.declared.data.Plan.{Plan}
use Rattle.plan.specs.Find.{place_of}
use Rattle.area_flags.specs.Flags.{with_flag}
use Rattle.replies.specs.Reply.{Row, row, first, done}
use Rattle.replies.specs.Areas.{Areas, areas, Outcome, outcome, judged}
use Rattle.reports.specs.Report.{short}
use Rattle.constants.specs.Constants.{t6}
use Rattle.queue_retiring.specs.Leave.{state}
use Rattle.management_making.specs.Make.{with_made, makes_reply}
use Rattle.rerouting_releasing.specs.Release.{released}
use Rattle.rerouting_expiry.specs.Expiry.{refusals_of, reply_t10, test_of}

-- T6 lends a report area, which may be too short
abbrev pub refusals_t6 : Plan → List ℕ → ℕ → List ℕ → List Row
refusals_t6 plan marks x reports = row 1 (short reports) ∷ refusals_of plan marks x t6

unfoldable pub reply_t6 : Plan → List ℕ → ℕ → List ℕ → ℕ
reply_t6 plan marks x reports = first (refusals_t6 plan marks x reports)

-- "X's new user messages are held apart until it ends, then move, whatever came between" (R151, R152)
unfoldable pub expired_t6 : Plan → Areas → ℕ → Outcome
expired_t6 plan a x =
    let marks = with_flag a.marks (place_of plan x) t6 false in
    let now = released plan a.links marks a.rows x (state a.spans a.rings a.reports 0) in
    judged (reply_t6 plan a.marks x a.reports)
    (outcome (done now.log.count)
    (areas a.links marks now.queues.spans now.queues.rings a.rows a.arrivals now.log.area))
    a

-- "T10's expiry sends RST and restarts" (R146, R147): 8 or 10 where the RST finds no place or number
unfoldable pub expired_t10 : Plan → Areas → ℕ → ℕ → Outcome
expired_t10 plan a x set =
    judged (reply_t10 plan a.marks x set)
    (judged (makes_reply plan (test_of plan x set) a) (outcome (done 0) (with_made plan (test_of plan x set) a)) a)
    a
