-- "Failure of an open link: changing; a COO and T2, or T1 with no path, free place or number." (R110, R111) "Failure of a waiting link: out, its
-- timers stop, its queue moves at once." (R115, R116)
use Rattle.std.specs.Prelude.{ℕ, cond, eqb}
use Rattle.constants.specs.Constants.{state_waiting}
use Rattle.plan.specs.declared.data.Plan.{Plan}
use Rattle.area_links.specs.LinkRecords.{record_at, with_record}
use Rattle.replies.specs.Reply.{done}
use Rattle.replies.specs.Areas.{Areas, Outcome, outcome, judged, with_links}
use Rattle.management_making.specs.Make.{is_made, with_made}
use Rattle.changeover_cuts.specs.Cuts.{cut_none}
use Rattle.changeover_ending.specs.End.{out_of_service}
use Rattle.changeover_failure.specs.Failure.{state_at, reply_of, order_of, changing, timer_by}

-- T2 with a COO, else T1
unfoldable pub timer_of : Plan → Areas → ℕ → ℕ
timer_of plan a link =
    timer_by (is_made plan a.links a.marks a.spans a.arrivals (order_of plan a.links link))

-- the failure of an open link: no access changes, and nothing is reported
unfoldable pub open_failed : Plan → Areas → ℕ → Outcome
open_failed plan a link =
    outcome (done 0)
    (with_links (with_made plan (order_of plan a.links link) a)
    (with_record a.links link (changing (record_at a.links link) (timer_of plan a link))))

-- the failure of a link
unfoldable pub failed : Plan → Areas → ℕ → Outcome
failed plan a link =
    judged (reply_of plan a.links link a.reports)
    (cond (eqb (state_at a.links link) state_waiting) (out_of_service plan a link cut_none) (open_failed plan a link))
    a
