-- "Into service (from out)" (R89).
use Rattle.std.specs.Prelude.{ℕ, cond, List}
use Rattle.plan.specs.declared.data.Plan.{Plan}
use Rattle.wire_messages.specs.declared.management.Message.TheVariants.{CBD}
use Rattle.replies.specs.Reply.{done, if_done}
use Rattle.replies.specs.Areas.{Areas, areas, Outcome, outcome, judged}
use Rattle.reports.specs.Report.{Log, log}
use Rattle.route_access.specs.Change.{is_accessible, changes_told}
use Rattle.lookup.specs.Lookup.{slc_of, adjacent_of}
use Rattle.queue_joining.specs.Queue.{management_reply, with_management}
use Rattle.management_making.specs.Make.{Held, held_in}
use Rattle.changeback_pairs.specs.declared.Sources.{Sources}
use Rattle.changeback_service.specs.InService.{declares, sources_in, links_in, reply_first}

-- 8 and 10 where its CBD finds no place or number
unfoldable pub declare_reply : List ℕ → List ℕ → Sources → ℕ
declare_reply spans arrivals from = cond (declares from) (management_reply spans arrivals) 0

-- the reply
unfoldable pub reply_of : Plan → Areas → ℕ → ℕ
reply_of plan a link =
    if_done (reply_first plan a.links link a.reports)
    (declare_reply a.spans a.arrivals (sources_in plan a.links a.marks link))
    (reply_first plan a.links link a.reports)

-- "a CBD is put at the end of M's queue, the code being M's link number" (R93, R94, R118)
unfoldable pub declared : Plan → ℕ → Sources → Held → Held
declared plan link from now =
    cond (declares from) (with_management from.own (CBD from.own) (adjacent_of plan link) (slc_of plan link) now) now

-- a resume for each destination that has access now
unfoldable pub resumed : Plan → Areas → ℕ → Log
resumed plan a link =
    changes_told plan (is_accessible plan a.links a.marks) (is_accessible plan (links_in plan a.links a.marks link) a.marks)
    (log a.reports 0)

-- the link comes into service
unfoldable pub into_service : Plan → Areas → ℕ → Outcome
into_service plan a link =
    let now = declared plan link (sources_in plan a.links a.marks link) (held_in a) in
    let told = resumed plan a link in
    judged (reply_of plan a link)
    (outcome (done told.count)
    (areas (links_in plan a.links a.marks link) a.marks now.queues.spans now.queues.rings now.rows now.arrivals told.area))
    a
