-- How a link goes out: "The link goes out and its timers stop after the COA or ECA is queued, which never uses this link, and
-- before anything moves." (R131, R132, R133)
use Rattle.std.specs.Prelude.{ℕ, List}
use Rattle.plan.specs.declared.data.Plan.{Plan}
use Rattle.area_links.specs.LinkRecords.{record_at, with_record}
use Rattle.replies.specs.Reply.{done}
use Rattle.replies.specs.Areas.{Areas, areas, Outcome, outcome}
use Rattle.route_access.specs.Change.{is_accessible, changes_told}
use Rattle.queue_retiring.specs.Leave.{State, state, retired, dropped}
use Rattle.queue_moving.specs.Move.{moved_all}
use Rattle.changeover_cuts.specs.declared.Cut.{Cut}
use Rattle.changeover_cuts.specs.Cuts.{out_of}

-- the links with one out
unfoldable pub links_out : List ℕ → ℕ → List ℕ
links_out links link = with_record links link (out_of (record_at links link))

-- a link's queue after its first messages are retired, the next "dropped, reason 2" (R127, R236), and the rest moved by the rule without the link
unfoldable pub cleared : Plan → List ℕ → List ℕ → List ℕ → ℕ → Cut → State → State
cleared plan links marks rows link parts now =
    moved_all plan links marks rows link
    (dropped rows link 2 parts.dropped
    (record { queues = retired link parts.retired now.queues; log = now.log }))

-- the queues, and the reports: "drops in queue order (arrival number, reason), then pause or resume, by code, of each destination whose access
-- changed" (R138, R139)
unfoldable pub ended : Plan → List ℕ → List ℕ → List ℕ → ℕ → Cut → State → State
ended plan links marks rows link parts now =
    let after = cleared plan (links_out links link) marks rows link parts now in
    record {
      queues = after.queues;
      log = changes_told plan (is_accessible plan links marks) (is_accessible plan (links_out links link) marks) after.log;
    }

-- a link goes out of service
unfoldable pub out_of_service : Plan → Areas → ℕ → Cut → Outcome
out_of_service plan a link parts =
    let now = ended plan a.links a.marks a.rows link parts (state a.spans a.rings a.reports 0) in
    outcome (done now.log.count)
    (areas (links_out a.links link) a.marks now.queues.spans now.queues.rings a.rows a.arrivals now.log.area)
