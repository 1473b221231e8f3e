-- The rows of the table that can apply to each event, in the table's order: "The first row after 0 that applies is the reply" (R60).
-- Each procedure says its own; here they stand together.
use Rattle.std.specs.Prelude.{ℕ, Bool, false, not, ◌&&◌, ◌||◌, List, [], ◌∷◌, ◌++◌, length}
use Rattle.plan.specs.declared.data.Plan.{Plan}
use Rattle.replies.specs.Reply.{Row, row}
use Rattle.replies.specs.Areas.{Areas}
use Rattle.queue_joining.specs.Queue.{no_user_place, no_management_place, no_number, user_refusals, management_refusals}
use Rattle.management_making.specs.Make.{has_path}
use Rattle.discrimination.specs.declared.Came.{Came}
use Rattle.discrimination.specs.Sorted.{of_passed}
use Rattle.discrimination.specs.Discrimination.{from_link, from_host}
use Rattle.changeback_service.specs.InService as InService
use Rattle.changeover_failure.specs.Failure as Failure
use Rattle.changeover_failure.specs.Overdue as Overdue
use Rattle.sending.specs.Send as Send
use Rattle.acknowledging.specs.Acknowledge as Acknowledge
use Rattle.changeback_waiting.specs.Wait as Wait
use Rattle.constants.specs.Constants.{t8}
use Rattle.rerouting_expiry.specs.Expiry as Expiry
use Rattle.rerouting.specs.Timer as Timer
use Rattle.receiving.specs.Receive as Receive
use Rattle.passing_offering.specs.Host.{refuses}
use Rattle.node.specs.declared.call.Event.{Event}
use Rattle.node.specs.declared.call.Event.TheVariants.{IntoService, Failure, Send, Acknowledgement, Received, FromHost, T1, T2, T3, T4, T6, T8, T10}
use Rattle.node.specs.Memory.{Memory}
use Rattle.promise_table.specs.Received.{is_malformed, is_foreign, is_unreachable, is_pointless, needs_user, needs_management}

-- a link comes into service: its CBD, where one is due, needs a place and a number
abbrev pub into_service_rows : Plan → ℕ → Areas → List Row
into_service_rows plan link a =
    InService.refusals_first plan a.links link a.reports
    ++ management_refusals (InService.declares (InService.sources_in plan a.links a.marks link)) a.spans a.arrivals

-- a message from a link: what the link and its number allow (R106), and then what the message is
abbrev pub received_rows : Plan → ℕ → ℕ → Came → Areas → List Row
received_rows plan link fsn came a =
    Receive.refusals_of plan a.links link fsn a.reports
    ++ (row 3 (is_malformed came)
    ∷ row 4 (is_foreign came)
    ∷ row 9 (is_unreachable plan a link came)
    ∷ row 11 (is_pointless plan a came)
    ∷ row 7 (needs_user plan a came && no_user_place a.spans)
    ∷ row 8 (needs_management plan a link fsn came && no_management_place a.spans)
    ∷ row 10 ((needs_user plan a came || needs_management plan a link fsn came) && no_number a.arrivals)
    ∷ [])

-- row 9 of a message from the host (R54)
unfoldable pub is_refused : Plan → Areas → Came → Bool
is_refused plan a came = of_passed false (refuses plan a) came

-- a message from the host
abbrev pub from_host_rows : Plan → Came → Areas → List Row
from_host_rows plan came a =
    row 2 (not plan.given)
    ∷ row 3 (is_malformed came)
    ∷ row 4 (is_foreign came)
    ∷ row 9 (is_refused plan a came)
    ∷ user_refusals a.spans a.arrivals

-- T10 of a route: its RST, where there is a path, needs a place and a number
abbrev pub t10_rows : Plan → ℕ → ℕ → Areas → List Row
t10_rows plan x set a =
    Expiry.refusals_t10 plan a.marks x set
    ++ management_refusals (has_path plan a.links a.marks (Expiry.test_of plan x set)) a.spans a.arrivals

-- every event (D1, D2, R41, R42, R43, R44, R45, R212)
unfoldable pub rows_of : Plan → Event → List ℕ → Memory → List Row
rows_of plan (IntoService link) message m = into_service_rows plan link m.areas
rows_of plan (Failure link) message m = Failure.refusals_of plan m.areas.links link m.areas.reports
rows_of plan (Send link) message m = Send.refusals_of plan m.areas.links m.areas.spans link (length m.out)
rows_of plan (Acknowledgement link b) message m = Acknowledge.refusals_of plan m.areas.links link b
rows_of plan (Received link fsn) message m = received_rows plan link fsn (from_link plan message) m.areas
rows_of plan FromHost message m = from_host_rows plan (from_host plan message) m.areas
rows_of plan (T1 link) message m = Overdue.refusals_of plan m.areas.links link 1 m.areas.reports
rows_of plan (T2 link) message m = Overdue.refusals_of plan m.areas.links link 2 m.areas.reports
rows_of plan (T3 link) message m = Wait.refusals_of plan m.areas.links link 3
rows_of plan (T4 link) message m = Wait.refusals_of plan m.areas.links link 4
rows_of plan (T6 x) message m = Timer.refusals_t6 plan m.areas.marks x m.areas.reports
rows_of plan (T8 x) message m = Expiry.refusals_of plan m.areas.marks x t8
rows_of plan (T10 x set) message m = t10_rows plan x set m.areas
