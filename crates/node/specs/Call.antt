-- The node, one call after the other: what each event answers, and the memory after it.
use Rattle.std.specs.Prelude.{ℕ, List, length}
use Rattle.plan.specs.declared.data.Plan.{Plan}
use Rattle.replies.specs.Reply.{plain}
use Rattle.replies.specs.Areas.{areas, with_links, with_marks}
use Rattle.queue_heads.specs.Head.{both}
use Rattle.sending.specs.Send as Send
use Rattle.acknowledging.specs.Acknowledge as Acknowledge
use Rattle.changeover.specs.Fail.{failed}
use Rattle.changeover_overdue.specs.Expire as Changeover
use Rattle.changeback.specs.Service.{into_service}
use Rattle.changeback_waiting.specs.Wait as Wait
use Rattle.rerouting.specs.Timer as Rerouting
use Rattle.rerouting_expiry.specs.Expiry as Expiry
use Rattle.constants.specs.Constants.{t8}
use Rattle.receiving.specs.Receive.{received, octets_received}
use Rattle.passing_offering.specs.Host.{sent, octets_sent}
use Rattle.node.specs.declared.call.Event.{Event}
use Rattle.node.specs.declared.call.Event.TheVariants.{IntoService, Failure, Send, Acknowledgement, Received, FromHost, T1, T2, T3, T4, T6, T8, T10}
use Rattle.node.specs.Memory.{Memory, Result, result, of_areas}

-- level 2 asks for the next message (R104)
unfoldable pub sends : Plan → ℕ → Memory → Result
sends plan link m =
    let a = m.areas in
    result (Send.answer_of plan a.links a.spans a.rings a.rows link m.out)
    (with_links a (Send.links_after plan a.links a.spans link (length m.out)))
    m.octets
    (Send.out_after plan a.links a.spans a.rings a.rows m.octets link m.out)

-- level 2 acknowledges
unfoldable pub acknowledges : Plan → ℕ → ℕ → Memory → Result
acknowledges plan link b m =
    let a = m.areas in
    let queues = Acknowledge.queues_after plan a.links (both a.spans a.rings) link b in
    result (plain (Acknowledge.reply_of plan a.links link b))
    (areas (Acknowledge.links_after plan a.links link b) a.marks queues.spans queues.rings a.rows a.arrivals a.reports)
    m.octets
    m.out

-- T3, or T4, expires
unfoldable pub wait_ends : Plan → ℕ → ℕ → Memory → Result
wait_ends plan link timer m =
    let a = m.areas in
    result (plain (Wait.reply_of plan a.links link timer))
    (with_links a (Wait.expired plan a.links link timer))
    m.octets
    m.out

-- T8 expires
unfoldable pub t8_ends : Plan → ℕ → Memory → Result
t8_ends plan x m =
    let a = m.areas in
    result (plain (Expiry.reply_of plan a.marks x t8))
    (with_marks a (Expiry.expired_t8 plan a.marks x))
    m.octets
    m.out

-- a message came in over a link
unfoldable pub receives : Plan → ℕ → ℕ → List ℕ → Memory → Result
receives plan link fsn message m =
    let o = received plan link fsn message m.areas in
    result o.answer o.after (octets_received plan link fsn message m.areas m.octets) m.out

-- the host hands a message over
unfoldable pub takes_over : Plan → List ℕ → Memory → Result
takes_over plan message m =
    let o = sent plan message m.areas in
    result o.answer o.after (octets_sent plan message m.areas m.octets) m.out

-- every event (D2, R2, R3, R5)
unfoldable pub call_of : Plan → Event → List ℕ → Memory → Result
call_of plan (IntoService link) message m = of_areas (into_service plan m.areas link) m
call_of plan (Failure link) message m = of_areas (failed plan m.areas link) m
call_of plan (Send link) message m = sends plan link m
call_of plan (Acknowledgement link b) message m = acknowledges plan link b m
call_of plan (Received link fsn) message m = receives plan link fsn message m
call_of plan FromHost message m = takes_over plan message m
call_of plan (T1 link) message m = of_areas (Changeover.expired plan m.areas link 1) m
call_of plan (T2 link) message m = of_areas (Changeover.expired plan m.areas link 2) m
call_of plan (T3 link) message m = wait_ends plan link 3 m
call_of plan (T4 link) message m = wait_ends plan link 4 m
call_of plan (T6 x) message m = of_areas (Rerouting.expired_t6 plan m.areas x) m
call_of plan (T8 x) message m = t8_ends plan x m
call_of plan (T10 x set) message m = of_areas (Rerouting.expired_t10 plan m.areas x set) m
