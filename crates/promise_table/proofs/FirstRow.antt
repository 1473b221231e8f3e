-- "The first row after 0 that applies is the reply": of every event, whatever the node's plan and memory.
-- Assumes nothing.
use Prim.Native.Nat.{ℕ}
use mathlib.Core.List.{List}
use mathlib.Core.Path.{◌≡◌}
use Rattle.plan.specs.declared.data.Plan.{Plan}
use Rattle.replies.specs.Reply.{first}
use Rattle.node.specs.declared.call.Event.{Event}
use Rattle.node.specs.declared.call.Event.TheVariants.{IntoService, Failure, Send, Acknowledgement, Received, FromHost, T1, T2, T3, T4, T6, T8, T10}
use Rattle.node.specs.Memory.{Memory}
use Rattle.node.specs.Call.{wait_ends, t8_ends, receives, takes_over, call_of}
use Rattle.promise_table.specs.Table.{rows_of}
use Rattle.promise_table.proofs.LinkReplies.{into_service_lem, failure, send, acknowledgement, t1, t2, waits}
use Rattle.promise_table.proofs.RouteReplies.{t6, t8_expires, t10}
use Rattle.promise_table.proofs.HostReply.{from_host_lem}
use Rattle.promise_table.proofs.ReceivedReply.{received_reply}

pub the_table : (plan : Plan) (event : Event) (message : List ℕ) (m : Memory)
    → (call_of plan event message m).answer.reply ≡ first (rows_of plan event message m)
unfolding call_of rows_of wait_ends t8_ends receives takes_over
the_table plan (IntoService link) message m = into_service_lem plan link m.areas
the_table plan (Failure link) message m = failure plan link m.areas
the_table plan (Send link) message m = send plan link m
the_table plan (Acknowledgement link b) message m = acknowledgement plan link m b
the_table plan (Received link fsn) message m = received_reply plan link fsn m.areas message
the_table plan FromHost message m = from_host_lem plan message m.areas
the_table plan (T1 link) message m = t1 plan link m.areas
the_table plan (T2 link) message m = t2 plan link m.areas
the_table plan (T3 link) message m = waits plan link m.areas 3
the_table plan (T4 link) message m = waits plan link m.areas 4
the_table plan (T6 x) message m = t6 plan x m.areas
the_table plan (T8 x) message m = t8_expires plan x m.areas
the_table plan (T10 x set) message m = t10 plan x set m.areas
