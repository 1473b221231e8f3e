-- What a call tells in the report area that is lent to it: "Reports: drops in queue order (arrival number, reason), then pause or resume, by
-- code, of each destination whose access changed." (R138, R139)
use Rattle.std.specs.Prelude.{ℕ, cond, List, [], ◌++◌}
use Rattle.plan.specs.declared.data.Plan.{Plan}
use Rattle.plan.specs.Find.{given}
use Rattle.wire_messages.specs.declared.management.Message.{Message}
use Rattle.wire_messages.specs.declared.management.Message.TheVariants.{COO, COA, CBD, CBA, ECO, ECA, TFP, TFA, RST}
use Rattle.replies.specs.Reply.{if_done}
use Rattle.replies.specs.Areas.{Areas}
use Rattle.route_access.specs.Change.{is_accessible}
use Rattle.queue_heads.specs.Head.{both}
use Rattle.queue_moving.specs.Move.{goes_to}
use Rattle.changeover_ending.specs.End.{links_out}
use Rattle.discrimination.specs.declared.Order.{Order}
use Rattle.discrimination.specs.Sorted.{of_managed}
use Rattle.discrimination.specs.Discrimination.{from_link}
use Rattle.node.specs.declared.call.Event.{Event}
use Rattle.node.specs.declared.call.Event.TheVariants.{IntoService, Failure, Send, Acknowledgement, Received, FromHost, T1, T2, T3, T4, T6, T8, T10}
use Rattle.node.specs.View.{view_of}
use Rattle.node.specs.Memory.{Result}
use Rattle.promise_ledger.specs.Reported.{Report}
use Rattle.promise_leaving.specs.Apart.{let_go}
use Rattle.promise_leaving.specs.Going.{stranded, drops_for, slots_of, drops_told, changes}
use Rattle.promise_accounts.specs.Ending.{Ending, ending_of}

-- "pause or resume, by code, of each destination whose access changed" (R139), from some links and marks to others
abbrev pub access_changes : Plan → List ℕ → List ℕ → List ℕ → List ℕ → List Report
access_changes plan links marks links_after marks_after =
    changes plan (is_accessible plan links marks) (is_accessible plan links_after marks_after) 0 (given plan)

-- a link goes out: the drops of its queue, of those cut off and then of those with no route, and then the changes of access without it
-- (R126, R137, R138, R139)
unfoldable pub ending_told : Plan → Ending → List Report
ending_told plan ending =
    let a = ending.from in
    let links = links_out a.links ending.link in
    drops_told (goes_to plan links a.marks a.rows) a.rows ending.parts (slots_of (both a.spans a.rings) ending.link)
    ++ access_changes plan a.links a.marks links a.marks

-- a management message, by the marks after it: of TFP and TFA the changes of access (R140, R148); of no other
unfoldable pub message_told : Plan → Areas → List ℕ → Message → List Report
message_told plan a marks (TFP x) = access_changes plan a.links a.marks a.links marks
message_told plan a marks (TFA x) = access_changes plan a.links a.marks a.links marks
message_told plan a marks (COO f) = []
message_told plan a marks (COA f) = []
message_told plan a marks (CBD code) = []
message_told plan a marks (CBA code) = []
message_told plan a marks ECO = []
message_told plan a marks ECA = []
message_told plan a marks (RST x) = []

-- T6 of X ends, X's messages move, and "one with no route is dropped, reason 1" (R137, R152)
abbrev pub release_told : Plan → Areas → Areas → ℕ → List Report
release_told plan a after x = drops_for 1 a.rows (stranded (goes_to plan after.links after.marks a.rows) (let_go a x))

-- by the event, where no link goes out: from the areas before it to those after it
unfoldable pub event_told : Plan → List ℕ → Areas → Areas → Event → List Report
event_told plan message a after (IntoService link) = access_changes plan a.links a.marks after.links a.marks
event_told plan message a after (Received link fsn) =
    of_managed [] (λ (order : Order). message_told plan a after.marks order.message) (from_link plan message)
event_told plan message a after (T6 x) = release_told plan a after x
event_told plan message a after (Failure link) = []
event_told plan message a after (Send link) = []
event_told plan message a after (Acknowledgement link b) = []
event_told plan message a after FromHost = []
event_told plan message a after (T1 link) = []
event_told plan message a after (T2 link) = []
event_told plan message a after (T3 link) = []
event_told plan message a after (T4 link) = []
event_told plan message a after (T8 x) = []
event_told plan message a after (T10 x set) = []

-- every call: of a link that it takes out, else of its event where the reply is 0; a refusal tells nothing (R69)
unfoldable pub reports_of_call : Plan → List ℕ → Event → Areas → Result → List Report
reports_of_call plan message event a r =
    let ending = ending_of plan a message (view_of event) in
    cond ending.ends (ending_told plan ending) (if_done r.answer.reply (event_told plan message a r.after.areas event) [])
