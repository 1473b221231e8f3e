-- What is told of a call's messages (docs/FORMATS.md, "Fates") is the history that the promises speak of, line by line and in their order.
use Rattle.std.specs.Prelude.{ℕ, ◌+◌, ◌≤◌, ◌<◌, ◌≡◌, true, cond, ◌&&◌, List, [], ◌∷◌, ◌++◌, map, eqb, ltb}
use Rattle.constants.specs.Constants.{no_link, apart_ring}
use Rattle.plan.specs.declared.data.Plan.{Plan}
use Rattle.wire.specs.declared.header.Label.{Label}
use Rattle.wire_messages.specs.Management.{heading_of}
use Rattle.queue_store.specs.Sound.{bit, tally, is}
use Rattle.replies.specs.Areas.{Areas}
use Rattle.queue_joining.specs.Queue.{next_of}
use Rattle.management_making.specs.declared.Draft.{Draft}
use Rattle.discrimination.specs.declared.Came.TheVariants.{Passed}
use Rattle.node.specs.declared.call.Event.{Event}
use Rattle.node.specs.declared.call.Event.TheVariants.{IntoService, Failure, Send, Acknowledgement, Received, FromHost, T1, T2, T3, T4, T6, T8, T10}
use Rattle.node.specs.View.{View, Comes, Fails, Sends, Acknowledges, Arrives, HandedOver, Overdue, Expires, view_of}
use Rattle.node.specs.Memory.{Memory, Result}
use Rattle.fate_lines.specs.declared.Fate.{Fate}
use Rattle.fate_lines.specs.declared.Fate.TheVariants.{Queued, Sent, Acknowledged, Retired}
use Rattle.promise_runs.specs.Run.{Call}
use Rattle.promise_ledger.specs.Held.{arrival_of}
use Rattle.promise_leaving.specs.Going.{going}
use Rattle.promise_leaving.specs.Apart.{let_go}
use Rattle.promise_accounts.specs.Ending.{Ending}
use Rattle.promise_accounts.specs.Gone.{queue_of, acknowledged_by, retired_by}
use Rattle.promise_contents.specs.Made.{User, Made, new_of}
use Rattle.promise_contents.specs.Given.{gives}
use Rattle.promise_queueing.specs.Joining.{came_by, joins_at}
use Rattle.promise_farend.specs.History.{result_of, is_done, sending_of}
use Rattle.promise_changeover.specs.ChangedOver.{found, ending_by, moved_to}
use Rattle.promise_apart.specs.LetGo.{goes}
use Rattle.promise_fates.specs.Told.{seen_of, fates_seen}
use Rattle.promise_fates.specs.Lines.{picked, queued_line, sent_line, acknowledged_line, retired_line, moved_line}

-- all that is told of a call made on a memory, line by line (R225)
abbrev pub fates_by : Plan → Call → Memory → List Fate
fates_by plan call m = fates_seen (seen_of plan call m)

-- the link whose messages an event acknowledges: "Acknowledgement (open)" (R107)
abbrev pub acknowledged_over : View → ℕ
acknowledged_over (Acknowledges link b) = link
acknowledged_over (Comes link) = no_link
acknowledged_over (Fails link) = no_link
acknowledged_over (Sends link) = no_link
acknowledged_over (Arrives link fsn) = no_link
acknowledged_over HandedOver = no_link
acknowledged_over (Overdue link timer) = no_link
acknowledged_over Expires = no_link

-- "Messages up to B are retired" (R109): the lines `acknowledged` are those messages, in order, each with the link that the acknowledgement names
abbrev pub AcknowledgedAre : Plan → Call → Memory → Type 0
AcknowledgedAre plan call m =
    let view = view_of call.event in
    picked acknowledged_line (fates_by plan call m)
    ≡ map (λ (number : ℕ). Acknowledged number (acknowledged_over view)) (acknowledged_by plan (found call m) view)

-- "F in range: messages up to F are retired" (R125): the lines `retired` are those messages, in order, each with the link that goes out
abbrev pub RetiredAre : Plan → Call → Memory → Type 0
RetiredAre plan call m =
    picked retired_line (fates_by plan call m)
    ≡ map (λ (number : ℕ). Retired number (ending_by plan call m).link) (retired_by plan (found call m) call.message (view_of call.event))

-- what a send with reply 0 adds to its link's history, as a line: "the first unsent message leaves with the next FSN" (R102, R103); no other event sends
unfoldable pub sent_by : Areas → Result → View → List Fate
sent_by a r (Sends link) = cond (is_done r) (Sent (sending_of a link r).arrival link (sending_of a link r).fsn ∷ []) []
sent_by a r (Comes link) = []
sent_by a r (Fails link) = []
sent_by a r (Acknowledges link b) = []
sent_by a r (Arrives link fsn) = []
sent_by a r HandedOver = []
sent_by a r (Overdue link timer) = []
sent_by a r Expires = []

-- the line `sent` is that, and no other call has one
abbrev pub SentAre : Plan → Call → Memory → Type 0
SentAre plan call m = picked sent_line (fates_by plan call m) ≡ sent_by (found call m) (result_of plan call m) (view_of call.event)

-- "Each queued message, of both kinds, gets an arrival number counted up from 0" (R20): a call that queues a message has one line `queued`, with the next
-- number, and any other call has none
pub record QueuedAre (plan : Plan) (call : Call) (m : Memory) : Type 0 where
  -- the queue that is told, and the heading by which a name is told
  pub queue : ℕ
  pub heading : ℕ
  pub lines : picked queued_line (fates_by plan call m)
      ≡ cond (gives plan call.event call.message (found call m)) (Queued (next_of (found call m).arrivals) queue heading ∷ []) []
  -- so the numbers told are those from the next before the call up to the next after it
  pub counted : next_of (result_of plan call m).after.areas.arrivals
      ≡ next_of (found call m).arrivals + bit (gives plan call.event call.message (found call m))
  -- the message stands in that queue: a link's, or among those held apart
  pub stands : gives plan call.event call.message (found call m) ≡ true
      → (queue < 33) × (1 ≤ tally (is (next_of (found call m).arrivals)) (queue_of (result_of plan call m).after.areas queue))
  -- a message of the host or one that is passed on: the queue is the one that it joins by the rule, or while T6 runs those held apart (R142, R151)
  pub joins : (label : Label) → came_by plan call.message (view_of call.event) ≡ Passed label → (result_of plan call m).answer.reply ≡ 0
      → queue ≡ joins_at plan (found call m) label
  -- one that the node made: by its heading the name of that message is told
  pub made : (draft : Draft) → new_of plan call.event call.message (found call m) ≡ Made draft
      → gives plan call.event call.message (found call m) ≡ true → heading ≡ heading_of draft.message
  -- a user message has none, and is told without a name
  pub unnamed : (size : ℕ) → new_of plan call.event call.message (found call m) ≡ User size
      → gives plan call.event call.message (found call m) ≡ true → heading ≡ 0

-- those that leave the queue of a link that goes out for another: "To move is to queue each message, in order and with its arrival number, by the rule
-- above" (R134, R135, R136)
unfoldable pub left_for : Plan → Ending → ℕ → ℕ → List ℕ
left_for plan ending from to = cond (ending.ends && eqb from ending.link) (moved_to plan ending to) []

-- those that leave those held apart when T6 of X ends: "held apart until it ends, then move" (R151, R152)
unfoldable pub let_go_for : Plan → Areas → Result → Event → ℕ → ℕ → List ℕ
let_go_for plan a r (T6 x) from to =
    cond (is_done r && eqb from apart_ring) (map (arrival_of a.rows) (going (goes plan a r.after.areas.marks) to (let_go a x))) []
let_go_for plan a r (IntoService link) from to = []
let_go_for plan a r (Failure link) from to = []
let_go_for plan a r (Send link) from to = []
let_go_for plan a r (Acknowledgement link b) from to = []
let_go_for plan a r (Received link fsn) from to = []
let_go_for plan a r FromHost from to = []
let_go_for plan a r (T1 link) from to = []
let_go_for plan a r (T2 link) from to = []
let_go_for plan a r (T3 link) from to = []
let_go_for plan a r (T4 link) from to = []
let_go_for plan a r (T8 x) from to = []
let_go_for plan a r (T10 x set) from to = []

-- the lines `moved` from one queue to another are those, in order; none goes to those held apart, and no other call has such a line
abbrev pub MovedAre : Plan → Call → Memory → Type 0
MovedAre plan call m =
    (from to : ℕ)
    → picked (moved_line from to) (fates_by plan call m)
    ≡ cond (ltb to no_link)
    (left_for plan (ending_by plan call m) from to ++ let_go_for plan (found call m) (result_of plan call m) call.event from to)
    []

-- what is told of a call is what the promises speak of
pub record FatesAre (plan : Plan) (call : Call) (m : Memory) : Type 0 where
  -- `new-joins`, `made_held`
  pub queued : QueuedAre plan call m
  -- `in_order`, `far-end`
  pub sent : SentAre plan call m
  -- `everything-in-one-place`
  pub acknowledged : AcknowledgedAre plan call m
  pub retired : RetiredAre plan call m
  -- `changed-over`, `t6-ends`
  pub moved : MovedAre plan call m
