-- A link's history, collected call by call from its coming into service on: what was queued on it, what was sent over it, and what was
-- acknowledged: "over each link, from its coming into service, it takes a beginning of what was sent there, in order" (R216).
use Rattle.std.specs.Prelude.{ℕ, ◌+◌, ◌≡◌, Bool, false, cond, ◌&&◌, List, [], ◌∷◌, ◌++◌, map, eqb, length, take}
use Rattle.counting.specs.Counting.{onward}
use Rattle.plan.specs.declared.data.Plan.{Plan}
use Rattle.area_links.specs.LinkRecords.{record_at}
use Rattle.queue_rings.specs.Run.{run}
use Rattle.replies.specs.Areas.{Areas}
use Rattle.sending.specs.Send.{first_unsent}
use Rattle.node.specs.View.{View, Comes, Fails, Sends, Acknowledges, Arrives, HandedOver, Overdue, Expires, view_of}
use Rattle.node.specs.Memory.{Memory, Result}
use Rattle.node.specs.Call.{call_of}
use Rattle.promise_runs.specs.Run.{Call, lent, called}
use Rattle.promise_ledger.specs.Held.{arrival_of, put_on}
use Rattle.promise_accounts.specs.Gone.{queue_of, up_to_b}

-- "the first unsent message leaves with the next FSN" (R102, R103): its arrival number, the FSN, and the octets that left
pub record Sending : Type 0 where
  pub arrival : ℕ
  pub fsn : ℕ
  pub octets : List ℕ

-- arrival numbers in the order in which they were queued and acknowledged, and the sends, first to last
pub record History : Type 0 where
  pub queued : List ℕ
  pub sent : List Sending
  pub acknowledged : List ℕ

-- that of a link that has never been in service, or has just come into it (R91)
abbrev pub begun : History
begun = record { queued = []; sent = []; acknowledged = [] }

-- what a call gives, with the areas that are lent to it
abbrev pub result_of : Plan → Call → Memory → Result
result_of plan call m = call_of plan call.event call.message (lent call m)

-- whether it is done: its reply is 0
abbrev pub is_done : Result → Bool
is_done r = eqb r.answer.reply 0

-- the send of a link, from the areas before it and by what it gives: the octets stand at the start of the lent output (R69)
abbrev pub sending_of : Areas → ℕ → Result → Sending
sending_of a link r =
    record {
      arrival = arrival_of a.rows (first_unsent a.links a.spans a.rings link);
      fsn = r.answer.fsn;
      octets = take r.answer.octets r.after.out;
    }

-- with more behind what was queued, sent, or acknowledged
abbrev pub with_queued : History → List ℕ → History
with_queued h new = record { queued = h.queued ++ new; sent = h.sent; acknowledged = h.acknowledged }

abbrev pub with_sending : History → Sending → History
with_sending h new = record { queued = h.queued; sent = h.sent ++ (new ∷ []); acknowledged = h.acknowledged }

abbrev pub with_acknowledged : History → List ℕ → History
with_acknowledged h new = record { queued = h.queued; sent = h.sent; acknowledged = h.acknowledged ++ new }

-- what an event of the link does: it begins its history anew, sends a message, or acknowledges some (R89, R102, R109)
unfoldable pub event_by : Plan → Areas → ℕ → Result → History → View → History
event_by plan a link r h (Comes other) = cond (eqb other link && is_done r) begun h
event_by plan a link r h (Sends other) = cond (eqb other link && is_done r) (with_sending h (sending_of a link r)) h
event_by plan a link r h (Acknowledges other b) = cond (eqb other link && is_done r) (with_acknowledged h (up_to_b plan a link b)) h
event_by plan a link r h (Fails other) = h
event_by plan a link r h (Arrives other fsn) = h
event_by plan a link r h HandedOver = h
event_by plan a link r h (Overdue other timer) = h
event_by plan a link r h Expires = h

-- what a call puts on the link, whatever its event: what stands in the queue after it and didn't before
abbrev pub put_by : Areas → ℕ → Result → List ℕ
put_by a link r = put_on (queue_of a link) (queue_of r.after.areas link)

-- with a call more
unfoldable pub history_by : Plan → Call → Memory → ℕ → History → History
history_by plan call m link h =
    let a = (lent call m).areas in
    let r = result_of plan call m in
    with_queued (event_by plan a link r h (view_of call.event)) (put_by a link r)

-- and over a run of calls
unfoldable pub history_in : Plan → List Call → Memory → ℕ → History → History
history_in plan [] m link h = h
history_in plan (call ∷ later) m link h = history_in plan later (called plan call m) link (history_by plan call m link h)

-- whether the link comes into service by an event, one that is done or one that isn't: then its history begins anew (R89)
unfoldable pub begins : ℕ → Bool → View → Bool
begins link done (Comes other) = eqb other link && done
begins link done (Sends other) = false
begins link done (Acknowledges other b) = false
begins link done (Fails other) = false
begins link done (Arrives other fsn) = false
begins link done HandedOver = false
begins link done (Overdue other timer) = false
begins link done Expires = false

-- the messages sent, and their numbers, first to last
abbrev pub arrivals : List Sending → List ℕ
arrivals sent = map (λ (s : Sending). s.arrival) sent

abbrev pub numbers_of : List Sending → List ℕ
numbers_of sent = map (λ (s : Sending). s.fsn) sent

-- the number of the last of so many messages sent in a time of service, counted on from 127; "or the starting number if none is" (R218)
abbrev pub number_after : ℕ → ℕ
number_after count = onward 128 127 count

-- while the link is in service, its own numbers say the same: how many are sent and not acknowledged, and the last acknowledged
pub record Serving (a : Areas) (link : ℕ) (h : History) : Type 0 where
  pub sent_is : length h.sent ≡ length h.acknowledged + (record_at a.links link).sent
  pub acknowledged_is : (record_at a.links link).acknowledged ≡ number_after (length h.acknowledged)

-- and nothing that was queued is lost or passes another; while the link is out its history stays as it was when it went out
pub record InOrder (a : Areas) (link : ℕ) (h : History) : Type 0 where
  -- what was queued is what is acknowledged, and behind it what is still queued
  pub history_is : h.queued ≡ h.acknowledged ++ queue_of a link
  -- what was sent is a beginning of it: the n-th send is the n-th that was queued (R102)
  pub sent_in_order : arrivals h.sent ≡ take (length h.sent) h.queued
  -- and their numbers are 127 + 1, 127 + 2, and so on, modulo 128 (R103)
  pub sent_numbered : numbers_of h.sent ≡ run number_after 1 (length h.sent)

-- "Into service (from out): .. the queue is empty" (R91): so a history begins with nothing queued, sent or acknowledged, and the call by which it
-- does puts nothing on the link
pub record BeginsEmpty (before after : Areas) (link : ℕ) (h : History) : Type 0 where
  pub nothing_yet : h ≡ begun
  pub empty_before : queue_of before link ≡ []
  pub empty_after : queue_of after link ≡ []

-- no call of a run brings the link into service
unfoldable pub GoesOn : Plan → List Call → Memory → ℕ → Type 0
GoesOn plan [] m link = Unit {0}
GoesOn plan (call ∷ later) m link =
    (begins link (is_done (result_of plan call m)) (view_of call.event) ≡ false) × GoesOn plan later (called plan call m) link

-- by such calls what was queued, sent and acknowledged stays the beginning of what is then
pub record Grows (before after : History) : Type 0 where
  pub queued_on : (new : List ℕ) × (after.queued ≡ before.queued ++ new)
  pub sent_on : (new : List Sending) × (after.sent ≡ before.sent ++ new)
  pub acknowledged_on : (new : List ℕ) × (after.acknowledged ≡ before.acknowledged ++ new)
