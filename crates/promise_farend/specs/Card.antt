-- The card driver's record of a link, over a run of calls: "The record of one link is brought up to date where it lies by the card driver's
-- calls" (R185), with each send and each acknowledgement of that link whose reply is 0.
use Rattle.std.specs.Prelude.{ℕ, ◌≡◌, Bool, cond, ◌&&◌, List, [], ◌∷◌, eqb}
use Rattle.counting.specs.Counting.{onward}
use Rattle.library_card.specs.declared.Record.{Record}
use Rattle.library_card.specs.Card.{begun, sent_one, accepts, acknowledged_to}
use Rattle.plan.specs.declared.data.Plan.{Plan}
use Rattle.area_links.specs.LinkRecords.{record_at}
use Rattle.replies.specs.Areas.{Areas}
use Rattle.numbers.specs.Numbers.{next_number}
use Rattle.acknowledging.specs.Acknowledge.{b_in_range}
use Rattle.node.specs.View.{View, Comes, Fails, Sends, Acknowledges, Arrives, HandedOver, Overdue, Expires, view_of}
use Rattle.node.specs.Memory.{Memory}
use Rattle.promise_runs.specs.Run.{Call, called}
use Rattle.promise_farend.specs.History.{result_of, is_done}

-- with an event more, whose reply is 0 or not: begun anew where the link comes into service
unfoldable pub noted_by : ℕ → Bool → Record → View → Record
noted_by link done card (Comes other) = cond (eqb other link && done) begun card
noted_by link done card (Sends other) = cond (eqb other link && done) (sent_one card).link card
noted_by link done card (Acknowledges other b) = cond (eqb other link && done) (acknowledged_to card b).link card
noted_by link done card (Fails other) = card
noted_by link done card (Arrives other fsn) = card
noted_by link done card HandedOver = card
noted_by link done card (Overdue other timer) = card
noted_by link done card Expires = card

-- with a call more
unfoldable pub noted : Plan → Call → Memory → ℕ → Record → Record
noted plan call m link card = noted_by link (is_done (result_of plan call m)) card (view_of call.event)

-- and over a run of calls
unfoldable pub noted_in : Plan → List Call → Memory → ℕ → Record → Record
noted_in plan [] m link card = card
noted_in plan (call ∷ later) m link card = noted_in plan later (called plan call m) link (noted plan call m link card)

-- the record says what the node's own numbers say
pub record Agrees (a : Areas) (link : ℕ) (card : Record) : Type 0 where
  pub acknowledged_is : card.acknowledged ≡ (record_at a.links link).acknowledged
  -- the last sent number is as many on from the last acknowledged as are sent, modulo 128
  pub sent_is : card.sent ≡ onward 128 (record_at a.links link).acknowledged (record_at a.links link).sent
  -- so the next message has the same number by both
  pub next_is : (sent_one card).number ≡ next_number (record_at a.links link)
  -- and the same acknowledgements are in range
  pub range_is : (b : ℕ) → accepts card b ≡ b_in_range a.links link b
