-- What became of messages by a call (docs/FORMATS.md, "Fates"): the queues before it and after it, message by message, by arrival numbers (R20).
use Rattle.std.specs.Prelude.{ℕ, zero, suc, ◌+◌, ◌-◌, min, cond, List, [], ◌∷◌, ◌++◌, eqb, ltb}
use Rattle.area_slots.specs.declared.Slot.{Slot}
use Rattle.area_links.specs.LinkRecords.{record_at}
use Rattle.fate_places.specs.Places.{Held, places, message_at, nowhere, whither}
use Rattle.fate_lines.specs.declared.Fate.{Fate}
use Rattle.fate_lines.specs.declared.Fate.TheVariants.{Unchanged, Queued, Sent, Acknowledged, Retired, Moved}
use Rattle.replay_fates.specs.declared.deciding.Part.{Part}
use Rattle.replay_fates.specs.declared.deciding.Part.TheVariants.{Arriving, Acknowledging, Retiring, Moving}
use Rattle.replay_fates.specs.declared.deciding.Told.{Told}

-- one message of a queue, in one part of what is told, by where it is after the call. "a message was queued on that link and has that arrival number": one from
-- the next number before the call on. "level 2 of the far end has it", "a changeover number says that the far end has it": it is in no queue and not reported
-- dropped. "it left one link's queue for another's"
abbrev pub fate_of : Part → ℕ → Slot → ℕ → Fate
fate_of (Arriving next) queue known to =
    cond (ltb known.arrival next) Unchanged (Queued known.arrival queue known.heading)
fate_of Acknowledging queue known to = cond (eqb to nowhere) (Acknowledged known.arrival queue) Unchanged
fate_of Retiring queue known to = cond (eqb to nowhere) (Retired known.arrival queue) Unchanged
fate_of Moving queue known to = cond (ltb to nowhere) (Moved known.arrival queue to) Unchanged

-- the message at a place of a queue that is walked, by the queues after the call and what it reported
abbrev pub fate_at : Part → Held → Held → List ℕ → ℕ → ℕ → ℕ → Fate
fate_at part walked after reports count queue place =
    let known = message_at walked queue place in
    fate_of part queue known (whither after reports count queue known.arrival)

-- those of so many places from one on, "in the order of the queue"
unfoldable pub fates_at : Part → Held → Held → List ℕ → ℕ → ℕ → ℕ → ℕ → List Fate
fates_at part walked after reports count queue place zero = []
fates_at part walked after reports count queue place (suc more) =
    fate_at part walked after reports count queue place ∷ fates_at part walked after reports count queue (place + 1) more

-- those of so many queues from one on, "in the order of their links, `apart` last", while so many messages are left
unfoldable pub fates_from : Part → Held → Held → List ℕ → ℕ → ℕ → ℕ → ℕ → List Fate
fates_from part walked after reports count queue zero left = []
fates_from part walked after reports count queue (suc more) left =
    let many = min (places walked queue) left in
    fates_at part walked after reports count queue 0 many
    ++ fates_from part walked after reports count (queue + 1) more (left - many)

-- one part: those of 32 links and those held apart. "Held at once: 192 user messages and 64 management messages" (R17, R18)
unfoldable pub fates_in : Part → Held → Held → List ℕ → ℕ → List Fate
fates_in part walked after reports count = fates_from part walked after reports count 0 33 256

-- "it left over that link with that number": the last that the link has sent
unfoldable pub sent_fate : Told → List ℕ → Held → Fate
sent_fate told links after =
    cond (ltb told.sender 32)
    (Sent (message_at after told.sender ((record_at links told.sender).sent - 1)).arrival told.sender told.fsn)
    Unchanged

-- what an acknowledgement takes out of the queues is acknowledged, what any other call does is retired
abbrev pub leaving_part : Told → Part
leaving_part told = cond told.acknowledges Acknowledging Retiring

-- what left the queues that it stood in before the call: "acknowledged, retired and moved"
abbrev pub left_of : Told → Held → Held → List ℕ → List Fate
left_of told before after reports =
    fates_in (leaving_part told) before after reports told.reports ++ fates_in Moving before after reports told.reports

-- "first what was queued, then what was sent, acknowledged, retired and moved": by the links after the call, the queues before and after it, and its reports
unfoldable pub fates_of : Told → List ℕ → Held → Held → List ℕ → List Fate
fates_of told links before after reports =
    fates_in (Arriving told.next) after after reports told.reports
    ++ (sent_fate told links after ∷ left_of told before after reports)
