-- Where a message is after a call, by its arrival number: "everything queued is in one place" (D3), in a queue, reported dropped, or gone from here.
use Rattle.std.specs.Prelude.{ℕ, zero, suc, ◌+◌, ◌*◌, ◌/◌, min, Bool, true, false, cond, ◌&&◌, List, eqb, ltb, length, get_or}
use Rattle.area_slots.specs.declared.Slot.{Slot}
use Rattle.area_slots.specs.SlotRows.{slot_at}
use Rattle.fate_places.specs.declared.Held.{Held as Lent}
use Rattle.queue_rings.specs.Ring.{count_of, at_of}
use Rattle.reports.specs.Report.{pause}

-- the queues of a node with their messages: of each of 32 links, and in ring 32 those held apart
pub record Held : Type 0 where
  pub spans : List ℕ
  pub rings : List ℕ
  pub rows : List ℕ

abbrev pub held : List ℕ → List ℕ → List ℕ → Held
held spans rings rows = record { spans = spans; rings = rings; rows = rows }

-- those that are lent to be read
abbrev pub held_of : Lent → Held
held_of lent = held lent.spans.now lent.rings.now lent.rows.now

-- the first of so many places from one on that passes a test, told by its place; with none, what is told then
unfoldable pub seek : {A : Type 0} → (ℕ → Bool) → (ℕ → A) → A → ℕ → ℕ → A
seek test told none place zero = none
seek test told none place (suc more) = cond (test place) (told place) (seek test told none (place + 1) more)

-- how many places of a queue there are: it holds at most 256 messages
unfoldable pub places : Held → ℕ → ℕ
places h queue = min (count_of h.spans queue) 256

-- the message at a place of a queue
unfoldable pub message_at : Held → ℕ → ℕ → Slot
message_at h queue place = slot_at h.rows (at_of h.spans h.rings queue place).slot

-- whether the message with an arrival number stands in a queue
unfoldable pub stands : Held → ℕ → ℕ → Bool
stands h queue arrival =
    seek (λ (place : ℕ). eqb (message_at h queue place).arrival arrival) (λ (place : ℕ). true) false 0 (places h queue)

-- in none of the 33 queues
abbrev pub nowhere : ℕ
nowhere = 33

-- the queue that it stands in
unfoldable pub queue_with : Held → ℕ → ℕ
queue_with h arrival = seek (λ (queue : ℕ). stands h queue arrival) (λ (queue : ℕ). queue) nowhere 0 33

-- whether a record of a report area is a drop of that message: a pause, a resume aren't
abbrev pub tells_drop : List ℕ → ℕ → ℕ → Bool
tells_drop reports arrival k = ltb (get_or reports (2 * k) 0) pause && eqb (get_or reports (2 * k + 1) 0) arrival

-- whether it is reported dropped, in so many records of those that the area holds
unfoldable pub dropped : List ℕ → ℕ → ℕ → Bool
dropped reports count arrival =
    seek (tells_drop reports arrival) (λ (k : ℕ). true) false 0 (min count (length reports / 2))

-- still where it was, and reported dropped
abbrev pub stays : ℕ
stays = 34

abbrev pub told_dropped : ℕ
told_dropped = 35

-- where a message is that stood in a queue: it stays there, has another queue now, is reported dropped, or is nowhere
unfoldable pub whither : Held → List ℕ → ℕ → ℕ → ℕ → ℕ
whither h reports count queue arrival =
    cond (stands h queue arrival) stays
    (cond (ltb (queue_with h arrival) nowhere) (queue_with h arrival) (cond (dropped reports count arrival) told_dropped nowhere))
