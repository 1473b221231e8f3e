-- Messages in their slots: a row of fields for each slot, and 273 octets for each user slot.
use Rattle.std.specs.Prelude.{ℕ, Bool, false, cond, List, ◌++◌, ltb, leb, length, drop}
use Rattle.area_rows.specs.Rows.{word_at, with_row}
use Rattle.area_slots.specs.SlotRows.{with_slot}
use Rattle.area_slots.specs.declared.Slot.{Slot}
use Rattle.queue_rings.specs.Run.{run}

-- whether so many octets fit a slot for user messages
unfoldable pub fits : ℕ → ℕ → Bool
fits slot size = cond (ltb slot 192) (leb size 273) false

-- the row of a user message: its heading is 0, its size is the field
abbrev pub user_row : ℕ → ℕ → ℕ → ℕ → Slot
user_row arrival point sls size = record { arrival = arrival; heading = 0; point = point; sls = sls; field = size }

-- the rows after a user message is written; what doesn't fit isn't written
unfoldable pub user_rows : List ℕ → ℕ → ℕ → ℕ → ℕ → ℕ → List ℕ
user_rows rows slot arrival point sls size = cond (fits slot size) (with_slot rows slot (user_row arrival point sls size)) rows

-- the octets after a user message is written
unfoldable pub user_octets : List ℕ → ℕ → List ℕ → List ℕ
user_octets octets slot message = cond (fits slot (length message)) (with_row 192 273 octets slot message) octets

-- the row of a management message: its fields
abbrev pub management_row : ℕ → ℕ → ℕ → ℕ → ℕ → Slot
management_row arrival heading point slc field =
    record { arrival = arrival; heading = heading; point = point; sls = slc; field = field }

-- the rows after a management message is written
unfoldable pub management_rows : List ℕ → ℕ → ℕ → ℕ → ℕ → ℕ → ℕ → List ℕ
management_rows rows slot arrival heading point slc field = with_slot rows slot (management_row arrival heading point slc field)

-- the first octets of a user slot
unfoldable pub octets_at : List ℕ → ℕ → ℕ → List ℕ
octets_at octets slot size = run (word_at 192 273 octets slot) 0 size

-- whether so many octets of a slot can be copied to an output
unfoldable pub copies : ℕ → ℕ → ℕ → Bool
copies slot size room = cond (fits slot size) (leb size room) false

-- how many octets are copied: all or none
unfoldable pub copied_size : ℕ → ℕ → ℕ → ℕ
copied_size slot size room = cond (copies slot size room) size 0

-- the output after the copy: the octets at its start, all else as it was (R69)
unfoldable pub copied : List ℕ → ℕ → ℕ → List ℕ → List ℕ
copied octets slot size out = cond (copies slot size (length out)) (octets_at octets slot size ++ drop size out) out
