-- Writes one after the other, into any slots.
use Rattle.std.specs.Prelude.{ℕ, ◌≡◌, Bool, List, [], ◌∷◌, ltb, length}
use Rattle.area_slots.specs.declared.Slot.{Slot}
use Rattle.queue_slots.specs.Message.{fits, user_row, management_row, user_rows, user_octets, management_rows}

-- a message that is written into a slot
pub data Write : Type 0 where
  user : (slot arrival point sls : ℕ) (message : List ℕ) → Write
  management : (slot arrival heading point slc field : ℕ) → Write

-- the slot that it is written into
abbrev pub slot_of : Write → ℕ
slot_of (user slot arrival point sls message) = slot
slot_of (management slot arrival heading point slc field) = slot

-- whether it is written: a user message that doesn't fit isn't
abbrev pub written : Write → Bool
written (user slot arrival point sls message) = fits slot (length message)
written (management slot arrival heading point slc field) = ltb slot 256

-- the row that it leaves
abbrev pub row_of : Write → Slot
row_of (user slot arrival point sls message) = user_row arrival point sls (length message)
row_of (management slot arrival heading point slc field) = management_row arrival heading point slc field

-- the rows after a write
abbrev pub rows_with : List ℕ → Write → List ℕ
rows_with rows (user slot arrival point sls message) = user_rows rows slot arrival point sls (length message)
rows_with rows (management slot arrival heading point slc field) = management_rows rows slot arrival heading point slc field

-- the octets after a write: a management message has none
abbrev pub octets_with : List ℕ → Write → List ℕ
octets_with octets (user slot arrival point sls message) = user_octets octets slot message
octets_with octets (management slot arrival heading point slc field) = octets

-- none of the writes is into a slot
abbrev pub Elsewhere : ℕ → List Write → Type 0
Elsewhere slot [] = Unit
Elsewhere slot (write ∷ writes) = (slot ≡ slot_of write → ⊥) × Elsewhere slot writes

-- the rows after some writes, the first of them first
unfoldable pub rows_after : List ℕ → List Write → List ℕ
rows_after rows [] = rows
rows_after rows (write ∷ writes) = rows_after (rows_with rows write) writes

-- the octets after some writes
unfoldable pub octets_after : List ℕ → List Write → List ℕ
octets_after octets [] = octets
octets_after octets (write ∷ writes) = octets_after (octets_with octets write) writes
