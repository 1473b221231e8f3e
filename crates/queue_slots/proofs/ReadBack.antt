-- What is written into a slot is read back from it until the slot is written again, whatever is written into other slots.
-- Assumes nothing.
use mathlib.Core.Path.{◌≡◌, refl, ◌∙◌}
use mathlib.Core.Bool.{true}
use mathlib.Core.List.{List, [], ◌∷◌, ◌++◌}
use Prim.Native.Nat.{ℕ, ◌+◌, ◌≤◌, ◌<◌}
use native.Mathlib.Omega.{arith}
use lib.ListN.{length, drop}
use borrow.Author.Tests.{ltb-true, le-leb}
use Rattle.area_rows.specs.Rows.{word_at, with_row}
use Rattle.area_slots.specs.SlotRows.{slot_at, with_slot}
use Rattle.area_slots.specs.declared.Slot.{Slot}
use Rattle.area_rows.proofs.Laws.{row_same, row_other, row_length}
use Rattle.queue_slots.specs.Message.{user_row, management_row, fits, user_rows, user_octets, management_rows, octets_at, copies, copied}
use Rattle.queue_slots.specs.Write.{Write, slot_of, written, row_of, rows_with, octets_with, Elsewhere, rows_after, octets_after}
use Rattle.queue_rings.proofs.Runs.{run_same, run_of}
use Rattle.queue_slots.proofs.Messages.{fits_not_slot, fits_not_size}
use borrow.Table.Steps.{cases}
use Rattle.queue_rings.proofs.Cases.{only_below}

module _ (rows : List ℕ) (slot : ℕ) (message : Slot) where
  slot_same : length rows ≡ 2048 → slot < 256 → slot_at (with_slot rows slot message) slot ≡ message
  slot_same long h =
      let words : List ℕ = message.arrival ∷ message.heading ∷ message.point ∷ message.sls ∷ message.field ∷ [] in
      let same = row_same 256 8 rows slot words (omega arith) h long in
      simp (same 0 (omega arith), same 1 (omega arith), same 2 (omega arith), same 3 (omega arith), same 4 (omega arith))

  slot_other : (other : ℕ) → (other ≡ slot → ⊥) → slot_at (with_slot rows slot message) other ≡ slot_at rows other
  slot_other other apart =
      let words : List ℕ = message.arrival ∷ message.heading ∷ message.point ∷ message.sls ∷ message.field ∷ [] in
      let same = row_other 256 8 rows slot words (omega arith) other apart in
      simp (same 0 (omega arith), same 1 (omega arith), same 2 (omega arith), same 3 (omega arith), same 4 (omega arith))

  slot_length : length (with_slot rows slot message) ≡ length rows
  slot_length =
      row_length 256 8 rows slot
      (message.arrival ∷ message.heading ∷ message.point ∷ message.sls ∷ message.field ∷ [])
      (omega arith)

-- what fits is in a user slot, and has at most 273 octets
module _ (slot size : ℕ) (fit : fits slot size ≡ true) where
  pub fits_slot : slot < 192
  fits_slot = only_below slot 192 (fits_not_slot slot size) fit

  pub fits_size : size ≤ 273
  fits_size = omega (arith, only_below size 274 (fits_not_size slot size) fit)

-- a user message is read back
pub user_read : (rows : List ℕ) (slot arrival point sls size : ℕ) → length rows ≡ 2048 → fits slot size ≡ true
    → slot_at (user_rows rows slot arrival point sls size) slot
    ≡ user_row arrival point sls size
unfolding user_rows
user_read rows slot arrival point sls size long fit =
    simp fit
    (slot_same rows slot (user_row arrival point sls size) long
    (omega (arith, fits_slot slot size fit)))

-- and so is a management message
pub management_read : (rows : List ℕ) (slot arrival heading point slc field : ℕ) → length rows ≡ 2048 → slot < 256
    → slot_at (management_rows rows slot arrival heading point slc field) slot
    ≡ management_row arrival heading point slc field
unfolding management_rows
management_read rows slot arrival heading point slc field long h =
    slot_same rows slot (management_row arrival heading point slc field) long h

-- the octets of a user message are read back
pub octets_read : (octets : List ℕ) (slot : ℕ) (message : List ℕ) → length octets ≡ 52416 → fits slot (length message) ≡ true
    → octets_at (user_octets octets slot message) slot (length message) ≡ message
unfolding octets_at user_octets
octets_read octets slot message long fit =
    simp fit
    (run_of (word_at 192 273 (with_row 192 273 octets slot message) slot) message
    (λ i h.
    row_same 192 273 octets slot message (fits_size slot (length message) fit) (fits_slot slot (length message) fit) long i h))

-- and copied back
pub copied_back : (octets : List ℕ) (slot : ℕ) (message out : List ℕ) → length octets ≡ 52416 → fits slot (length message) ≡ true
    → length message ≤ length out
    → copied (user_octets octets slot message) slot (length message) out ≡ message ++ drop (length message) out
unfolding copied copies
copied_back octets slot message out long fit room =
    simp (fit, le-leb (length message) (length out) room, octets_read octets slot message long fit)

-- a write into another slot leaves a slot's row
pub row_kept : (rows : List ℕ) (write : Write) (slot : ℕ) → (slot ≡ slot_of write → ⊥)
    → slot_at (rows_with rows write) slot ≡ slot_at rows slot
unfolding user_rows management_rows
row_kept rows (Write.user at arrival point sls message) slot apart =
    cases (fits at (length message))
    (λ e.
    simp e
    (slot_other rows at (user_row arrival point sls (length message)) slot apart))
    (λ e. simp e)
row_kept rows (Write.management at arrival heading point slc field) slot apart =
    slot_other rows at (management_row arrival heading point slc field) slot apart

-- and its octets
pub octets_kept : (octets : List ℕ) (write : Write) (slot size : ℕ) → size ≤ 273 → (slot ≡ slot_of write → ⊥)
    → octets_at (octets_with octets write) slot size ≡ octets_at octets slot size
unfolding octets_at user_octets
octets_kept octets (Write.user at arrival point sls message) slot size short apart =
    cases (fits at (length message))
    (λ e.
    simp e
    (run_same (word_at 192 273 (with_row 192 273 octets at message) slot) (word_at 192 273 octets slot) 0 0 size
    (λ i h.
    row_other 192 273 octets at message (fits_size at (length message) e) slot apart (0 + i) (omega arith))))
    (λ e. simp e)
octets_kept octets (Write.management at arrival heading point slc field) slot size short apart = refl

-- however many are written into other slots
pub rows_kept : (writes : List Write) (rows : List ℕ) (slot : ℕ) → Elsewhere slot writes
    → slot_at (rows_after rows writes) slot ≡ slot_at rows slot
unfolding rows_after
rows_kept [] rows slot apart = refl
rows_kept (write ∷ writes) rows slot apart =
    rows_kept writes (rows_with rows write) slot apart.1 ∙ row_kept rows write slot apart.0

pub all_octets_kept : (writes : List Write) (octets : List ℕ) (slot size : ℕ) → size ≤ 273 → Elsewhere slot writes
    → octets_at (octets_after octets writes) slot size ≡ octets_at octets slot size
unfolding octets_after
all_octets_kept [] octets slot size short apart = refl
all_octets_kept (write ∷ writes) octets slot size short apart =
    all_octets_kept writes (octets_with octets write) slot size short apart.1
    ∙ octets_kept octets write slot size short apart.0

-- the row of what was written is read back, whatever is written into other slots behind it
pub row_back : (rows : List ℕ) (write : Write) (writes : List Write) → length rows ≡ 2048 → written write ≡ true
    → Elsewhere (slot_of write) writes → slot_at (rows_after rows (write ∷ writes)) (slot_of write) ≡ row_of write
unfolding rows_after
row_back rows (Write.user slot arrival point sls message) writes long fit apart =
    rows_kept writes (user_rows rows slot arrival point sls (length message)) slot apart
    ∙ user_read rows slot arrival point sls (length message) long fit
row_back rows (Write.management slot arrival heading point slc field) writes long there apart =
    rows_kept writes (management_rows rows slot arrival heading point slc field) slot apart
    ∙ management_read rows slot arrival heading point slc field long (ltb-true slot 256 there)

-- and so are the octets of a user message
pub octets_back : (octets : List ℕ) (slot arrival point sls : ℕ) (message : List ℕ) (writes : List Write) → length octets ≡ 52416
    → fits slot (length message) ≡ true → Elsewhere slot writes
    → octets_at (octets_after octets (Write.user slot arrival point sls message ∷ writes)) slot (length message) ≡ message
unfolding octets_after
octets_back octets slot arrival point sls message writes long fit apart =
    all_octets_kept writes (user_octets octets slot message) slot (length message) (fits_size slot (length message) fit) apart
    ∙ octets_read octets slot message long fit

-- a write leaves the areas as long as they were
pub rows_length : (rows : List ℕ) (write : Write) → length (rows_with rows write) ≡ length rows
unfolding user_rows management_rows
rows_length rows (Write.user at arrival point sls message) =
    cases (fits at (length message))
    (λ e.
    simp e (slot_length rows at (user_row arrival point sls (length message))))
    (λ e. simp e)
rows_length rows (Write.management at arrival heading point slc field) =
    slot_length rows at (management_row arrival heading point slc field)

pub octets_long_lem : (octets : List ℕ) (write : Write) → length (octets_with octets write) ≡ length octets
unfolding user_octets
octets_long_lem octets (Write.user at arrival point sls message) =
    cases (fits at (length message))
    (λ e. simp e (row_length 192 273 octets at message (fits_size at (length message) e)))
    (λ e. simp e)
octets_long_lem octets (Write.management at arrival heading point slc field) = refl
