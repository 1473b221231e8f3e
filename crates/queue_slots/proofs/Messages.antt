-- What is written into a slot and copied from it, from what the code finds. Assumes nothing.
use mathlib.Core.Path.{◌≡◌, sym, ap, ◌∙◌}
use mathlib.Core.Bool.{true, false}
use mathlib.Core.List.{List, ◌++◌, append_assoc}
use Prim.Native.Nat.{ℕ, ◌+◌, ◌-◌, ◌*◌, ◌≤◌, ◌<◌}
use native.Mathlib.Nat.{zero-add}
use native.Mathlib.Omega.{arith}
use lib.Dec.{ltb}
use lib.ListN.{length, get_or, take, drop, length-drop}
use lib.Seq.{sets, sets-eq, drop-drop, ext_get_or, get_or-take, get_or-drop, length-take-le}
use borrow.Author.Tests.{lt-ltb, le-ltb, le-leb, lt-leb}
use borrow.Rule.Slice.PartMut.{put_mid}
use Rattle.area_rows.specs.Rows.{word_at}
use Rattle.area_slots.specs.SlotRows.{with_slot}
use Rattle.queue_slots.specs.Message.{user_row, fits, user_rows, user_octets, octets_at, copies, copied_size, copied}
use Rattle.queue_rings.proofs.Runs.{run_length, run_at}
use Rattle.queue_rings.proofs.Cases.{cond_same}

-- whether a message fits a slot, and whether it can be copied from it
module _ (slot size : ℕ) where
  pub fits_not_slot : 192 ≤ slot → fits slot size ≡ false
  unfolding fits
  fits_not_slot h = simp (le-ltb slot 192 h)

  pub fits_not_size : 273 < size → fits slot size ≡ false
  unfolding fits
  fits_not_size h = simp (lt-leb size 273 h) (cond_same (ltb slot 192))

  pub fits_there : slot < 192 → size ≤ 273 → fits slot size ≡ true
  unfolding fits
  fits_there h k = simp (lt-ltb slot 192 h, le-leb size 273 k)

  pub copies_not : (room : ℕ) → fits slot size ≡ false → copies slot size room ≡ false
  unfolding copies
  copies_not room h = simp h

  pub copies_short : (room : ℕ) → room < size → copies slot size room ≡ false
  unfolding copies
  copies_short room h = simp (lt-leb size room h) (cond_same (fits slot size))

-- words that are copied over the part of an area from a place on are set there
pub copied_over : (area : List ℕ) (at : ℕ) (words part : List ℕ) → at + length words ≤ length area → part ≡ words
    → put_mid at (at + length words - at) area part ≡ sets area at words
copied_over area at words part h e =
    let many : at + length words - at ≡ length words = omega arith in
    simp (many, e, drop-drop, sets-eq words area at h, append_assoc)

module _ (rows octets : List ℕ) (slot arrival point sls : ℕ) (message : List ℕ) where
  -- what doesn't fit isn't written
  pub user_none : fits slot (length message) ≡ false
      → (false ≡ fits slot (length message))
      × ((rows ≡ user_rows rows slot arrival point sls (length message)) × (octets ≡ user_octets octets slot message))
  unfolding user_rows user_octets
  user_none h = (sym h, (simp h, simp h))

  -- what fits is
  pub user_one : fits slot (length message) ≡ true → slot < 192
      → (true ≡ fits slot (length message))
      × ((with_slot rows slot (user_row arrival point sls (length message))
      ≡ user_rows rows slot arrival point sls (length message))
      × (sets octets (273 * slot) message ≡ user_octets octets slot message))
  unfolding user_rows user_octets
  user_one h k = (sym h, (simp h, simp (h, lt-ltb slot 192 k)))

module _ (octets : List ℕ) (slot size : ℕ) where
  -- an octet of a slot
  pub octets_at_lem : (i : ℕ) → slot < 192 → i < size → get_or (octets_at octets slot size) i 0 ≡ get_or octets (273 * slot + i) 0
  unfolding octets_at
  octets_at_lem i h k = run_at (word_at 192 273 octets slot) 0 size i k ∙ simp (lt-ltb slot 192 h, zero-add)

  pub octets_length : length (octets_at octets slot size) ≡ size
  unfolding octets_at
  octets_length = run_length (word_at 192 273 octets slot) 0 size

  -- the octets of a slot are the part of all octets from its first on
  pub octets_part : slot < 192 → 273 * slot + size ≤ length octets
      → take (273 * slot + size - 273 * slot) (drop (273 * slot) octets) ≡ octets_at octets slot size
  octets_part h k =
      let from = 273 * slot in
      let many : from + size - from ≡ size = omega arith in
      let rest : size ≤ length (drop from octets) = omega (arith, length-drop from octets) in
      let long : length (take size (drop from octets)) ≡ size = length-take-le size (drop from octets) rest in
      ap (λ (n : ℕ). take n (drop from octets)) many
      ∙ ext_get_or 0 (take size (drop from octets)) (octets_at octets slot size) (long ∙ sym octets_length)
      (λ i l.
      let within : i < size = omega (arith, long) in
      get_or-take size (drop from octets) i 0 within ∙ get_or-drop from octets i 0 ∙ sym (octets_at_lem i h within))

  -- what can't be copied isn't
  pub copy_none : (out : List ℕ) → copies slot size (length out) ≡ false
      → (0 ≡ copied_size slot size (length out)) × (out ≡ copied octets slot size out)
  unfolding copied_size copied
  copy_none out h = (simp h, simp h)

  -- and what can be is
  pub copy_all : (out : List ℕ) → fits slot size ≡ true → size ≤ length out
      → (size ≡ copied_size slot size (length out)) × (octets_at octets slot size ++ drop size out ≡ copied octets slot size out)
  unfolding copies copied_size copied
  copy_all out h k =
      let room = le-leb size (length out) k in
      (simp (h, room), simp (h, room))

  -- the same octet by octet, set in the output from its start on
  pub copy_set : (out : List ℕ) → fits slot size ≡ true → size ≤ length out → sets out 0 (octets_at octets slot size) ≡ copied octets slot size out
  copy_set out h k =
      let all = octets_length in
      sets-eq (octets_at octets slot size) out 0 (omega (arith, all)) ∙ simp (zero-add, all) (copy_all out h k).1
