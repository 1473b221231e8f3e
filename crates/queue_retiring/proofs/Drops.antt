-- What a drop leaves, from what the code finds there.
-- Assumes nothing.
use mathlib.Core.Path.{◌≡◌}
use mathlib.Core.Bool.{true, false}
use mathlib.Core.List.{List}
use Prim.Native.Nat.{ℕ}
use Rattle.area_slots.specs.SlotRows.{slot_at}
use Rattle.area_slots.specs.declared.Slot.{Slot}
use Rattle.reports.specs.Report.{log, told}
use Rattle.queue_rings.specs.declared.ring.Taken.{Taken}
use Rattle.queue_rings.specs.Move.{spans_moved, rings_moved}
use Rattle.queue_heads.specs.Head.{both, head_of, moved, freed}
use Rattle.queue_retiring.specs.Leave.{state, dropped_one}
use Rattle.queue_heads.proofs.Heads.{found_same}

-- where a ring has no head nothing is given up
pub freed_none : (spans rings : List ℕ) (ring : ℕ) → (head_of (both spans rings) ring).found ≡ false
    → freed (both spans rings) ring ≡ both spans rings
unfolding head_of freed moved spans_moved rings_moved
freed_none spans rings ring gone = simp gone

-- a head, or none, is given up
module _
    (spans rings area rows : List ℕ)
    (ring reason count : ℕ)
    (head : Taken)
    (is : head ≡ head_of (both spans rings) ring) where
  -- where there is none nothing is reported
  pub drop_none : head.found ≡ false
      → record { queues = freed (both spans rings) ring; log = log area count }
      ≡ dropped_one rows ring reason (state spans rings area count)
  unfolding dropped_one
  drop_none gone =
      let found = found_same head (head_of (both spans rings) ring) is gone in
      simp (found, freed_none spans rings ring found)

  -- and where there is one its row's number is
  pub drop_some : head.found ≡ true → (known : Slot) → known ≡ slot_at rows head.slot
      → record { queues = freed (both spans rings) ring; log = told (log area count) reason known.arrival }
      ≡ dropped_one rows ring reason (state spans rings area count)
  unfolding dropped_one
  drop_some there known loaded =
      let found = found_same head (head_of (both spans rings) ring) is there in
      simp (found, loaded, is)
