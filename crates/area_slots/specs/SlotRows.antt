-- A slot's row, five words of the eight for each of 256 slots.
use Rattle.std.specs.Prelude.{ℕ, List, [], ◌∷◌}
use Rattle.area_rows.specs.Rows.{word_at, with_row}
use Rattle.area_slots.specs.declared.Slot.{Slot}

-- a slot's row in `rows`, of 256: the message's arrival number, its heading (0 for a user message), the point that it goes to, its
-- SLS or SLC, and its field, or how many octets it has
abbrev pub slot_at : List ℕ → ℕ → Slot
slot_at rows slot =
    record {
      arrival = word_at 256 8 rows slot 0;
      heading = word_at 256 8 rows slot 1;
      point = word_at 256 8 rows slot 2;
      sls = word_at 256 8 rows slot 3;
      field = word_at 256 8 rows slot 4;
    }

abbrev pub with_slot : List ℕ → ℕ → Slot → List ℕ
with_slot rows slot message =
    with_row 256 8 rows slot
    (message.arrival ∷ message.heading ∷ message.point ∷ message.sls ∷ message.field ∷ [])
