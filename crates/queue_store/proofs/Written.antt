-- A sound store stays sound where a message is written into a slot. Assumes nothing.
use Rattle.std.proofs.Common.{ℕ, List, ◌∙◌}
use Rattle.queue_slots.specs.Write.{Write, rows_with, octets_with}
use Rattle.queue_store.specs.Sound.{Sound}
use Rattle.queue_slots.proofs.ReadBack.{rows_length, octets_long_lem}

-- a write leaves a sound store sound
pub sound_written : (spans rings rows octets : List ℕ) (write : Write) → Sound spans rings rows octets
    → Sound spans rings (rows_with rows write) (octets_with octets write)
sound_written spans rings rows octets write sound =
    record {
      spans_long = sound.spans_long;
      rings_long = sound.rings_long;
      rows_long = rows_length rows write ∙ sound.rows_long;
      octets_long = octets_long_lem octets write ∙ sound.octets_long;
      all = sound.all;
      short = sound.short;
      once = sound.once;
    }
