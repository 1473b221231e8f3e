-- How a management message is written, by the paper's table, and octets that differ from a message's own only in spare bits.
use Rattle.std.specs.Prelude.{◌≡◌, ℕ, ◌-◌, ◌%◌, ◌<◌, cond, List, ◌∷◌, ◌++◌, length, get_or, take, drop, ltb}
use Rattle.wire.specs.declared.header.Label.{Label}
use Rattle.wire.specs.Header.{sio_of, si_of, ni_of, low_first, from_low, label_word}
use Rattle.wire_messages.specs.declared.management.Message.{Message}
use Rattle.wire_messages.specs.Management.{heading_of, total_of, field_of, values_of}

-- heading and field, the field lowest octet first; "Spare bits are written 0" (R36)
abbrev pub part_of : Message → List ℕ
part_of message = heading_of message ∷ low_first (total_of message - 6) (field_of message % values_of message)

-- a management message whole: SIO with SI 0, label, heading and field
abbrev pub octets_of : ℕ → Label → Message → List ℕ
octets_of ni label message = sio_of 0 ni ∷ (low_first 4 (label_word label) ++ part_of message)

-- the same in eight octets, of which those past the total are 0
abbrev pub eight_of : ℕ → Label → Message → List ℕ
eight_of ni label message =
    sio_of 0 ni ∷ (low_first 4 (label_word label) ++ (heading_of message ∷ low_first 2 (field_of message % values_of message)))

-- "A lent output has at least 273 octets" (R23): a shorter one is refused and stays as it was; else the rest stays (R69)
abbrev pub written_into : List ℕ → List ℕ → List ℕ
written_into out octets = cond (ltb (length out) 273) out (octets ++ drop (length octets) out)

-- how many octets are written, 0 where the output is refused
abbrev pub written_count : List ℕ → List ℕ → ℕ
written_count out octets = cond (ltb (length out) 273) 0 (length octets)

-- a message whose field is in range
abbrev pub FieldInRange : Message → Type 0
FieldInRange message = field_of message < values_of message

-- octets that differ from a message's own only in spare bits: the SIO's middle two, and those above the field (R28)
pub record OnlySpare (message : Message) (octets own : List ℕ) : Type 0 where
  pub si_same : si_of (get_or octets 0 0) ≡ si_of (get_or own 0 0)
  pub ni_same : ni_of (get_or octets 0 0) ≡ ni_of (get_or own 0 0)
  pub label_and_heading_same : take 5 (drop 1 octets) ≡ take 5 (drop 1 own)
  pub field_same : from_low (drop 6 octets) % values_of message ≡ from_low (drop 6 own)
  pub total_same : length octets ≡ length own
