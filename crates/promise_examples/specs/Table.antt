-- "Twelve examples to prove": one table, a row for each, in the words of the definitions that the code is proved against.
use Rattle.std.specs.Prelude.{ℕ, ◌≡◌, false, List, [], ◌∷◌}
use Rattle.counting.specs.Counting.{in_range}
use Rattle.wire.specs.Header.{low_first, label_word}
use Rattle.wire_messages.specs.declared.management.Message.TheVariants.{COO}
use Rattle.wire_writing.specs.Writing.{octets_of}
use Rattle.route_list.specs.RouteList.{link_of}
use Rattle.promise_examples.specs.Set.{in_states, one_set}
use Rattle.promise_examples.specs.Changeover.{ended_at, fate_of, retires◌moves◌}

-- the letters that the paper gives its examples
pub data Letter : Type 0 where
  A : Letter
  B : Letter
  C : Letter
  D : Letter
  E : Letter
  F : Letter
  G : Letter
  H : Letter
  I : Letter
  J : Letter
  K : Letter
  L : Letter

-- a row: the letter, and what the example says
pub record Example : Type 1 where
  pub letter : Letter
  pub says : Type 0

abbrev pub row : Letter → Type 0 → Example
row letter says = record { letter = letter; says = says }

-- all of some examples hold
abbrev pub AllHold : List Example → Type 0
AllHold [] = Unit {0}
AllHold (example ∷ rest) = example.says × AllHold rest

-- the unsent messages of D to G
abbrev pub a : ℕ
a = 97

abbrev pub b : ℕ
b = 98

-- the table, in the paper's order (R220)
abbrev pub table : List Example
table =
    -- "A: COO to 1 from 2, SLC 3, FSN 5, NI 2 is 80 01 80 00 30 11 05." (R186)
    row A (octets_of 2 (record { dpc = 1; opc = 2; sls = 3 }) (COO 5) ≡ 0x80 ∷ 0x01 ∷ 0x80 ∷ 0x00 ∷ 0x30 ∷ 0x11 ∷ 0x05 ∷ [])
    -- "B: codes 16383, SLS 15 label FF FF FF FF." (R187)
    ∷ row B (low_first 4 (label_word (record { dpc = 16383; opc = 16383; sls = 15 })) ≡ 0xff ∷ 0xff ∷ 0xff ∷ 0xff ∷ [])
    -- "C: destination 300 is 2C 01." (R188)
    ∷ row C (low_first 2 300 ≡ 0x2c ∷ 0x01 ∷ [])
    -- "Acknowledged to 2, sent 3 to 6, unsent a, b. D: F = 4 moves 5, 6, a, b." (R189)
    ∷ row D (fate_of (ended_at 2 4 4 (3 ∷ 4 ∷ 5 ∷ 6 ∷ a ∷ b ∷ [])) ≡ retires (3 ∷ 4 ∷ []) moves (5 ∷ 6 ∷ a ∷ b ∷ []))
    -- "E: F = 2 moves all six." (R190)
    ∷ row E (fate_of (ended_at 2 4 2 (3 ∷ 4 ∷ 5 ∷ 6 ∷ a ∷ b ∷ [])) ≡ retires [] moves (3 ∷ 4 ∷ 5 ∷ 6 ∷ a ∷ b ∷ []))
    -- "F: F = 6 moves a, b." (R191)
    ∷ row F (fate_of (ended_at 2 4 6 (3 ∷ 4 ∷ 5 ∷ 6 ∷ a ∷ b ∷ [])) ≡ retires (3 ∷ 4 ∷ 5 ∷ 6 ∷ []) moves (a ∷ b ∷ []))
    -- "G: F = 7", of which a later request says that "example G moves 3 to 6, a and b" (R192, R238)
    ∷ row G (fate_of (ended_at 2 4 7 (3 ∷ 4 ∷ 5 ∷ 6 ∷ a ∷ b ∷ [])) ≡ retires [] moves (3 ∷ 4 ∷ 5 ∷ 6 ∷ a ∷ b ∷ []))
    -- "H: acknowledged 126, sent 127, 0, 1; F = 127 moves 0, 1." (R193)
    ∷ row H (fate_of (ended_at 126 3 127 (127 ∷ 0 ∷ 1 ∷ [])) ≡ retires (127 ∷ []) moves (0 ∷ 1 ∷ []))
    -- "I: same, F = 125 not in range." (R194): so all three move (R235)
    ∷ row I ((in_range 128 126 3 125 ≡ false) × (fate_of (ended_at 126 3 125 (127 ∷ 0 ∷ 1 ∷ [])) ≡ retires [] moves (127 ∷ 0 ∷ 1 ∷ [])))
    -- "J: empty queue, acknowledged 127, F = 0: nothing dropped." (R195)
    ∷ row J (fate_of (ended_at 127 0 0 []) ≡ retires [] moves [])
    -- "Three links. K: SLS 4, link 1 out, goes to 2." (R196)
    ∷ row K (link_of (in_states (2 ∷ 0 ∷ 2 ∷ [])) [] (one_set (0 ∷ 1 ∷ 2 ∷ [])) 0 4 ≡ 2)
    -- "L: SLS 5, link 2 out, goes to 0." (R197)
    ∷ row L (link_of (in_states (2 ∷ 2 ∷ 0 ∷ [])) [] (one_set (0 ∷ 1 ∷ 2 ∷ [])) 0 5 ≡ 0)
    ∷ []
