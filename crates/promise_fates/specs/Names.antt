-- The names of the nine management messages, in letters: the column "Message" of the table of "Octets on the wire" (R31, R32, R33, R34, R35).
use Rattle.std.specs.Prelude.{ℕ, List, [], ◌∷◌}
use Rattle.wire_messages.specs.declared.management.Message.{Message}
use Rattle.wire_messages.specs.declared.management.Message.TheVariants.{COO, COA, CBD, CBA, ECO, ECA, TFP, TFA, RST}

abbrev pub named : Message → List ℕ
named (COO fsn) = 67 ∷ 79 ∷ 79 ∷ []
named (COA fsn) = 67 ∷ 79 ∷ 65 ∷ []
named (CBD code) = 67 ∷ 66 ∷ 68 ∷ []
named (CBA code) = 67 ∷ 66 ∷ 65 ∷ []
named ECO = 69 ∷ 67 ∷ 79 ∷ []
named ECA = 69 ∷ 67 ∷ 65 ∷ []
named (TFP destination) = 84 ∷ 70 ∷ 80 ∷ []
named (TFA destination) = 84 ∷ 70 ∷ 65 ∷ []
named (RST destination) = 82 ∷ 83 ∷ 84 ∷ []
