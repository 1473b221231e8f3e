-- The nine management messages: the paper's table, and what octets read as.
use Rattle.std.specs.Prelude.{ℕ, ◌+◌, ◌*◌, ◌%◌, cond, List, [], ◌∷◌, length, get_or, eqb, Option, Some, None}
use Rattle.wire_messages.specs.declared.management.Message.{Message}
use Rattle.wire_messages.specs.declared.management.Message.TheVariants.{COO, COA, CBD, CBA, ECO, ECA, TFP, TFA, RST}

-- the column "Heading octet" (R31, R32, R33, R34, R35)
abbrev pub heading_of : Message → ℕ
heading_of (COO fsn) = 0x11
heading_of (COA fsn) = 0x21
heading_of (CBD code) = 0x51
heading_of (CBA code) = 0x61
heading_of ECO = 0x12
heading_of ECA = 0x22
heading_of (TFP destination) = 0x14
heading_of (TFA destination) = 0x54
heading_of (RST destination) = 0x15

-- the column "Total octets" (R31, R32, R33, R34, R35)
abbrev pub total_of : Message → ℕ
total_of (COO fsn) = 7
total_of (COA fsn) = 7
total_of (CBD code) = 7
total_of (CBA code) = 7
total_of ECO = 6
total_of ECA = 6
total_of (TFP destination) = 8
total_of (TFA destination) = 8
total_of (RST destination) = 8

-- the column "After it" (R31, R32, R33, R34, R35); nothing counts as 0
abbrev pub field_of : Message → ℕ
field_of (COO fsn) = fsn
field_of (COA fsn) = fsn
field_of (CBD code) = code
field_of (CBA code) = code
field_of ECO = 0
field_of ECA = 0
field_of (TFP destination) = destination
field_of (TFA destination) = destination
field_of (RST destination) = destination

-- how many values the field has: "Point codes 0 to 16383" (R14), "FSN 0 to 127" (R16), a code is a whole octet
abbrev pub values_of : Message → ℕ
values_of (COO fsn) = 128
values_of (COA fsn) = 128
values_of (CBD code) = 256
values_of (CBA code) = 256
values_of ECO = 1
values_of ECA = 1
values_of (TFP destination) = 16384
values_of (TFA destination) = 16384
values_of (RST destination) = 16384

-- the nine messages, each with what the two octets behind its heading would say; spare bits "ignored on reading" (R5, R6, R37)
abbrev pub nine : ℕ → ℕ → List Message
nine low high =
    let fsn = low % 128 in
    let destination = (low + 256 * high) % 16384 in
    COO fsn ∷ COA fsn ∷ CBD low ∷ CBA low ∷ ECO ∷ ECA ∷ TFP destination ∷ TFA destination ∷ RST destination ∷ []

-- the one of some messages that has the heading
abbrev pub headed : ℕ → List Message → Option Message
headed heading [] = None
headed heading (message ∷ rest) = cond (eqb heading (heading_of message)) (Some message) (headed heading rest)

-- the message of the table that has the heading
abbrev pub listed : ℕ → ℕ → ℕ → Option Message
listed heading low high = headed heading (nine low high)

-- "Totals are exact." (R38)
abbrev pub exactly : ℕ → Option Message → Option Message
exactly total (Some message) = cond (eqb total (total_of message)) (Some message) None
exactly total None = None

-- malformed is "a heading not listed or a wrong total" (R66); an octet that isn't there counts as 0
abbrev pub read_message : List ℕ → Option Message
read_message octets = exactly (length octets) (listed (get_or octets 5 0) (get_or octets 6 0) (get_or octets 7 0))
