-- The first five octets of every message, SIO and label, and what follows them: "Octets on the wire" in the paper.
use Rattle.std.specs.Prelude.{ℕ, zero, suc, ◌+◌, ◌*◌, ◌/◌, ◌%◌, ◌<◌, cond, ◌&&◌, List, [], ◌∷◌, length, get_or, take, drop, leb, Option, Some, None}
use Rattle.wire.specs.declared.header.Label.{Label}
use Rattle.wire.specs.declared.header.Header.{Header}

-- "SIO: low four bits SI, top two bits network indicator (NI); the middle two are spare." (R27, R28, R36)
abbrev pub sio_of : ℕ → ℕ → ℕ
sio_of si ni = si % 16 + 64 * (ni % 4)

-- its low four bits
abbrev pub si_of : ℕ → ℕ
si_of sio = sio % 16

-- its top two bits; the middle two are ignored (R37)
abbrev pub ni_of : ℕ → ℕ
ni_of sio = sio / 64 % 4

-- a number in so many octets, "lowest octet first" (R29)
abbrev pub low_first : ℕ → ℕ → List ℕ
low_first zero number = []
low_first (suc octets) number = number % 256 ∷ low_first octets (number / 256)

-- the number that octets say, lowest first
abbrev pub from_low : List ℕ → ℕ
from_low [] = 0
from_low (octet ∷ rest) = octet + 256 * from_low rest

-- "Label, 32 bits, lowest octet first: DPC + 16384 × OPC + 268435456 × SLS." (R29) Of a number out of range the low bits count.
abbrev pub label_word : Label → ℕ
label_word label = label.dpc % 16384 + 16384 * (label.opc % 16384) + 268435456 * (label.sls % 16)

-- what a label's 32 bits say
abbrev pub label_of : ℕ → Label
label_of word = record { dpc = word % 16384; opc = word / 16384 % 16384; sls = word / 268435456 % 16 }

-- SIO and label of a message
abbrev pub header_of : List ℕ → Header
header_of message =
    record {
      si = si_of (get_or message 0 0);
      ni = ni_of (get_or message 0 0);
      label = label_of (from_low (take 4 (drop 1 message)));
    }

-- "A message is the SIO and then the SIF: 5 to 273 octets" (R26); "Malformed is: fewer than 5 or more than 273 octets" (R63)
abbrev pub read_header : List ℕ → Option Header
read_header message = cond (leb 5 (length message) && leb (length message) 273) (Some (header_of message)) None

-- "the host gets the part of its own octets after the label" (R40, R205)
abbrev pub after_label : List ℕ → List ℕ
after_label message = drop 5 message

-- "Point codes 0 to 16383, SLS and SLC 0 to 15" (R14, R15)
pub record InRange (label : Label) : Type 0 where
  pub dpc_fits : label.dpc < 16384
  pub opc_fits : label.opc < 16384
  pub sls_fits : label.sls < 16

-- octets are numbers below 256
abbrev pub Octets : List ℕ → Type 0
Octets s = (i : ℕ) → get_or s i 0 < 256
