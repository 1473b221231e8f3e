-- Octets as pairs of hex digits: written in lower case, read in either.
use Rattle.std.specs.Prelude.{ℕ, ◌+◌, ◌-◌, ◌*◌, ◌/◌, ◌%◌, Bool, true, false, cond, ◌&&◌, List, [], ◌∷◌, ◌++◌, Option, Some, None, length, drop, leb, ltb}
use Rattle.text_decimals.specs.Decimal.{is_digit}

-- what a hex digit says, in either case; 16 of an octet that is none
abbrev pub nibble : ℕ → ℕ
nibble c =
    cond (is_digit c) (c - 48)
    (cond (leb 97 c && leb c 102) (c - 87)
    (cond (leb 65 c && leb c 70) (c - 55) 16))

-- "pairs of hex digits" (docs/FORMATS.md), possibly none (R223)
unfoldable pub is_hex : List ℕ → Bool
is_hex [] = true
is_hex (a ∷ []) = false
is_hex (a ∷ b ∷ rest) = ltb (nibble a) 16 && (ltb (nibble b) 16 && is_hex rest)

-- the octets that the pairs say
unfoldable pub octets_of : List ℕ → List ℕ
octets_of [] = []
octets_of (a ∷ []) = []
octets_of (a ∷ b ∷ rest) = (nibble a * 16 + nibble b) ∷ octets_of rest

-- whether a text is octets for which an area has room
abbrev pub readable : List ℕ → List ℕ → Bool
readable text out = is_hex text && leb (length (octets_of text)) (length out)

-- how many octets a text says; none where it is wrong
abbrev pub count_of : List ℕ → List ℕ → Option ℕ
count_of text out = cond (readable text out) (Some (length (octets_of text))) None

-- the area with those octets at its start, the rest as it was; all of it, where the text is wrong
abbrev pub filled : List ℕ → List ℕ → List ℕ
filled text out = cond (readable text out) (octets_of text ++ drop (length (octets_of text)) out) out

-- the digit of a number below 16, in lower case
abbrev pub glyph : ℕ → ℕ
glyph n = cond (ltb n 10) (48 + n) (87 + n)

-- the octets as pairs of digits
unfoldable pub hex_of : List ℕ → List ℕ
hex_of [] = []
hex_of (x ∷ rest) = glyph (x / 16) ∷ glyph (x % 16) ∷ hex_of rest
