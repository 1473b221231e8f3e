-- Plain decimals: no sign, no leading zero, of any length, up to a top value.
use Rattle.std.specs.Prelude.{ℕ, zero, suc, ◌+◌, ◌-◌, ◌*◌, ◌/◌, ◌%◌, Bool, true, false, cond, not, ◌&&◌, ◌||◌, List, [], ◌∷◌, Option, Some, None, eqb, leb, ltb}
use Rattle.text.specs.Part.{is_empty}

-- an octet that is one of 0 to 9
abbrev pub is_digit : ℕ → Bool
is_digit c = leb 48 c && leb c 57

-- digits and nothing else
unfoldable pub all_digits : List ℕ → Bool
all_digits [] = true
all_digits (c ∷ rest) = is_digit c && all_digits rest

-- "a plain decimal (no leading zero)" (R167): one digit or more, the first no 0 unless it is the only one
abbrev pub is_plain : List ℕ → Bool
is_plain [] = false
is_plain (c ∷ rest) = all_digits (c ∷ rest) && (not (eqb c 48) || is_empty rest)

-- the number with one digit more behind it
abbrev pub with_digit : ℕ → ℕ → ℕ
with_digit value c = value * 10 + (c - 48)

-- what the digits say, behind those that said `value`
unfoldable pub value_on : ℕ → List ℕ → ℕ
value_on value [] = value
value_on value (c ∷ rest) = value_on (with_digit value c) rest

-- a number with one digit more behind it; none where that is no digit, or it comes above the top value
abbrev pub digit_on : ℕ → ℕ → ℕ → Option ℕ
digit_on value c top = cond (is_digit c && leb (with_digit value c) top) (Some (with_digit value c)) None

-- "not a plain decimal (no leading zero) or out of range" (R167): the number; none where the text is wrong
abbrev pub number_of : List ℕ → ℕ → Option ℕ
number_of text top = cond (is_plain text && leb (value_on 0 text) top) (Some (value_on 0 text)) None

-- the digits of a number of at most `most` digits, in front of `rest`
unfoldable pub digits_on : ℕ → ℕ → List ℕ → List ℕ
digits_on zero n rest = rest
digits_on (suc most) n rest = cond (ltb n 10) ((48 + n) ∷ rest) (digits_on most (n / 10) ((48 + n % 10) ∷ rest))

-- the plain decimal of a number of 64 bits, which has at most twenty digits
abbrev pub decimal_of : ℕ → List ℕ
decimal_of n = digits_on 20 n []
