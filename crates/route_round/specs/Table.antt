-- "A constant table of 2,048 entries: for each of 256 patterns of carrying links and each of 8 starting places, the chosen place, or 8 for
-- none. Sets of fewer links use the low places." (R230, R231, R232)
use Rattle.std.specs.Prelude.{Bool, cond, List, [], ◌∷◌, ℕ, zero, suc, min, ◌+◌, ◌*◌, ◌/◌, ◌%◌, ◌^◌, eqb, ltb, get_or}
use Rattle.route_round.specs.Round.{none, link_of_set}

-- the bit of a place: 1 if its link serves, 0 if it doesn't or the set has fewer links
abbrev pub bit_at : (ℕ → Bool) → List ℕ → ℕ → ℕ
bit_at serves links place = cond (serves (get_or links place none)) 1 0

-- "patterns of carrying links" (R230): the bits of all eight places; of open links, or with one link left out, by the same words
abbrev pub pattern_of : (ℕ → Bool) → List ℕ → ℕ
pattern_of serves links =
    bit_at serves links 0
    + 2 * bit_at serves links 1
    + 4 * bit_at serves links 2
    + 8 * bit_at serves links 3
    + 16 * bit_at serves links 4
    + 32 * bit_at serves links 5
    + 64 * bit_at serves links 6
    + 128 * bit_at serves links 7

-- whether a link serves at a place of a pattern
abbrev pub serves_in : ℕ → ℕ → Bool
serves_in pattern place = eqb (pattern / 2 ^ place % 2) 1

-- the places of a set
abbrev pub places : List ℕ
places = 0 ∷ 1 ∷ 2 ∷ 3 ∷ 4 ∷ 5 ∷ 6 ∷ 7 ∷ []

-- "the chosen place, or 8 for none" (R231): by the walking rule, with the places for links
abbrev pub place_for : ℕ → ℕ → ℕ
place_for pattern start = min (link_of_set (serves_in pattern) places start) 8

-- the entry of a number, eight to a pattern
abbrev pub entry : ℕ → ℕ
entry number = place_for (number / 8) (number % 8)

-- some entries from one on, a digit of base 16 for each, the first the last
unfoldable pub digits : ℕ → ℕ → ℕ
digits zero number = 0
digits (suc more) number = entry number + 16 * digits more (number + 1)

-- a word of the table's 128, with sixteen entries; 0 past the last (R201, R234)
abbrev pub word : ℕ → ℕ
word at = cond (ltb at 128) (digits 16 (16 * at)) 0
