-- The state of a link and the mark of a route, as the chooser reads them from the lent areas.
use Rattle.std.specs.Prelude.{Bool, cond, not, ◌&&◌, List, ℕ, ◌+◌, ◌*◌, ◌%◌, eqb, ltb, get_or}
use Rattle.constants.specs.Constants.{link_count, state_open}
use Rattle.route_serving.specs.declared.Need.{Need}

-- "A link is out, waiting, open or changing" (R74): 0 to 3, the last two bits of the first of a link's eight words; 0 past link 31
abbrev pub state_of : List ℕ → ℕ → ℕ
state_of links link = cond (ltb link link_count) (get_or links (8 * link) 0 % 4) 0

-- "All but out are carrying." (R75, R114)
abbrev pub carries : List ℕ → ℕ → Bool
carries links link = ltb 0 (state_of links link)

abbrev pub is_open : List ℕ → ℕ → Bool
is_open links link = eqb (state_of links link) state_open

-- whether a link serves: user messages need a carrying one; "management messages the node makes use open links only" (R84), and
-- never one given link (R132)
abbrev pub serves : List ℕ → Need → ℕ → Bool
serves links need link =
    ltb link link_count && (not (eqb link need.never) && cond need.«open» (is_open links link) (carries links link))

-- whether a destination's route of a rank is marked prohibited: the words 0 to 3 of each of 64 destinations' eight (R80)
abbrev pub is_marked : List ℕ → ℕ → ℕ → Bool
is_marked marks destination rank = ltb destination 64 && (ltb rank 4 && ltb 0 (get_or marks (8 * destination + rank) 0))
