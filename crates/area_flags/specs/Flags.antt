-- The flags of a destination, eight words for each of 64 destinations.
use Rattle.std.specs.Prelude.{ℕ, ◌+◌, ◌*◌, Bool, cond, ◌&&◌, List, ltb, get_or, set}

-- 1 for a flag that is set, 0 for one that isn't
abbrev pub word : Bool → ℕ
word on = cond on 1 0

-- a flag of a destination in `marks`, of 64: whether its word isn't 0
abbrev pub flag_at : List ℕ → ℕ → ℕ → Bool
flag_at marks destination place = ltb destination 64 && (ltb place 8 && ltb 0 (get_or marks (8 * destination + place) 0))

abbrev pub with_flag : List ℕ → ℕ → ℕ → Bool → List ℕ
with_flag marks destination place on =
    cond (ltb destination 64 && ltb place 8) (set marks (8 * destination + place) (word on)) marks
