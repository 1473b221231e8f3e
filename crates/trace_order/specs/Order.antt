-- The order in which a trace's messages are held, by ascending arrival numbers.
use Rattle.std.specs.Prelude.{ℕ, cond, List, ltb, get_or}

-- the row at a place of the order; past its end the first
abbrev pub row_at : List ℕ → ℕ → ℕ
row_at order place = cond (ltb place 256) (get_or order place 0) 0
