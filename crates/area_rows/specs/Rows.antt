-- Rows of numbers in a lent area: so many stretches of equal length, a row being the first words of one.
use Rattle.std.specs.Prelude.{ℕ, ◌+◌, ◌*◌, cond, List, ltb, get_or, set}
use Rattle.std.proofs.lemmas.List.Edits.{sets}

-- the word at a place of a row, 0 of a row that there is not
abbrev pub word_at : ℕ → ℕ → List ℕ → ℕ → ℕ → ℕ
word_at rows stretch area row place = cond (ltb row rows) (get_or area (stretch * row + place) 0) 0

-- the area with a row's words set one after the other, all else as it was; a row that there is not changes nothing
abbrev pub with_row : ℕ → ℕ → List ℕ → ℕ → List ℕ → List ℕ
with_row rows stretch area row words = cond (ltb row rows) (sets area (stretch * row) words) area

-- the area with one word of a row set, all else as it was; a row that there is not changes nothing
abbrev pub with_word : ℕ → ℕ → List ℕ → ℕ → ℕ → ℕ → List ℕ
with_word rows stretch area row place value = cond (ltb row rows) (set area (stretch * row + place) value) area
