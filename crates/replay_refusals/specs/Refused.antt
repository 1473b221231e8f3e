-- What a run of a record writes (docs/FORMATS.md): the line that can't be read, and the configuration that is refused.
use Rattle.std.specs.Prelude.{ℕ, List, [], ◌∷◌}
use Rattle.text_decimals.specs.Decimal.{decimal_of}
use Rattle.text_pages.specs.Page.{ended, parted}

-- `N refused 30` (docs/FORMATS.md): the line can't be read (R228)
abbrev pub unreadable : ℕ → List (List ℕ)
unreadable number = decimal_of number ∷ (9 ∷ 114 ∷ 101 ∷ 102 ∷ 117 ∷ 115 ∷ 101 ∷ 100 ∷ 9 ∷ 51 ∷ 48 ∷ 10 ∷ []) ∷ []

-- `config LINE CODE` (docs/FORMATS.md): the configuration is refused
abbrev pub refused_by : ℕ → ℕ → List (List ℕ)
refused_by line fault = (99 ∷ 111 ∷ 110 ∷ 102 ∷ 105 ∷ 103 ∷ 9 ∷ []) ∷ decimal_of line ∷ parted ∷ decimal_of fault ∷ ended ∷ []
