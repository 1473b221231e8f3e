-- What a run of a record writes (docs/FORMATS.md): the lines of a route list.
use Rattle.std.specs.Prelude.{ℕ, List, [], ◌∷◌}
use Rattle.text_decimals.specs.Decimal.{decimal_of}
use Rattle.text_pages.specs.Page.{ended}

-- `route` between its tabs
abbrev pub route_word : List ℕ
route_word = 9 ∷ 114 ∷ 111 ∷ 117 ∷ 116 ∷ 101 ∷ 9 ∷ []

-- `N route LINE` (docs/FORMATS.md): each line of the route list; behind its last LF stands no line
unfoldable pub routed : ℕ → List (List ℕ) → List (List ℕ)
routed number [] = []
routed number (last ∷ []) = []
routed number (line ∷ next ∷ more) = decimal_of number ∷ route_word ∷ line ∷ ended ∷ routed number (next ∷ more)
