-- An area written from a place on, piece after piece; a piece that has no room isn't written.
use Rattle.std.specs.Prelude.{ℕ, List, [], ◌∷◌, ◌++◌}
use Rattle.text.specs.Part.{lf, tab}
use Rattle.text.specs.Put.{written, past}

-- an area, and the place up to which it is written
pub record Page : Type 0 where
  pub area : List ℕ
  pub at : ℕ

abbrev pub page : List ℕ → ℕ → Page
page area at = record { area = area; at = at }

-- a piece written at the place
abbrev pub put : Page → List ℕ → Page
put p piece = page (written p.area p.at piece) (past p.area p.at piece)

-- pieces written one after the other (R211)
unfoldable pub puts : Page → List (List ℕ) → Page
puts p [] = p
puts p (piece ∷ more) = puts (put p piece) more

-- all pieces, one behind the other
unfoldable pub joined : List (List ℕ) → List ℕ
joined [] = []
joined (piece ∷ more) = piece ++ joined more

-- the end of a line, and what parts two fields
abbrev pub ended : List ℕ
ended = lf ∷ []

abbrev pub parted : List ℕ
parted = tab ∷ []
