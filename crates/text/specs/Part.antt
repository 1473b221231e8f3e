-- Lines and fields. A text is lines, each ended by LF; a line is fields, parted by tabs.
use Rattle.std.specs.Prelude.{ℕ, ◌+◌, Bool, true, false, cond, ◌&&◌, List, [], ◌∷◌, length, eqb, ltb}
use Rattle.std.proofs.Math.Seq.{slice}
use Rattle.text.specs.Index.{index_of}
use Rattle.text.specs.declared.part.Part.{Part}

-- the mark that ends a line, LF
abbrev pub lf : ℕ
lf = 10

-- the mark that parts two fields, the tab
abbrev pub tab : ℕ
tab = 9

-- whether a mark stands in a text
abbrev pub marked : ℕ → List ℕ → Bool
marked mark text = ltb (index_of mark text) (length text)

-- the part of a text from a place up to the first mark before `to`, or else up to `to`; the next one begins past the mark
abbrev pub until : ℕ → List ℕ → ℕ → ℕ → Part
until mark text at to =
    let part = slice at to text in
    let end = at + index_of mark part in
    record { end = end; next = cond (marked mark part) (end + 1) end; closed = marked mark part }

-- the line that begins at a place: up to LF or the end of the text (R159, R162, R207)
abbrev pub line_at : List ℕ → ℕ → Part
line_at text at = until lf text at (length text)

-- the field that begins at a place of a line: up to a tab or the end of the line
abbrev pub field_at : List ℕ → ℕ → ℕ → Part
field_at text at to = until tab text at to

-- a letter put in front of the first of some parts
abbrev pub on_first : ℕ → List (List ℕ) → List (List ℕ)
on_first x [] = (x ∷ []) ∷ []
on_first x (first ∷ rest) = (x ∷ first) ∷ rest

-- "parted by tabs" (R158): all that stands between the marks of a text, in order
unfoldable pub split : ℕ → List ℕ → List (List ℕ)
split mark [] = [] ∷ []
split mark (x ∷ text) = cond (eqb x mark) ([] ∷ split mark text) (on_first x (split mark text))

-- a text of no octets
abbrev pub is_empty : List ℕ → Bool
is_empty [] = true
is_empty (c ∷ rest) = false

-- whether two texts are the same, octet by octet
unfoldable pub same_text : List ℕ → List ℕ → Bool
same_text [] [] = true
same_text [] (y ∷ b) = false
same_text (x ∷ a) [] = false
same_text (x ∷ a) (y ∷ b) = eqb x y && same_text a b
