-- Where a mark first stands in a text.
use Rattle.std.specs.Prelude.{ℕ, suc, cond, List, [], ◌∷◌, eqb}

-- the place of the first mark; the text's length where there is none
unfoldable pub index_of : ℕ → List ℕ → ℕ
index_of mark [] = 0
index_of mark (x ∷ text) = cond (eqb x mark) 0 (suc (index_of mark text))
