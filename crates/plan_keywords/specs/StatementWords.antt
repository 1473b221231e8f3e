-- The first word of a line: "`node code ni`; `set number adjacent`; `link number set slc`; `route destination set rank`" (R161).
use Rattle.std.specs.Prelude.{ℕ, cond, Option, Some, None, List, [], ◌∷◌}
use Rattle.text.specs.Part.{same_text}
use Rattle.plan_keywords.specs.declared.Word.{Word}
use Rattle.plan_keywords.specs.declared.Word.TheVariants.{Node, Set, Link, Route}

-- `node`, `set`, `link`, `route`, and none of them
abbrev pub word_of : List ℕ → Option Word
word_of text =
    cond (same_text text (110 ∷ 111 ∷ 100 ∷ 101 ∷ [])) (Some Node)
    (cond (same_text text (115 ∷ 101 ∷ 116 ∷ [])) (Some Set)
    (cond (same_text text (108 ∷ 105 ∷ 110 ∷ 107 ∷ [])) (Some Link)
    (cond (same_text text (114 ∷ 111 ∷ 117 ∷ 116 ∷ 101 ∷ [])) (Some Route)
    None)))

-- how many fields such a line has, its word among them (R161)
abbrev pub fields_of : Word → ℕ
fields_of Node = 3
fields_of Set = 3
fields_of Link = 4
fields_of Route = 4

-- the same by the word that a text is; no line begins with a text that is none of them
abbrev pub fields_in : Option Word → ℕ
fields_in (Some word) = fields_of word
fields_in None = 0
