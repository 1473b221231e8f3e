-- What a line says goes by the first four of its fields and their count, as they are found.
-- Assumes nothing.
use mathlib.Core.Path.{◌≡◌, refl, sym, ap, ◌∙◌}
use mathlib.Core.Bool.{cond}
use mathlib.Core.List.{List, [], ◌∷◌}
use Prim.Native.Nat.{ℕ, ◌≤◌, ◌<◌}
use lib.Dec.{eqb, ltb, lit≤}
use lib.Seq.{slice}
use borrow.Author.Tests.{eqb-true}
use borrow.Table.Steps.{cases}
use Rattle.text_fields.specs.declared.Found.{Found}
use Rattle.text_fields.specs.Fields.{fields_at}
use Rattle.text_fields.proofs.Listed.{ByFour, fields_listed}
use Rattle.plan_keywords.specs.declared.Word.{Word}
use Rattle.plan_keywords.specs.declared.Word.TheVariants.{Node, Set, Link, Route}
use Rattle.plan_keywords.specs.StatementWords.{word_of, fields_of}
use Rattle.plan_statement.specs.declared.Statement.{Statement}
use Rattle.plan_statement.specs.Statement.{says, said_as, said_by, read_statement, says_counted}
use Rattle.plan_building.specs.declared.Fault.{Fault}
use Rattle.std.specs.Prelude.{Option, Some, None, Result}

-- no word has more than four fields
within : (word : Word) → fields_of word ≤ 4
within Node = lit≤ tt
within Set = lit≤ tt
within Link = lit≤ tt
within Route = lit≤ tt

-- a line of a word has the numbers that it takes
taken :
    (word : Word) (count : ℕ) (first second third : List ℕ) → 0 < count → count ≡ fields_of word →
    says word (cond (ltb 1 count) first []) (cond (ltb 2 count) second []) (cond (ltb 3 count) third (48 ∷ []))
    ≡ says word first second (cond (eqb count 3) (48 ∷ []) third)
taken Node count first second third h e = simp e
taken Set count first second third h e = simp e
taken Link count first second third h e = simp e
taken Route count first second third h e = simp e

-- what a line of a word says, by its first four fields
as_four :
    (known : Option Word) (all : List (List ℕ)) (count : ℕ) (word first second third : List ℕ) → ByFour all count word first second third →
    said_as known all ≡ says_counted count known first second third
as_four None all count word first second third f = refl
as_four (Some known) all count word first second third f =
    let fits = f.counts _ (within known) in
    cases (eqb count (fields_of known))
    (λ e.
    simp (fits, e, f.second [], f.third [], f.fourth (48 ∷ []))
    (taken known count first second third f.some (eqb-true _ _ e)))
    (λ e. simp (fits, e))

-- what a line says, by its first four fields
by_four :
    (all : List (List ℕ)) (count : ℕ) (word first second third : List ℕ) → ByFour all count word first second third →
    said_by all ≡ says_counted count (word_of word) first second third
by_four all count word first second third f =
    ap (λ (w : List ℕ). said_as (word_of w) all) (f.first []) ∙ as_four (word_of word) all count word first second third f

-- the same of what was read of each field that was found
pub by_reading :
    (text : List ℕ) (at to : ℕ) (f : Found) → f ≡ fields_at text at to →
    (word : Option Word) (first second third : List ℕ) →
    word ≡ word_of (slice at f.zero.end text) →
    first ≡ slice f.zero.next f.one.end text →
    second ≡ slice f.one.next f.two.end text →
    third ≡ slice f.two.next f.three.end text →
    (said : Result Statement Fault) → said ≡ says_counted f.count word first second third → said ≡ read_statement (slice at to text)
by_reading text at to f e word first second third e₀ e₁ e₂ e₃ said e₄ =
    e₄ ∙ (λ i. says_counted f.count (e₀ i) (e₁ i) (e₂ i) (e₃ i)) ∙ sym (by_four _ _ _ _ _ _ (fields_listed text at to f e))
