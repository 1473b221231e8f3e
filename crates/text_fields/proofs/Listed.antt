-- The list of a line's fields goes by the first four as they are found: how many there are, and each of the four.
-- Assumes nothing.
use mathlib.Core.Path.{◌≡◌, sym, subst, ◌∙◌}
use mathlib.Core.Bool.{Bool, true, false, cond}
use mathlib.Core.List.{List, [], ◌∷◌}
use Prim.Native.Nat.{ℕ, suc, ◌≤◌, ◌<◌}
use native.Mathlib.Omega.{arith}
use lib.Dec.{eqb, ltb, lit<}
use lib.ListN.{length, get_or}
use lib.Seq.{slice}
use borrow.Author.Tests.{ne_eqb}
use borrow.Table.Steps.{cases}
use Rattle.text.specs.Part.{tab, marked, field_at, split}
use Rattle.text.proofs.Parts.{first_part, split_closed, split_last}
use Rattle.text_fields.specs.declared.Found.{Found}
use Rattle.text_fields.specs.Fields.{counted, fields_at}

-- there is always a first part
pub some_part : (mark : ℕ) (text : List ℕ) → 0 < length (split mark text)
some_part mark text =
    cases (marked mark text)
    (λ e. simp (split_closed mark text e) (omega arith))
    (λ e. simp (split_last mark text e) (lit< tt))

-- a list whose first four are these, as far as the count goes; 5 counts for more than four
pub record ByFour (all : List (List ℕ)) (count : ℕ) (zero one two three : List ℕ) : Type 0 where
  pub some : 0 < count
  pub counts : (n : ℕ) → n ≤ 4 → eqb (length all) n ≡ eqb count n
  pub first : (none : List ℕ) → get_or all 0 none ≡ zero
  pub second : (none : List ℕ) → get_or all 1 none ≡ cond (ltb 1 count) one none
  pub third : (none : List ℕ) → get_or all 2 none ≡ cond (ltb 2 count) two none
  pub fourth : (none : List ℕ) → get_or all 3 none ≡ cond (ltb 3 count) three none

-- four fields and what stands behind them, by which of them a tab closes
abbrev four : Bool → Bool → Bool → Bool → List ℕ → List ℕ → List ℕ → List ℕ → List (List ℕ) → List (List ℕ)
four zero one two three a b c d rest = a ∷ cond zero (b ∷ cond one (c ∷ cond two (d ∷ cond three rest []) []) []) []

by_four :
    (zero one two three : Bool) (a b c d : List ℕ) (rest : List (List ℕ)) → 0 < length rest →
    ByFour (four zero one two three a b c d rest) (counted zero one two three) a b c d
by_four false one two three a b c d rest h = search (lit<)
by_four true false two three a b c d rest h = search (lit<)
by_four true true false three a b c d rest h = search (lit<)
by_four true true true false a b c d rest h = search (lit<)
by_four true true true true a b c d rest h =
    let more : (n : ℕ) → n ≤ 4 → eqb (suc (suc (suc (suc (length rest))))) n ≡ eqb 5 n =
    λ n m. ne_eqb (suc (suc (suc (suc (length rest))))) n (λ e. omega arith) ∙ sym (ne_eqb 5 n (λ e. omega arith)) in
    search (lit<)

-- the fields of the line between two places of a text, by what was found of the first four
abbrev pub Listed : List ℕ → ℕ → ℕ → Found → Type 0
Listed text at to f =
    ByFour (split tab (slice at to text)) f.count
    (slice at f.zero.end text)
    (slice f.zero.next f.one.end text)
    (slice f.one.next f.two.end text)
    (slice f.two.next f.three.end text)

pub fields_listed : (text : List ℕ) (at to : ℕ) (f : Found) → f ≡ fields_at text at to → Listed text at to f
fields_listed text at to f e =
    let zero = field_at text at to in
    let one = field_at text zero.next to in
    let two = field_at text one.next to in
    let three = field_at text two.next to in
    let rest = split tab (slice three.next to text) in
    let a = slice at zero.end text in
    let b = slice zero.next one.end text in
    let c = slice one.next two.end text in
    let d = slice two.next three.end text in
    let all : split tab (slice at to text) ≡ four zero.closed one.closed two.closed three.closed a b c d rest =
    simp (first_part tab text at to, first_part tab text zero.next to, first_part tab text one.next to, first_part tab text two.next to) in
    subst (Listed text at to) (sym e)
    (subst
    (λ (l : List (List ℕ)). ByFour l (counted zero.closed one.closed two.closed three.closed) a b c d)
    (sym all)
    (by_four zero.closed one.closed two.closed three.closed a b c d rest (some_part tab (slice three.next to text))))
