-- Rows behind rows: where no row is numbered 0, the rows behind are asked exactly if the reply of those before is 0. And rows that
-- stand only under a condition. Assumes nothing.
use Prim.Native.Nat.{ℕ, ◌<◌, ◌≤◌}
use native.Mathlib.Omega.{arith}
use mathlib.Core.Bool.{Bool, true, false, cond, ◌&&◌, and-eq-true_iff}
use mathlib.Core.List.{List, [], ◌∷◌, ◌++◌}
use mathlib.Core.Path.{◌≡◌, refl}
use lib.Dec.{ltb, leb}
use borrow.Author.Tests.{ltb-true, leb-true, ne_eqb}
use borrow.Table.Steps.{cases}
use Rattle.replies.specs.Reply.{Row, row, first, if_done}
use Rattle.replies_given.proofs.Numbers.{all_of, over_zero, all_weaker}

-- every row has a number of the table, 1 to 11
abbrev pub in_table : List Row → Bool
in_table = all_of (λ (n : ℕ). ltb 0 n && leb n 11)

-- so none is numbered 0
pub numbered_over : (rows : List Row) → in_table rows ≡ true → over_zero rows ≡ true
numbered_over = all_weaker (λ (n : ℕ). ltb 0 n && leb n 11) (λ (n : ℕ). ltb 0 n) (λ n e. ((and-eq-true_iff (ltb 0 n) (leb n 11)).0 e).0)

pub numbered : (here : Row) (later : List Row) → in_table (here ∷ later) ≡ true
    → (0 < here.number) × ((here.number ≤ 11) × (in_table later ≡ true))
numbered here later e =
    let both = (and-eq-true_iff (ltb 0 here.number && leb here.number 11) (in_table later)).0 e in
    let two = (and-eq-true_iff (ltb 0 here.number) (leb here.number 11)).0 both.0 in
    (ltb-true 0 here.number two.0, (leb-true here.number 11 two.1, both.1))

pub continued : (rows more : List Row) → in_table rows ≡ true → first (rows ++ more) ≡ if_done (first rows) (first more) (first rows)
unfolding first
continued [] more e = refl
continued (here ∷ later) more e =
    let known = numbered here later e in
    let over = known.0 in
    cases here.applies
    (λ yes. simp (yes, ne_eqb here.number 0 (λ z. omega arith)))
    (λ no. simp no (continued later more known.1.1))

-- what rows say that stand only under a condition
pub with_two : (due : Bool) (n k : ℕ) (p q : Bool)
    → cond due (first (row n p ∷ row k q ∷ [])) 0 ≡ first (row n (due && p) ∷ row k (due && q) ∷ [])
unfolding first
with_two true n k p q = refl
with_two false n k p q = refl
