-- A number over 0 is the first of a table's rows exactly if a row with it applies and no row before it does, and 0 exactly if no row
-- applies. Assumes nothing.
use Prim.Native.Nat.{ℕ, ◌<◌}
use native.Mathlib.Omega.{arith}
use mathlib.Core.Bool.{Bool, true, false, cond, and-eq-true_iff}
use mathlib.Core.Logic.{◌↔◌}
use mathlib.Core.List.{List, [], ◌∷◌}
use mathlib.Core.Path.{◌≡◌, refl, sym, ap, subst, ◌∙◌}
use lib.Dec.{ltb}
use borrow.Author.Tests.{ltb-true}
use borrow.Table.Steps.{cases}
use Rattle.replies.specs.Reply.{Row, first}
use Rattle.replies_given.specs.GivenWhen.{Gives, here, there, None, end, next}
use Rattle.replies_given.proofs.Numbers.{all_of, over_zero}

-- the first of some rows by whether the one in front applies
by_front : (now : Row) (later : List Row) (t : Bool) → now.applies ≡ t → first (now ∷ later) ≡ cond t now.number (first later)
unfolding first
by_front now later t e = ap (λ (t : Bool). cond t now.number (first later)) e

gives_first : (rows : List Row) (n : ℕ) → Gives rows n → first rows ≡ n
gives_first _ _ (here now later e) = by_front now later true e
gives_first _ _ (there now later n e rest) = by_front now later false e ∙ gives_first later n rest

first_gives : (rows : List Row) (n : ℕ) → 0 < n → first rows ≡ n → Gives rows n
unfolding first
first_gives [] n over e = absurd (omega arith)
first_gives (now ∷ later) n over e =
    cases now.applies
    (λ yes. subst (Gives (now ∷ later)) (sym (by_front now later true yes) ∙ e) (here now later yes))
    (λ no. there now later n no (first_gives later n over (sym (by_front now later false no) ∙ e)))

none_first : (rows : List Row) → None rows → first rows ≡ 0
unfolding first
none_first _ end = refl
none_first _ (next now later e rest) = by_front now later false e ∙ none_first later rest

first_none : (rows : List Row) → over_zero rows ≡ true → first rows ≡ 0 → None rows
first_none [] known e = end
first_none (now ∷ later) known e =
    let both = (and-eq-true_iff (ltb 0 now.number) (over_zero later)).0 known in
    let over : 0 < now.number = ltb-true 0 now.number both.0 in
    cases now.applies
    (λ yes. let zero : now.number ≡ 0 = sym (by_front now later true yes) ∙ e in absurd (omega arith))
    (λ no. next now later no (first_none later both.1 (sym (by_front now later false no) ∙ e)))

-- a test that holds of every row's number holds of the one that is given
pub gives_of : (test : ℕ → Bool) (rows : List Row) (n : ℕ) → all_of test rows ≡ true → Gives rows n → test n ≡ true
gives_of test _ _ known (here now later e) = ((and-eq-true_iff (test now.number) (all_of test later)).0 known).0
gives_of test _ _ known (there now later n e rest) =
    gives_of test later n ((and-eq-true_iff (test now.number) (all_of test later)).0 known).1 rest

-- what is told is the first row that applies
module _ (told : ℕ) (rows : List Row) (is-first : told ≡ first rows) where
  pub given_exactly : (n : ℕ) → 0 < n → (told ≡ n) ↔ Gives rows n
  given_exactly n over = (λ e. first_gives rows n over (sym is-first ∙ e), λ gives. is-first ∙ gives_first rows n gives)

  pub none_exactly : over_zero rows ≡ true → (told ≡ 0) ↔ None rows
  none_exactly known = (λ e. first_none rows known (sym is-first ∙ e), λ none. is-first ∙ none_first rows none)
