-- What a test whose outcomes are one says, and one that holds only below a bound.
-- Assumes nothing.
use mathlib.Core.Path.{◌≡◌, refl, sym, ◌∙◌}
use mathlib.Core.Bool.{Bool, true, false, cond, false≢true}
use Prim.Native.Nat.{ℕ, ◌≤◌, ◌<◌}
use lib.Dec.{ltb}
use borrow.Author.Tests.{ltb-true, ltb-false}
use borrow.Table.Steps.{cases}

-- what fails either way fails
pub cond_same : (test : Bool) → cond test false false ≡ false
cond_same true = refl
cond_same false = refl

-- what fails from b on holds only below b
pub only_below : {answer : Bool} (a b : ℕ) → (b ≤ a → answer ≡ false) → answer ≡ true → a < b
only_below a b fails holds =
    cases (ltb a b) (ltb-true a b) (λ e. absurd (false≢true (sym (fails (ltb-false a b e)) ∙ holds)))
