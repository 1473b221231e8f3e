-- A reply that is given only if a test holds: no row with its number applies else.
-- Assumes nothing.
use mathlib.Core.Path.{◌≡◌, sym, ◌∙◌}
use mathlib.Core.Bool.{Bool, true, false, true≢false}
use mathlib.Core.List.{List, [], ◌∷◌}
use Prim.Native.Nat.{ℕ, ◌<◌}
use native.Mathlib.Omega.{arith}
use lib.Dec.{eqb}
use borrow.Author.Tests.{eq-eqb}
use borrow.Table.Steps.{cases}
use Rattle.replies.specs.Reply.{Row, first}

-- the rows with a number apply only if a test holds: each row has another number, or applies only then
pub data Only (number : ℕ) (test : Bool) : List Row → Type 0 where
  end : Only number test []
  past : (now : Row) (later : List Row) → eqb now.number number ≡ false → Only number test later → Only number test (now ∷ later)
  full : (now : Row) (later : List Row) → (now.applies ≡ true → test ≡ true) → Only number test later → Only number test (now ∷ later)

-- so that it holds where such a row is the first that applies
pub only_first : (number : ℕ) (test : Bool) → 0 < number → (rows : List Row) → Only number test rows → first rows ≡ number → test ≡ true
unfolding first
only_first number test over _ end none = absurd (omega (arith, none))
only_first number test over _ (past now later differs rest) is =
    cases now.applies
    (λ on. absurd (true≢false (sym (eq-eqb now.number number (simp on at is)) ∙ differs)))
    (λ off. only_first number test over later rest (simp off at is))
only_first number test over _ (full now later so rest) is =
    cases now.applies so (λ off. only_first number test over later rest (simp off at is))
