-- Two numbers compared, each outcome with what it says, and a test of two that failed. Assumes nothing.
use mathlib.Core.Path.{◌≡◌, refl}
use mathlib.Core.Bool.{Bool, true, false, ◌||◌, true≢false}
use Prim.Native.Nat.{ℕ, ◌≤◌, ◌<◌}
use lib.Dec.{ltb, eqb}
use borrow.Author.Tests.{ltb-true, ltb-false, eqb-true, eqb-false}
use borrow.Table.Steps.{cases}

module _ {P : Type 0} (a b : ℕ) where
  pub split : (a < b → P) → (b ≤ a → P) → P
  split less more = cases (ltb a b) (λ e. less (ltb-true a b e)) (λ e. more (ltb-false a b e))

  pub alike : (a ≡ b → P) → ((a ≡ b → ⊥) → P) → P
  alike same other = cases (eqb a b) (λ e. same (eqb-true a b e)) (λ e. other (eqb-false a b e))

pub both_false : (a b : Bool) → (a || b) ≡ false → (a ≡ false) × (b ≡ false)
both_false false b e = (refl, e)
both_false true b e = absurd (true≢false e)
