-- Tests that are told together: one of them passes, or none. Assumes nothing.
use mathlib.Core.Path.{◌≡◌}
use mathlib.Core.Bool.{Bool, true, false, ◌||◌, or-true}
use mathlib.Core.Logic.{◌⊎◌, inl, inr}

module _ (a b : Bool) where
  pub either : (a ≡ true) ⊎ (b ≡ true) → (a || b) ≡ true
  either (inl e) = simp e
  either (inr e) = simp (e, or-true)

  pub neither : (a ≡ false) × (b ≡ false) → (a || b) ≡ false
  neither e = simp (e.0, e.1)

module _ (a b c : Bool) where
  pub one_of : (a ≡ true) ⊎ ((b ≡ true) ⊎ (c ≡ true)) → (a || (b || c)) ≡ true
  one_of (inl e) = either a (b || c) (inl e)
  one_of (inr e) = either a (b || c) (inr (either b c e))

  pub none_of : (a ≡ false) × ((b ≡ false) × (c ≡ false)) → (a || (b || c)) ≡ false
  none_of e = neither a (b || c) (e.0, neither b c e.1)
