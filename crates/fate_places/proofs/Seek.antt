-- A search place by place: what a loop has passed, what it finds, and that nothing is found behind the last. Assumes nothing.
use mathlib.Core.Path.{◌≡◌, sym, ap, ◌∙◌}
use mathlib.Core.Bool.{Bool, true, false, cond, true≢false}
use Prim.Native.Nat.{ℕ, zero, suc, ◌+◌, ◌-◌, ◌≤◌, ◌<◌}
use native.Mathlib.Nat.{sub-zero}
use native.Mathlib.Omega.{arith}
use borrow.Table.Steps.{cases}
use Rattle.fate_places.specs.Places.{seek}

-- of n places those below k are passed: what is left yields what the whole yields
pub record Sought {A : Type 0} (test : ℕ → Bool) (told : ℕ → A) (none : A) (n k : ℕ) : Type 0 where
  pub within : k ≤ n
  pub rest : seek test told none k (n - k) ≡ seek test told none 0 n

module _ {A : Type 0} (test : ℕ → Bool) (told : ℕ → A) (none : A) (n : ℕ) where
  pub sought_none : Sought test told none n 0
  sought_none = record { within = omega arith; rest = ap (seek test told none 0) (sub-zero n) }

  step : (k : ℕ) → k < n → seek test told none k (n - k) ≡ cond (test k) (told k) (seek test told none (k + 1) (n - (k + 1)))
  unfolding seek
  step k h =
      let left : n - k ≡ suc (n - (k + 1)) = omega arith in
      ap (seek test told none k) left

  end : (k : ℕ) → n ≤ k → seek test told none k (n - k) ≡ none
  unfolding seek
  end k h =
      let left : n - k ≡ 0 = omega arith in
      ap (seek test told none k) left

  module _ (k : ℕ) (so_far : Sought test told none n k) where
    pub sought_on : k < n → test k ≡ false → Sought test told none n (k + 1)
    sought_on h e =
        let here : seek test told none k (n - k) ≡ seek test told none (k + 1) (n - (k + 1)) = simp e at (step k h) in
        record { within = omega arith; rest = sym here ∙ so_far.rest }

    pub sought_hit : k < n → test k ≡ true → told k ≡ seek test told none 0 n
    sought_hit h e =
        let here : seek test told none k (n - k) ≡ told k = simp e at (step k h) in
        sym here ∙ so_far.rest

    pub sought_end : n ≤ k → none ≡ seek test told none 0 n
    sought_end h = sym (end k h) ∙ so_far.rest

-- where some place passes, a search that only tells whether one does finds one
pub finds : (test : ℕ → Bool) (from more k : ℕ) → from ≤ k → k < from + more → test k ≡ true
    → seek test (λ (place : ℕ). true) false from more ≡ true
unfolding seek
finds test from zero k h below e = absurd (omega arith)
finds test from (suc more) k h below e =
    cases (test from)
    (λ f. simp f)
    (λ f.
    let apart : from ≡ k → ⊥ = λ same. true≢false (sym (ap test same ∙ e) ∙ f) in
    simp f (finds test (from + 1) more k (omega (arith, apart)) (omega arith) e))
