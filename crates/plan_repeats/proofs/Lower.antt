-- Among values in ascending order the place of a new one is how many of them are lower. Assumes nothing.
use mathlib.Core.Path.{◌≡◌}
use mathlib.Core.List.{List, [], ◌∷◌}
use Prim.Native.Nat.{ℕ, zero, suc, ◌≤◌, ◌<◌, zero-le}
use native.Mathlib.Omega.{arith}
use lib.Dec.{ltb}
use lib.ListN.{length, get_or}
use borrow.Author.Tests.{ltb-true, ltb-false}
use borrow.Table.Steps.{cases}
use Rattle.plan.proofs.Order.{Ascending, Parts}
use Rattle.plan_repeats.specs.Search.{many}

-- one number more in front, below x or not
module _ (f : ℕ → ℕ) (n x : ℕ) where
  before_first : (place : ℕ) → f 0 < x → ((i : ℕ) → i < place → f (suc i) < x) → (i : ℕ) → i < suc place → f i < x
  before_first place first later zero h = first
  before_first place first later (suc i) h = later i (omega arith)

  behind_first : (place : ℕ) → (place ≡ 0 → x ≤ f 0) → ((i : ℕ) → place ≤ suc i → i < n → x ≤ f (suc i)) → (i : ℕ) → place ≤ i → i < suc n → x ≤ f i
  behind_first place first later zero h k = first (omega arith)
  behind_first place first later (suc i) h k = later i h (omega arith)

  parts_below : (place : ℕ) → f 0 < x → Parts (λ i. f (suc i)) n x place → Parts f (suc n) x (suc place)
  parts_below place first later =
      record {
        within = omega (arith, later.within);
        before = before_first place first later.before;
        behind = behind_first (suc place) (λ e. absurd (omega arith)) (λ i h k. later.behind i (omega arith) k);
      }

  parts_from : (place : ℕ) → x ≤ f 0 → Ascending f (suc n) → Parts (λ i. f (suc i)) n x place → Parts f (suc n) x place
  parts_from zero first order later =
      record {
        within = zero-le;
        before = λ i h. absurd (omega arith);
        behind = behind_first 0 (λ e. first) (λ i h k. later.behind i zero-le k);
      }
  parts_from (suc place) first order later =
      absurd (omega (arith, later.within, later.before 0 (omega arith), order 0 1 (omega arith) (omega (arith, later.within))))

-- how many of some values are below x, which ascend, is where they are parted
pub many_parts : {A : Type 0} (key : A → ℕ) (none : A) (x : ℕ) (values : List A) → Ascending (λ i. key (get_or values i none)) (length values)
    → Parts (λ i. key (get_or values i none)) (length values) x (many (λ (value : A). ltb (key value) x) values)
unfolding many
many_parts key none x [] order =
    record { within = zero-le; before = λ i h. absurd (omega arith); behind = λ i h k. absurd (omega arith) }
many_parts key none x (value ∷ rest) order =
    let later = many_parts key none x rest (λ i j h k. order (suc i) (suc j) (omega arith) (omega arith)) in
    let f : ℕ → ℕ = λ i. key (get_or (value ∷ rest) i none) in
    cases (ltb (key value) x)
    (λ e. simp e (parts_below f (length rest) x _ (ltb-true (key value) x e) later))
    (λ e. simp e (parts_from f (length rest) x _ (ltb-false (key value) x e) order later))
