-- Values in ascending order, and the place of a new one among them. Assumes nothing.
use mathlib.Core.Path.{◌≡◌}
use Prim.Native.Nat.{ℕ, ◌≤◌, ◌<◌}
use native.Mathlib.Omega.{arith}

-- the first n numbers ascend
abbrev pub Ascending : (ℕ → ℕ) → ℕ → Type 0
Ascending f n = (i j : ℕ) → i < j → j < n → f i < f j

-- of the first n numbers those before a place are below x, and no others
pub record Parts (f : ℕ → ℕ) (n x place : ℕ) : Type 0 where
  pub within : place ≤ n
  pub before : (i : ℕ) → i < place → f i < x
  pub behind : (i : ℕ) → place ≤ i → i < n → x ≤ f i

-- numbers that are the same are parted at the same place
pub parts_same : (f g : ℕ → ℕ) (n x place : ℕ) → ((i : ℕ) → i < n → f i ≡ g i) → Parts f n x place → Parts g n x place
parts_same f g n x place same parts =
    record {
      within = parts.within;
      before = λ i h. omega (arith, same i (omega (arith, parts.within)), parts.before i h);
      behind = λ i h k. omega (arith, same i k, parts.behind i h k);
    }
