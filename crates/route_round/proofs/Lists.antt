-- Facts on lists of numbers. Assumes nothing.
use mathlib.Core.Path.{◌≡◌, refl, sym, ap, ◌∙◌}
use mathlib.Core.List.{List, [], ◌∷◌, map}
use Prim.Native.Nat.{ℕ, zero, suc, ◌<◌}
use native.Mathlib.Omega.{arith}
use lib.ListN.{length, get_or, take, drop}
use lib.Seq.{get_or-take}

-- what is left of some, or taken, one by one
module _ (f : ℕ → ℕ) where
  pub map_drop : (n : ℕ) (l : List ℕ) → map f (drop n l) ≡ drop n (map f l)
  map_drop zero l = refl
  map_drop (suc n) [] = refl
  map_drop (suc n) (x ∷ l) = map_drop n l

  pub map_take : (n : ℕ) (l : List ℕ) → map f (take n l) ≡ take n (map f l)
  map_take zero l = refl
  map_take (suc n) [] = refl
  map_take (suc n) (x ∷ l) = ap (λ (rest : List ℕ). f x ∷ rest) (map_take n l)

-- a list without length is empty
pub nil_of : (l : List ℕ) → length l ≡ 0 → l ≡ []
nil_of [] empty = refl
nil_of (x ∷ l) empty = absurd (omega arith)

-- what stands at a place that there is doesn't depend on what stands past the end
pub there_alone : (l : List ℕ) (i d d' : ℕ) → i < length l → get_or l i d ≡ get_or l i d'
there_alone [] i d d' h = absurd (omega arith)
there_alone (x ∷ l) zero d d' h = refl
there_alone (x ∷ l) (suc i) d d' h = there_alone l i d d' (omega arith)

-- the same among the first ones of a list
pub in_front : (n : ℕ) (l : List ℕ) (i d d' : ℕ) → i < n → i < length l → get_or l i d ≡ get_or (take n l) i d'
in_front n l i d d' h inside = there_alone l i d d' inside ∙ sym (get_or-take n l i d' h)

-- as many as are taken are all that are taken
pub taken_all : (n : ℕ) (l : List ℕ) → take (length (take n l)) l ≡ take n l
taken_all zero l = refl
taken_all (suc n) [] = refl
taken_all (suc n) (x ∷ l) = ap (λ (rest : List ℕ). x ∷ rest) (taken_all n l)
