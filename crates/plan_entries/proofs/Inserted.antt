-- What stands at each place of an array into which a value was put, and that it keeps its length. Assumes nothing.
use mathlib.Core.Path.{◌≡◌, ap, ◌∙◌}
use mathlib.Core.List.{List, ◌∷◌, ◌++◌}
use Prim.Native.Nat.{ℕ, suc, ◌+◌, ◌-◌, ◌≤◌, ◌<◌}
use native.Mathlib.Omega.{arith}
use lib.ListN.{length, get_or, take, drop, length-append, length-take, length-drop, get_or-append}
use lib.Seq.{length-take-le, get_or-take, get_or-drop, get_or_at, get_or-append-add}
use Rattle.plan_entries.specs.Insert.{inserted}

module _ {A : Type 0} (k : ℕ) (x : A) (xs : List A) where
  pub inserted_length : length (inserted k x xs) ≡ length xs
  inserted_length =
      length-take-le (length xs) (take k xs ++ (x ∷ drop k xs)) (simp (length-append, length-take, length-drop) (omega arith))

  module _ (none : A) where
    pub inserted_before : (i : ℕ) → i < k → i < length xs → get_or (inserted k x xs) i none ≡ get_or xs i none
    inserted_before i h inside =
        get_or-take (length xs) (take k xs ++ (x ∷ drop k xs)) i none inside
        ∙ get_or-append (take k xs) (x ∷ drop k xs) none i (simp length-take (omega arith))
        ∙ get_or-take k xs i none h

    pub inserted_at : k < length xs → get_or (inserted k x xs) k none ≡ x
    inserted_at inside =
        get_or-take (length xs) (take k xs ++ (x ∷ drop k xs)) k none inside
        ∙ get_or_at (take k xs) x (drop k xs) none k (length-take-le k xs (omega arith))

    pub inserted_behind : (i : ℕ) → k ≤ i → suc i < length xs → get_or (inserted k x xs) (suc i) none ≡ get_or xs i none
    inserted_behind i h inside =
        let moved : suc i ≡ length (take k xs) + suc (i - k) = simp length-take (omega arith) in
        let back : k + (i - k) ≡ i = omega arith in
        get_or-take (length xs) (take k xs ++ (x ∷ drop k xs)) (suc i) none inside
        ∙ ap (λ (n : ℕ). get_or (take k xs ++ (x ∷ drop k xs)) n none) moved
        ∙ get_or-append-add (take k xs) (x ∷ drop k xs) (suc (i - k)) none
        ∙ get_or-drop k xs (i - k) none
        ∙ ap (λ (n : ℕ). get_or xs n none) back
