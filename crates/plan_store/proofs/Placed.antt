-- Words set one after the other, and a table whose rows are: where each word then stands, and how a loop sets them. Assumes nothing.
use mathlib.Core.Path.{◌≡◌, refl, sym, ap, ◌∙◌}
use mathlib.Core.List.{List, [], ◌∷◌}
use Prim.Native.Nat.{ℕ, zero, suc, ◌+◌, ◌*◌, ◌≤◌, ◌<◌}
use native.Mathlib.Nat.{mul-zero, mul-suc}
use native.Mathlib.Numerals.{add-one}
use native.Mathlib.Omega.{arith}
use lib.ListN.{length, get_or, drop, drop_of_length-le}
use lib.Seq.{sets, length-sets, drop-cons}
use Rattle.area_rows.proofs.Laws.{set_after, set_there}
use Rattle.plan_store.specs.Layout.{placed}

module _ {A : Type 0} (row : A → List ℕ) (width : ℕ) where
  pub length_placed : (at : ℕ) (items : List A) (words : List ℕ) → length (placed row width at items words) ≡ length words
  unfolding placed
  length_placed at [] words = refl
  length_placed at (item ∷ items) words = length_placed (at + width) items (sets words at (row item)) ∙ length-sets words at (row item)

  -- words before a table are as they were
  pub placed_after : (at : ℕ) (items : List A) (words : List ℕ) (k : ℕ) → k < at → get_or (placed row width at items words) k 0 ≡ get_or words k 0
  unfolding placed
  placed_after at [] words k h = refl
  placed_after at (item ∷ items) words k h =
      placed_after (at + width) items (sets words at (row item)) k (omega arith) ∙ set_after (row item) words at k h

  module _ (none : A) where
    there : (at : ℕ) (items : List A) (words : List ℕ) (i k : ℕ) → i < length items → k < width → k < length (row (get_or items i none))
        → at + width * i + k < length words
        → get_or (placed row width at items words) (at + width * i + k) 0 ≡ get_or (row (get_or items i none)) k 0
    unfolding placed
    there at [] words i k h narrow within room = absurd (omega arith)
    there at (item ∷ items) words zero k h narrow within room =
        let first : at + width * zero + k ≡ at + k = omega (arith, mul-zero width) in
        rw first
        (placed_after (at + width) items (sets words at (row item)) (at + k) (omega arith) ∙ set_there (row item) words at k within (omega arith))
    there at (item ∷ items) words (suc i) k h narrow within room =
        let next : at + width * suc i + k ≡ at + width + width * i + k = omega (arith, mul-suc width i) in
        rw next
        (there (at + width) items (sets words at (row item)) i k (omega arith) narrow within (simp length-sets (omega (arith, mul-suc width i))))

    -- the k-th word of a row, at its place
    pub placed_there : (at : ℕ) (items : List A) (words : List ℕ) (i k place : ℕ) → place ≡ at + width * i + k
        → i < length items → k < width → k < length (row (get_or items i none)) → place < length words
        → get_or (placed row width at items words) place 0 ≡ get_or (row (get_or items i none)) k 0
    placed_there at items words i k place e h narrow within room =
        ap (λ (p : ℕ). get_or (placed row width at items words) p 0) e ∙ there at items words i k h narrow within (omega arith)

    -- a turn of the loop that sets rows, and its end
    pub placed_turn : (at : ℕ) (items : List A) (words after whole : List ℕ) (i n : ℕ) → length items ≡ n → i < n
        → after ≡ sets words (at + width * i) (row (get_or items i none))
        → placed row width (at + width * i) (drop i items) words ≡ whole
        → placed row width (at + width * (i + 1)) (drop (i + 1) items) after ≡ whole
    unfolding placed
    placed_turn at items words after whole i n size h now e =
        let next : at + width * (i + 1) ≡ at + width * i + width = rw (add-one, mul-suc) (omega arith) in
        rw (now, next, add-one) (ap (λ (l : List A). placed row width (at + width * i) l words) (sym (drop-cons items i none (omega arith))) ∙ e)

  pub placed_end : (at : ℕ) (items : List A) (words whole : List ℕ) (i n : ℕ) → length items ≡ n → n ≤ i
      → placed row width at (drop i items) words ≡ whole → words ≡ whole
  unfolding placed
  placed_end at items words whole i n size h e = ap (λ (l : List A). placed row width at l words) (sym (drop_of_length-le items {i = i} (omega arith))) ∙ e
