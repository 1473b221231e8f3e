-- A row's words set at once are its words set one after the other.
-- Assumes nothing.
use mathlib.Core.Path.{◌≡◌, refl, sym, ap, ◌∙◌}
use mathlib.Core.List.{List, [], ◌∷◌}
use Prim.Native.Nat.{ℕ, suc, ◌+◌, ◌*◌, ◌<◌}
use native.Mathlib.Nat.{add-zero}
use native.Mathlib.Omega.{arith}
use lib.ListN.{set}
use lib.Seq.{sets}
use borrow.Author.Tests.{lt-ltb}
use Rattle.area_rows.specs.Rows.{with_row, with_word}

-- the rows with a row's words set one after the other, from a place on
abbrev pub in_words : List ℕ → ℕ → ℕ → List ℕ → List ℕ
in_words rows row place [] = rows
in_words rows row place (word ∷ words) = in_words (with_word 256 32 rows row place word) row (place + 1) words

sets_in_words : (words rows : List ℕ) (row place : ℕ) → row < 256 → sets rows (32 * row + place) words ≡ in_words rows row place words
sets_in_words [] rows row place there = refl
sets_in_words (word ∷ words) rows row place there =
    let next : suc (32 * row + place) ≡ 32 * row + (place + 1) = omega arith in
    let one : set rows (32 * row + place) word ≡ with_word 256 32 rows row place word = simp (lt-ltb row 256 there) in
    ap (λ (at : ℕ). sets (set rows (32 * row + place) word) at words) next
    ∙ ap (λ (l : List ℕ). sets l (32 * row + (place + 1)) words) one
    ∙ sets_in_words words (with_word 256 32 rows row place word) row (place + 1) there

pub row_in_words : (words rows : List ℕ) (row : ℕ) → row < 256 → with_row 256 32 rows row words ≡ in_words rows row 0 words
row_in_words words rows row there =
    simp (lt-ltb row 256 there) (ap (λ (at : ℕ). sets rows at words) (sym (add-zero (32 * row))) ∙ sets_in_words words rows row 0 there)

-- one word more, and one more that was worked out
module _ {before now next : List ℕ} (row place : ℕ) where
  pub one_more : (word : ℕ) → next ≡ with_word 256 32 now row place word → now ≡ before → next ≡ with_word 256 32 before row place word
  one_more word done same = done ∙ ap (λ (rows : List ℕ). with_word 256 32 rows row place word) same

  pub one_worked_out : (value word : ℕ) → value ≡ word → next ≡ with_word 256 32 now row place value → now ≡ before → next ≡ with_word 256 32 before row place word
  one_worked_out value word is done same =
      one_more value done same ∙ ap (λ (x : ℕ). with_word 256 32 before row place x) is
