-- The two laws of rows, over any stretch and any number of rows: the row stored is the row loaded, and every other row is as it
-- was; the same of one word; and the area keeps its length.
-- Assumes nothing.
use mathlib.Core.Path.{◌≡◌, refl, ap, ◌∙◌}
use mathlib.Core.Bool.{cond}
use mathlib.Core.List.{List, [], ◌∷◌}
use Prim.Native.Nat.{ℕ, zero, suc, ◌+◌, ◌*◌, ◌≤◌, ◌<◌}
use native.Mathlib.Nat.{add-zero, mul-le-mul_left, mul-suc}
use native.Mathlib.Omega.{arith}
use lib.Dec.{ltb, eqb}
use lib.ListN.{length, get_or, set, length-set}
use lib.Seq.{sets, length-sets, get_or-set_same, get_or-set_other}
use borrow.Author.Tests.{lt-ltb, ltb-true, ltb-false, eqb-true, eqb-false}
use borrow.Table.Steps.{cases}
use Rattle.area_rows.specs.Rows.{word_at, with_row, with_word}

-- words set from a place on leave what stands before them
pub set_after : (words area : List ℕ) (at k : ℕ) → k < at → get_or (sets area at words) k 0 ≡ get_or area k 0
set_after [] area at k h = refl
set_after (word ∷ words) area at k h =
    set_after words (set area at word) (suc at) k (omega arith) ∙ get_or-set_other area at k word 0 (omega arith)

-- and what stands behind them
set_before : (words area : List ℕ) (at k : ℕ) → at + length words ≤ k → get_or (sets area at words) k 0 ≡ get_or area k 0
set_before [] area at k h = refl
set_before (word ∷ words) area at k h =
    set_before words (set area at word) (suc at) k (omega arith) ∙ get_or-set_other area at k word 0 (omega arith)

-- and stand in their places
pub set_there : (words area : List ℕ) (at k : ℕ) → k < length words → at + k < length area → get_or (sets area at words) (at + k) 0 ≡ get_or words k 0
set_there [] area at k h room = absurd (omega arith)
set_there (word ∷ words) area at zero h room =
    rw add-zero (set_after words (set area at word) (suc at) at (omega arith) ∙ get_or-set_same area at word 0 (omega arith))
set_there (word ∷ words) area at (suc k) h room =
    let same : at + suc k ≡ suc at + k = omega arith in
    let fits : suc at + k < length (set area at word) = simp length-set (omega arith) in
    rw same (set_there words (set area at word) (suc at) k (omega arith) fits)

-- a row ends where the next begins
next_row : (stretch row : ℕ) → stretch * suc row ≡ stretch * row + stretch
next_row stretch row = mul-suc stretch row

-- and before any later one
row_before : (stretch row later : ℕ) → row < later → stretch * row + stretch ≤ stretch * later
row_before stretch row later h = omega (arith, next_row stretch row, mul-le-mul_left stretch h)

-- a word of another row stands before the row or behind it
word_apart : {P : Type 0} (stretch row other place : ℕ) → (other ≡ row → ⊥) → place < stretch
    → (stretch * other + place < stretch * row → P) → (stretch * row + stretch ≤ stretch * other + place → P) → P
word_apart stretch row other place apart inside before behind =
    cases (ltb other row)
    (λ e. let ends = row_before stretch other row (ltb-true _ _ e) in before (omega arith))
    (λ e.
    let later : row < other = omega (arith, ltb-false other row e, apart) in
    let ends = row_before stretch row other later in
    behind (omega arith))

module _ (rows stretch : ℕ) (area : List ℕ) (row : ℕ) (words : List ℕ) (short : length words ≤ stretch) where
  -- the row stored is the row loaded
  pub row_same : row < rows → length area ≡ stretch * rows → (place : ℕ) → place < length words → word_at rows stretch (with_row rows stretch area row words) row place ≡ get_or words place 0
  row_same h size place k =
      let room : stretch * row + length words ≤ length area = omega (arith, row_before stretch row rows h) in
      simp (lt-ltb row rows h) (set_there words area (stretch * row) place k (omega arith))

  other_words : (other : ℕ) → (other ≡ row → ⊥) → (place : ℕ) → place < stretch → get_or (sets area (stretch * row) words) (stretch * other + place) 0 ≡ get_or area (stretch * other + place) 0
  other_words other apart place k =
      word_apart stretch row other place apart k
      (λ before. set_after words area (stretch * row) (stretch * other + place) before)
      (λ behind. set_before words area (stretch * row) (stretch * other + place) (omega arith))

  -- every other row is as it was
  pub row_other : (other : ℕ) → (other ≡ row → ⊥) → (place : ℕ) → place < stretch → word_at rows stretch (with_row rows stretch area row words) other place ≡ word_at rows stretch area other place
  row_other other apart place k =
      cases (ltb row rows)
      (λ e. simp e (ap (λ (x : ℕ). cond (ltb other rows) x 0) (other_words other apart place k)))
      (λ e. simp e)

  -- and the area is as long as it was
  pub row_length : length (with_row rows stretch area row words) ≡ length area
  row_length = cases (ltb row rows) (λ e. simp e (length-sets area (stretch * row) words)) (λ e. simp e)

module _ (rows stretch : ℕ) (area : List ℕ) (row place : ℕ) (inside : place < stretch) (value : ℕ) where
  own_words : row < rows → length area ≡ stretch * rows → (k : ℕ) → k < stretch → get_or (set area (stretch * row + place) value) (stretch * row + k) 0 ≡ cond (eqb k place) value (get_or area (stretch * row + k) 0)
  own_words h size k low =
      cases (eqb k place)
      (λ e.
      let room : stretch * row + place < length area = omega (arith, row_before stretch row rows h) in
      simp e
      (ap (λ (n : ℕ). get_or (set area (stretch * row + place) value) (stretch * row + n) 0) (eqb-true k place e)
      ∙ get_or-set_same area (stretch * row + place) value 0 room))
      (λ e.
      simp e (get_or-set_other area (stretch * row + place) (stretch * row + k) value 0 (λ same. eqb-false k place e (omega arith))))

  -- the row has the word stored in its place, and every other word as it was
  pub word_same : row < rows → length area ≡ stretch * rows → (k : ℕ) → k < stretch → word_at rows stretch (with_word rows stretch area row place value) row k ≡ cond (eqb k place) value (word_at rows stretch area row k)
  word_same h size k low = simp (lt-ltb row rows h) (own_words h size k low)

  -- every other row is as it was
  pub word_other : (other : ℕ) → (other ≡ row → ⊥) → (k : ℕ) → k < stretch → word_at rows stretch (with_word rows stretch area row place value) other k ≡ word_at rows stretch area other k
  word_other other apart k low =
      let elsewhere : stretch * other + k ≡ stretch * row + place → ⊥ =
      word_apart stretch row other k apart low (λ before same. omega arith) (λ behind same. omega arith)
      in
      cases (ltb row rows)
      (λ e.
      simp e
      (ap (λ (x : ℕ). cond (ltb other rows) x 0)
      (get_or-set_other area (stretch * row + place) (stretch * other + k) value 0 elsewhere)))
      (λ e. simp e)

  -- and the area is as long as it was
  pub word_length : length (with_word rows stretch area row place value) ≡ length area
  word_length = cases (ltb row rows) (λ e. simp (e, length-set)) (λ e. simp e)
