-- Facts on the parts of a text: what is cut out between two places, where a mark stands, that the walk by `until` stays in the text
-- and goes on, and that it gives just what stands between the marks. Assumes nothing.
use mathlib.Core.Path.{◌≡◌, refl, sym, ap, ◌∙◌}
use mathlib.Core.Bool.{true, false, cond, false≢true}
use mathlib.Core.List.{List, [], ◌∷◌}
use Prim.Native.Nat.{ℕ, zero, suc, ◌+◌, ◌-◌, ◌≤◌, ◌<◌, zero-le, suc-le-suc}
use native.Mathlib.Nat.{sub-zero, zero-sub, suc-sub-suc}
use native.Mathlib.Numerals.{add-one}
use native.Mathlib.Omega.{arith}
use lib.Dec.{eqb, leb-suc-suc}
use lib.ListN.{length, take, drop, length-take, length-drop, drop_of_length-le}
use lib.Seq.{slice, take_all, take-take, take-length, take-nil, drop-drop, length-slice}
use borrow.Author.Tests.{ltb-true, ltb-false}
use Rattle.text.specs.Index.{index_of}
use Rattle.text.specs.Part.{marked, until, split}
use borrow.Table.Steps.{cases}

-- a part cut out by its length is the part cut out by its end
pub cut : (at to : ℕ) (text : List ℕ) → take (to - at) (drop at text) ≡ slice at to text
cut zero to text = simp sub-zero
cut (suc at) zero text = simp zero-sub
cut (suc at) (suc to) [] = take-nil (suc to - suc at)
cut (suc at) (suc to) (x ∷ text) = simp suc-sub-suc (cut at to text)

-- an end past the end of the text cuts nothing off
pub cut_whole : (at to : ℕ) (text : List ℕ) → length text ≤ to → slice at (length text) text ≡ slice at to text
cut_whole at to text h = simp (take_all to text h, take-length)

-- from its end on a part is empty
pub cut_none : (at to : ℕ) (text : List ℕ) → to ≤ at → slice at to text ≡ []
cut_none at to text h = drop_of_length-le (take to text) {i = at} (omega (arith, length-take to text))

-- a part has no more octets than the text has from there on
pub cut_length : (at to : ℕ) (text : List ℕ) → length (slice at to text) ≤ length text - at
cut_length at to text = simp (length-drop, length-take) (omega arith)

-- a mark's index is at most the length
pub index_within : (mark : ℕ) (text : List ℕ) → index_of mark text ≤ length text
unfolding index_of
index_within mark [] = zero-le
index_within mark (x ∷ text) =
    cases (eqb x mark) (λ e. simp e zero-le) (λ e. simp e (suc-le-suc (index_within mark text)))

-- up to the first mark stands the first part, and behind the mark the others
pub split_closed : (mark : ℕ) (s : List ℕ) → marked mark s ≡ true
    → split mark s ≡ take (index_of mark s) s ∷ split mark (drop (index_of mark s + 1) s)
unfolding split index_of
split_closed mark [] h = absurd (false≢true h)
split_closed mark (x ∷ s) h =
    cases (eqb x mark)
    (λ e. simp e)
    (λ e.
    let behind : marked mark s ≡ true = simp (e, leb-suc-suc) at h in
    simp (e, add-one, split_closed mark s behind))

-- a text with no mark is one part
pub split_last : (mark : ℕ) (s : List ℕ) → marked mark s ≡ false → split mark s ≡ s ∷ []
unfolding split index_of
split_last mark [] h = refl
split_last mark (x ∷ s) h =
    cases (eqb x mark)
    (λ e.
    let none : suc (length s) ≤ 0 = ltb-false _ _ (simp e at h) in
    absurd (omega arith))
    (λ e.
    let behind : marked mark s ≡ false = simp (e, leb-suc-suc) at h in
    simp (e, split_last mark s behind))

module _ (mark : ℕ) (text : List ℕ) (at to : ℕ) (onward : at ≤ to) (inside : to ≤ length text) where
  -- a part ends in the text
  pub end_within : (until mark text at to).end ≤ to
  end_within = omega (arith, index_within mark (slice at to text), length-slice at to text inside)

  -- and the next one begins there
  pub next_within : (until mark text at to).next ≤ to
  next_within =
      cases (marked mark (slice at to text))
      (λ e.
      let there : index_of mark (slice at to text) < length (slice at to text) = ltb-true _ _ e in
      simp e (omega (arith, length-slice at to text inside)))
      (λ e. simp e end_within)

  -- past a mark the walk has gone on
  pub next_onward : (until mark text at to).closed ≡ true → at < (until mark text at to).next
  next_onward e = simp e (omega arith)

-- the beginning of a part is a part
beginning : (at to n : ℕ) (text : List ℕ) → n ≤ length (slice at to text) → take n (slice at to text) ≡ slice at (at + n) text
beginning at to n text h =
    let whole = cut at to text in
    let short : length (take (to - at) (drop at text)) ≤ to - at = simp length-take (omega arith) in
    let within : n ≤ to - at = omega (arith, ap length whole) in
    let back : at + n - at ≡ n = omega arith in
    ap (take n) (sym whole)
    ∙ take-take n (to - at) (drop at text) within
    ∙ ap (λ (k : ℕ). take k (drop at text)) (sym back)
    ∙ cut at (at + n) text

-- what stands between the marks of a part: first what `until` finds, and where a mark closes it, what stands behind the mark
pub first_part :
    (mark : ℕ) (text : List ℕ) (at to : ℕ) →
    split mark (slice at to text)
    ≡ slice at (until mark text at to).end text
    ∷ cond (until mark text at to).closed (split mark (slice (until mark text at to).next to text)) []
first_part mark text at to =
    let part = slice at to text in
    let n = index_of mark part in
    let here = beginning at to n text (index_within mark part) in
    cases (marked mark part)
    (λ e.
    let on : at + (n + 1) ≡ at + n + 1 = omega arith in
    let behind = drop-drop (n + 1) at (take to text) ∙ ap (λ (k : ℕ). drop k (take to text)) on in
    split_closed mark part e ∙ simp (e, here, behind))
    (λ e.
    let all = take_all n part (ltb-false _ _ e) in
    split_last mark part e ∙ simp e (ap (λ (s : List ℕ). s ∷ []) (sym all ∙ here)))
