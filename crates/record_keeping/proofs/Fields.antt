-- Fields in which no mark stands: a line of them falls apart into them, and ends at its LF. In words, decimals and octets in hex
-- none stands.
-- Assumes nothing.
use mathlib.Core.Path.{◌≡◌, refl, sym, ap, ◌∙◌}
use mathlib.Core.Bool.{Bool, true, false, not, ◌&&◌, and-eq-true_iff, false≢true}
use mathlib.Core.List.{List, [], ◌∷◌, ◌++◌, append_assoc}
use Prim.Native.Nat.{ℕ, zero, suc, ◌+◌, ◌/◌, ◌%◌, ◌≤◌, ◌<◌}
use native.Mathlib.Omega.{arith}
use lib.Dec.{eqb, leb, ltb}
use lib.ListN.{length}
use borrow.Author.Tests.{eq-eqb, ne_eqb, le-leb, leb-true}
use borrow.Table.Steps.{cases}
use Rattle.text.specs.Part.{tab, split}
use Rattle.text_decimals.specs.Decimal.{digits_on, decimal_of}
use Rattle.text_hex.specs.Hex.{glyph, hex_of}
use Rattle.text_pages.specs.Page.{ended, joined}
use Rattle.record_keeping.specs.Recorder.{as_line, tabbed}

-- a text in which a mark doesn't stand
unfoldable pub free : ℕ → List ℕ → Bool
free mark [] = true
free mark (x ∷ text) = not (eqb x mark) && free mark text

-- each of some texts
unfoldable pub all_free_lem : ℕ → List (List ℕ) → Bool
all_free_lem mark [] = true
all_free_lem mark (text ∷ more) = free mark text && all_free_lem mark more

-- nor at its first place, nor behind it
free_on : (mark x : ℕ) (text : List ℕ) → free mark (x ∷ text) ≡ true → (eqb x mark ≡ false) × (free mark text ≡ true)
unfolding free
free_on mark x text h =
    let both = (and-eq-true_iff (not (eqb x mark)) (free mark text)).0 h in
    cases (eqb x mark)
    (λ e. absurd (false≢true (simp e at both.0)))
    (λ e. (e, both.1))

free_append : (mark : ℕ) (a b : List ℕ) → free mark a ≡ true → free mark b ≡ true → free mark (a ++ b) ≡ true
unfolding free
free_append mark [] b h k = k
free_append mark (x ∷ a) b h k =
    let first = free_on mark x a h in
    simp (first.0, free_append mark a b first.1 k)

-- a text with no mark ends at the first that stands behind it
pub split_on : (mark : ℕ) (text rest : List ℕ) → free mark text ≡ true → split mark (text ++ (mark ∷ rest)) ≡ text ∷ split mark rest
unfolding split
split_on mark [] rest h = simp (eq-eqb mark mark refl)
split_on mark (x ∷ text) rest h =
    let first = free_on mark x text h in
    simp (first.0, split_on mark text rest first.1)

-- and with none behind it is one part
pub split_alone : (mark : ℕ) (text : List ℕ) → free mark text ≡ true → split mark text ≡ text ∷ []
unfolding split
split_alone mark [] h = refl
split_alone mark (x ∷ text) h =
    let first = free_on mark x text h in
    simp (first.0, split_alone mark text first.1)

-- one field or more that hold no tab, parted by tabs, fall apart into themselves
pub fields_apart : (fields : List (List ℕ)) → 0 < length fields → all_free_lem tab fields ≡ true → split tab (tabbed fields) ≡ fields
unfolding all_free_lem tabbed
fields_apart [] some h = absurd (omega arith)
fields_apart (field ∷ []) some h = split_alone tab field ((and-eq-true_iff (free tab field) true).0 h).0
fields_apart (field ∷ next ∷ more) some h =
    let both = (and-eq-true_iff (free tab field) (all_free_lem tab (next ∷ more))).0 h in
    split_on tab field (tabbed (next ∷ more)) both.0
    ∙ ap (λ (l : List (List ℕ)). field ∷ l) (fields_apart (next ∷ more) (omega arith) both.1)

-- the tabs between them bring no other mark in
pub line_free : (mark : ℕ) (fields : List (List ℕ)) → eqb tab mark ≡ false → all_free_lem mark fields ≡ true → free mark (tabbed fields) ≡ true
unfolding free all_free_lem tabbed
line_free mark [] e h = refl
line_free mark (field ∷ []) e h = ((and-eq-true_iff (free mark field) true).0 h).0
line_free mark (field ∷ next ∷ more) e h =
    let both = (and-eq-true_iff (free mark field) (all_free_lem mark (next ∷ more))).0 h in
    free_append mark field (tab ∷ tabbed (next ∷ more)) both.0 (simp (e, line_free mark (next ∷ more) e both.1))

-- the pieces of a line, one behind the other, are its octets and its LF
pub line_joined : (fields : List (List ℕ)) → joined (as_line fields) ≡ tabbed fields ++ ended
unfolding joined as_line tabbed
line_joined [] = refl
line_joined (field ∷ []) = refl
line_joined (field ∷ next ∷ more) =
    ap (λ (l : List ℕ). field ++ (tab ∷ l)) (line_joined (next ∷ more)) ∙ sym (append_assoc field (tab ∷ tabbed (next ∷ more)) ended)

-- a text of digits and of what lies behind them: no octet is below 48
unfoldable pub spelled : List ℕ → Bool
spelled [] = true
spelled (x ∷ text) = leb 48 x && spelled text

-- each of some texts
unfoldable pub all_spelled : List (List ℕ) → Bool
all_spelled [] = true
all_spelled (text ∷ more) = spelled text && all_spelled more

-- tab and LF lie below
spelled_free : (mark : ℕ) (text : List ℕ) → mark < 48 → spelled text ≡ true → free mark text ≡ true
unfolding free spelled
spelled_free mark [] h e = refl
spelled_free mark (x ∷ text) h e =
    let both = (and-eq-true_iff (leb 48 x) (spelled text)).0 e in
    let high : 48 ≤ x = leb-true 48 x both.0 in
    simp (ne_eqb x mark (λ s. omega arith), spelled_free mark text h both.1)

-- so neither stands in such fields
pub all_free : (mark : ℕ) (texts : List (List ℕ)) → mark < 48 → all_spelled texts ≡ true → all_free_lem mark texts ≡ true
unfolding all_free_lem all_spelled
all_free mark [] h e = refl
all_free mark (text ∷ more) h e =
    let both = (and-eq-true_iff (spelled text) (all_spelled more)).0 e in
    simp (spelled_free mark text h both.0, all_free mark more h both.1)

-- a decimal is spelled
digits_spelled : (most n : ℕ) (rest : List ℕ) → spelled rest ≡ true → spelled (digits_on most n rest) ≡ true
unfolding spelled digits_on
digits_spelled zero n rest h = h
digits_spelled (suc most) n rest h =
    cases (ltb n 10)
    (λ e. simp (e, le-leb 48 (48 + n) (omega arith), h))
    (λ e. simp e (digits_spelled most (n / 10) ((48 + n % 10) ∷ rest) (simp (le-leb 48 (48 + n % 10) (omega arith), h))))

pub decimal_spelled : (n : ℕ) → spelled (decimal_of n) ≡ true
unfolding spelled
decimal_spelled n = digits_spelled 20 n [] refl

glyph_high : (n : ℕ) → leb 48 (glyph n) ≡ true
glyph_high n = cases (ltb n 10) (λ e. simp e (le-leb 48 (48 + n) (omega arith))) (λ e. simp e (le-leb 48 (87 + n) (omega arith)))

-- octets in hex are spelled
pub hex_spelled : (s : List ℕ) → spelled (hex_of s) ≡ true
unfolding spelled hex_of
hex_spelled [] = refl
hex_spelled (x ∷ rest) = simp (glyph_high (x / 16), glyph_high (x % 16), hex_spelled rest)
