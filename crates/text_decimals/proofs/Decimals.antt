-- Facts on plain decimals: a number read digit by digit, one spelled from its last digit on, and that what is written is read back.
-- Assumes nothing.
use mathlib.Core.Path.{◌≡◌, refl, ap, ◌∙◌}
use mathlib.Core.Bool.{true, false, cond, ◌&&◌, and-true, and-false, or-true}
use mathlib.Core.List.{List, [], ◌∷◌}
use Prim.Native.Nat.{ℕ, zero, suc, ◌+◌, ◌-◌, ◌/◌, ◌%◌, ◌^◌, ◌≤◌, ◌<◌}
use native.Mathlib.Numerals.{add-one}
use native.Mathlib.Omega.{arith}
use lib.Dec.{leb, ltb}
use lib.ListN.{length, drop, get_or, set, drop_of_length-le}
use lib.Seq.{drop-cons, lt-length-set, get_or-set_same, drop-set-lt}
use borrow.Author.Tests.{lt-ltb, le-ltb, ltb-true, ltb-false, le-leb, lt-leb, leb-true, leb-false, eq-eqb, ne_eqb}
use Rattle.text_decimals.specs.Decimal.{is_digit, all_digits, is_plain, with_digit, value_on, digit_on, number_of, digits_on, decimal_of}
use Rattle.std.specs.Prelude.{Option, Some, None}
use borrow.Table.Steps.{cases}
use Rattle.text_decimals.proofs.Ranges.{inside}

-- the number so far, and a digit more at a time
unfoldable pub read : Option ℕ → List ℕ → ℕ → Option ℕ
read number [] top = number
read (Some value) (c ∷ rest) top = read (digit_on value c top) rest top
read None (c ∷ rest) top = None

-- a digit that leads above the top value is wrong
pub above_top : (value c top : ℕ) → top < with_digit value c → None ≡ digit_on value c top
above_top value c top h = simp (lt-leb (with_digit value c) top h, and-false)

-- what was wrong once stays so
pub read_wrong : (text : List ℕ) (top : ℕ) → read None text top ≡ None
unfolding read
read_wrong [] top = refl
read_wrong (c ∷ rest) top = refl

-- the digit at a place is read, and what is left says the same
pub read_on : (text : List ℕ) (i value top : ℕ) (longer said : Option ℕ) → i < length text
    → longer ≡ digit_on value (get_or text i 0) top
    → read (Some value) (drop i text) top ≡ said → read longer (drop (i + 1) text) top ≡ said
unfolding read
read_on text i value top longer said h digit so_far = simp (digit, add-one) (simp (drop-cons text i 0 h) at so_far)

-- all of them are read
pub read_end : (text : List ℕ) (i value top : ℕ) → length text ≤ i → read (Some value) (drop i text) top ≡ Some value
unfolding read
read_end text i value top h = simp (drop_of_length-le text {i = i} h)

-- more digits never make a number less
value_grows : (value : ℕ) (text : List ℕ) → value ≤ value_on value text
unfolding value_on
value_grows value [] = omega arith
value_grows value (c ∷ rest) = omega (arith, value_grows (with_digit value c) rest)

-- a digit at a time or all at once: what leads above the top value never comes back
read_all : (text : List ℕ) (value top : ℕ) → value ≤ top
    → read (Some value) text top ≡ cond (all_digits text && leb (value_on value text) top) (Some (value_on value text)) None
unfolding read all_digits value_on
read_all [] value top h = simp (le-leb value top h)
read_all (c ∷ rest) value top h =
    cases (is_digit c)
    (λ digit.
    cases (leb (with_digit value c) top)
    (λ low. simp (digit, low) (read_all rest (with_digit value c) top (leb-true _ _ low)))
    (λ high.
    let above : top < with_digit value c = leb-false _ _ high in
    let beyond : leb (value_on (with_digit value c) rest) top ≡ false =
    lt-leb (value_on (with_digit value c) rest) top (omega (arith, value_grows (with_digit value c) rest))
    in
    simp (digit, high, beyond, and-false, read_wrong rest top)))
    (λ other. simp (other, read_wrong rest top))

-- a decimal of one digit or more, with no 0 in front of others, says what its digits say
pub read_plain : (text : List ℕ) (top : ℕ) → 0 < length text → (1 < length text → get_or text 0 0 ≡ 48 → ⊥)
    → read (Some 0) text top ≡ number_of text top
read_plain [] top some front = absurd (omega arith)
read_plain (c ∷ []) top some front = read_all (c ∷ []) 0 top (omega arith) ∙ simp (or-true, and-true)
read_plain (c ∷ d ∷ rest) top some front =
    read_all (c ∷ d ∷ rest) 0 top (omega arith) ∙ simp (ne_eqb c 48 (front (omega arith)), and-true)

-- nothing is no plain decimal
pub nothing_there : (text : List ℕ) (top : ℕ) → length text ≡ 0 → number_of text top ≡ None
nothing_there [] top none = refl
nothing_there (c ∷ rest) top none = absurd (omega arith)

-- with a 0 in front of others it is no plain decimal
pub zero_in_front : (text : List ℕ) (top : ℕ) → 1 < length text → get_or text 0 0 ≡ 48 → number_of text top ≡ None
zero_in_front [] top more front = absurd (omega arith)
zero_in_front (c ∷ []) top more front = absurd (omega arith)
zero_in_front (c ∷ d ∷ rest) top more front = simp (eq-eqb c 48 front, and-false)

-- what stands from a place on, once an octet is stored there
stored : (l : List ℕ) (i v : ℕ) → i < length l → drop i (set l i v) ≡ v ∷ drop (i + 1) l
stored l i v h =
    drop-cons (set l i v) i 0 (lt-length-set l i v h)
    ∙ simp (add-one, get_or-set_same l i v 0 h, drop-set-lt (suc i) l i v (omega arith))

-- the last of several digits is stored, and the others are left to spell
pub spelled_on : (at rest : ℕ) (digits : List ℕ) → 9 < rest → rest < 10 ^ (at + 1) → at < length digits
    → (0 < at) × ((rest / 10 < 10 ^ (at - 1 + 1)) ×
    (digits_on (at - 1 + 1) (rest / 10) (drop (at - 1 + 1) (set digits at (48 + rest % 10)))
    ≡ digits_on (at + 1) rest (drop (at + 1) digits)))
unfolding digits_on
spelled_on zero rest digits more fits h = absurd (omega arith)
spelled_on (suc at) rest digits more fits h =
    let same : suc at - 1 + 1 ≡ suc at = omega arith in
    let less : rest < 10 ^ suc (suc at) = simp add-one at fits in (
      omega arith,
      (
        simp same (omega arith),
        simp (same, add-one (suc at), stored digits (suc at) (48 + rest % 10) h, le-ltb rest 10 (omega arith)),
      ),
    )

-- the only digit left is stored
pub spelled_last : (at rest : ℕ) (digits : List ℕ) → rest ≤ 9 → at < length digits
    → drop at (set digits at (48 + rest)) ≡ digits_on (at + 1) rest (drop (at + 1) digits)
unfolding digits_on
spelled_last at rest digits one h = simp (stored digits at (48 + rest) h, add-one, lt-ltb rest 10 (omega arith))

-- the digits of a number say that number
value_back : (most n : ℕ) (rest : List ℕ) → n < 10 ^ most → value_on 0 (digits_on most n rest) ≡ value_on n rest
unfolding digits_on value_on
value_back zero n rest h = ap (λ (v : ℕ). value_on v rest) (omega arith)
value_back (suc most) n rest h =
    cases (ltb n 10)
    (λ e. simp e (ap (λ (v : ℕ). value_on v rest) (omega arith)))
    (λ e.
    simp (e, value_back most (n / 10) ((48 + n % 10) ∷ rest) (omega arith))
    (ap (λ (v : ℕ). value_on v rest) (omega arith)))

digit_back : (n : ℕ) → n < 10 → is_digit (48 + n) ≡ true
digit_back n h = inside 48 57 (48 + n) (omega arith) (omega arith)

-- they are digits, with no 0 in front
plain_back : (most n : ℕ) (rest : List ℕ) → 0 < n → n < 10 ^ suc most → is_plain (digits_on (suc most) n rest) ≡ all_digits rest
unfolding digits_on all_digits
plain_back zero n rest some h =
    simp (lt-ltb n 10 (omega arith), digit_back n (omega arith), ne_eqb (48 + n) 48 (omega arith), and-true)
plain_back (suc most) n rest some h =
    cases (ltb n 10)
    (λ e.
    let one : n < 10 = ltb-true n 10 e in
    simp (e, digit_back n one, ne_eqb (48 + n) 48 (omega arith), and-true))
    (λ e.
    let more : 10 ≤ n = ltb-false n 10 e in
    simp (e, plain_back most (n / 10) ((48 + n % 10) ∷ rest) (omega arith) (omega arith), digit_back (n % 10) (omega arith)))

zero_back : (top : ℕ) → number_of (decimal_of 0) top ≡ Some 0
unfolding digits_on all_digits value_on
zero_back top = simp (le-leb 0 top (omega arith))

-- a number that is written is read back as it was
pub decimal_read_back : (n top : ℕ) → n ≤ top → n < 10 ^ 20 → number_of (decimal_of n) top ≡ Some n
unfolding all_digits value_on
decimal_read_back zero top within fits = zero_back top
decimal_read_back (suc n) top within fits =
    simp (plain_back 19 (suc n) [] (omega arith) fits, value_back 20 (suc n) [] fits, le-leb (suc n) top within)
