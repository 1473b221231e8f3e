-- Facts on octets in hex: what a pair of digits says at each place, the lengths, and that what is written is read back.
-- Assumes nothing.
use mathlib.Core.Path.{◌≡◌, refl, sym, ap, ◌∙◌}
use mathlib.Core.Bool.{true, false, ◌&&◌, and-false, and-eq-true_iff}
use mathlib.Core.List.{List, [], ◌∷◌}
use Prim.Native.Nat.{ℕ, zero, suc, ◌+◌, ◌-◌, ◌*◌, ◌/◌, ◌%◌, ◌≤◌, ◌<◌}
use native.Mathlib.Numerals.{add-one}
use native.Mathlib.Omega.{arith}
use lib.Dec.{eqb, leb, ltb}
use lib.ListN.{length, drop, get_or}
use borrow.Author.Tests.{lt-ltb, le-ltb, ltb-true, ltb-false}
use Rattle.text_hex.specs.Hex.{nibble, is_hex, octets_of, readable, count_of, filled, glyph, hex_of}
use Rattle.std.specs.Prelude.{None}
use borrow.Table.Steps.{cases}
use Rattle.text_decimals.proofs.Ranges.{inside, below, above}

-- a pair of digits for each octet
pub octets_length : (s : List ℕ) → length (octets_of s) ≡ length s / 2
unfolding octets_of
octets_length [] = refl
octets_length (a ∷ []) = refl
octets_length (a ∷ b ∷ rest) = omega (arith, octets_length rest)

pub hex_length : (s : List ℕ) → length (hex_of s) ≡ 2 * length s
unfolding hex_of
hex_length [] = refl
hex_length (x ∷ rest) = omega (arith, hex_length rest)

pair_on : (i : ℕ) → 2 * suc i ≡ suc (suc (2 * i))
pair_on i = omega arith

-- the octet at a place is what the pair there says
pub octet_at : (s : List ℕ) (i : ℕ) → i < length s / 2
    → get_or (octets_of s) i 0 ≡ nibble (get_or s (2 * i) 0) * 16 + nibble (get_or s (2 * i + 1) 0)
unfolding octets_of
octet_at [] i h = absurd (omega arith)
octet_at (a ∷ []) i h = absurd (omega arith)
octet_at (a ∷ b ∷ rest) zero h = refl
octet_at (a ∷ b ∷ rest) (suc i) h = simp (pair_on, add-one) (simp add-one at (octet_at rest i (omega arith)))

-- whether what is left from a pair on is hex
hex_at : (s : List ℕ) (i : ℕ) → i < length s / 2
    → is_hex (drop (2 * i) s)
    ≡ ltb (nibble (get_or s (2 * i) 0)) 16 && (ltb (nibble (get_or s (2 * i + 1) 0)) 16 && is_hex (drop (2 * (i + 1)) s))
unfolding is_hex
hex_at [] i h = absurd (omega arith)
hex_at (a ∷ []) i h = absurd (omega arith)
hex_at (a ∷ b ∷ rest) zero h = refl
hex_at (a ∷ b ∷ rest) (suc i) h = simp (pair_on, add-one) (simp (pair_on, add-one) at (hex_at rest i (omega arith)))

module _ (s : List ℕ) (i : ℕ) (pair : i < length s / 2) where
  pub hex_on : nibble (get_or s (2 * i) 0) < 16 → nibble (get_or s (2 * i + 1) 0) < 16
      → is_hex (drop (2 * (i + 1)) s) ≡ is_hex (drop (2 * i) s)
  hex_on h k = sym (hex_at s i pair ∙ simp (lt-ltb (nibble (get_or s (2 * i) 0)) 16 h, lt-ltb (nibble (get_or s (2 * i + 1) 0)) 16 k))

  pub high_wrong : 16 ≤ nibble (get_or s (2 * i) 0) → is_hex (drop (2 * i) s) ≡ false
  high_wrong h = hex_at s i pair ∙ simp (le-ltb (nibble (get_or s (2 * i) 0)) 16 h)

  pub low_wrong : 16 ≤ nibble (get_or s (2 * i + 1) 0) → is_hex (drop (2 * i) s) ≡ false
  low_wrong h = hex_at s i pair ∙ simp (le-ltb (nibble (get_or s (2 * i + 1) 0)) 16 h, and-false)

-- past the last pair nothing is left, or half a pair
pub hex_end : (s : List ℕ) → is_hex (drop (2 * (length s / 2)) s) ≡ eqb (length s % 2) 0
unfolding is_hex
hex_end [] = refl
hex_end (a ∷ []) = refl
hex_end (a ∷ b ∷ rest) =
    let pairs : suc (suc (length rest)) / 2 ≡ suc (length rest / 2) = omega arith in
    let odd : suc (suc (length rest)) % 2 ≡ length rest % 2 = omega arith in
    simp (pairs, odd, pair_on) (hex_end rest)

-- a text in hex is a pair of digits and a text in hex
pair_first : (a b : ℕ) (rest : List ℕ) → is_hex (a ∷ b ∷ rest) ≡ true → (nibble a < 16) × ((nibble b < 16) × (is_hex rest ≡ true))
unfolding is_hex
pair_first a b rest hex =
    let first = (and-eq-true_iff (ltb (nibble a) 16) (ltb (nibble b) 16 && is_hex rest)).0 hex in
    let second = (and-eq-true_iff (ltb (nibble b) 16) (is_hex rest)).0 first.1 in
    (ltb-true (nibble a) 16 first.0, (ltb-true (nibble b) 16 second.0, second.1))

-- so each pair of it is
pub digits_at : (s : List ℕ) (i : ℕ) → is_hex s ≡ true → i < length s / 2
    → (nibble (get_or s (2 * i) 0) < 16) × (nibble (get_or s (2 * i + 1) 0) < 16)
digits_at [] i hex h = absurd (omega arith)
digits_at (a ∷ []) i hex h = absurd (omega arith)
digits_at (a ∷ b ∷ rest) zero hex h = ((pair_first a b rest hex).0, (pair_first a b rest hex).1.0)
digits_at (a ∷ b ∷ rest) (suc i) hex h =
    simp (pair_on, add-one) (simp add-one at (digits_at rest i (pair_first a b rest hex).1.1 (omega arith)))

-- a text that can't be read leaves the area as it was
pub unreadable : (text out : List ℕ) → readable text out ≡ false → (None ≡ count_of text out) × (out ≡ filled text out)
unreadable text out e = (simp e, simp e)

-- the two digits of the octet at a place
pub high_at : (s : List ℕ) (i : ℕ) → i < length s → get_or (hex_of s) (2 * i) 0 ≡ glyph (get_or s i 0 / 16)
unfolding hex_of
high_at [] i h = absurd (omega arith)
high_at (x ∷ rest) zero h = refl
high_at (x ∷ rest) (suc i) h = simp pair_on (high_at rest i (omega arith))

pub low_at : (s : List ℕ) (i : ℕ) → i < length s → get_or (hex_of s) (2 * i + 1) 0 ≡ glyph (get_or s i 0 % 16)
unfolding hex_of
low_at [] i h = absurd (omega arith)
low_at (x ∷ rest) zero h = refl
low_at (x ∷ rest) (suc i) h = simp (pair_on, add-one) (simp add-one at (low_at rest i (omega arith)))

-- what a digit says, in each of the three ranges, and what an octet outside them
module _ (c : ℕ) where
  pub digit_says : 48 ≤ c → c ≤ 57 → nibble c ≡ c - 48
  digit_says h k = simp (inside 48 57 c h k)

  pub small_says : 97 ≤ c → c ≤ 102 → nibble c ≡ c - 87
  small_says h k = simp (above 48 57 c (omega arith), inside 97 102 c h k)

  pub capital_says : 65 ≤ c → c ≤ 70 → nibble c ≡ c - 55
  capital_says h k = simp (above 48 57 c (omega arith), below 97 102 c (omega arith), inside 65 70 c h k)

  pub none_says : leb 48 c && leb c 57 ≡ false → leb 97 c && leb c 102 ≡ false → leb 65 c && leb c 70 ≡ false → 16 ≡ nibble c
  none_says digit small capital = simp (digit, small, capital)

-- the digit of a number says that number
glyph_says : (n : ℕ) → n < 16 → nibble (glyph n) ≡ n
glyph_says n h =
    cases (ltb n 10)
    (λ e.
    let few : n < 10 = ltb-true n 10 e in
    simp e (digit_says (48 + n) (omega arith) (omega arith) ∙ omega arith))
    (λ e.
    let many : 10 ≤ n = ltb-false n 10 e in
    simp e (small_says (87 + n) (omega arith) (omega arith) ∙ omega arith))

-- octets written in hex are read back as they were
pub hex_read_back : (s : List ℕ) → ((i : ℕ) → get_or s i 0 < 256) → (is_hex (hex_of s) ≡ true) × (octets_of (hex_of s) ≡ s)
unfolding is_hex octets_of hex_of
hex_read_back [] octets = (refl, refl)
hex_read_back (x ∷ rest) octets =
    let high : nibble (glyph (x / 16)) ≡ x / 16 = glyph_says (x / 16) (omega (arith, octets 0)) in
    let low : nibble (glyph (x % 16)) ≡ x % 16 = glyph_says (x % 16) (omega arith) in
    let back : (is_hex (hex_of rest) ≡ true) × (octets_of (hex_of rest) ≡ rest) = hex_read_back rest (λ i. octets (suc i)) in (
      simp (
        lt-ltb (nibble (glyph (x / 16))) 16 (omega (arith, octets 0)),
        lt-ltb (nibble (glyph (x % 16))) 16 (omega arith),
        back.0,
      ),
      ap (λ (y : ℕ). y ∷ octets_of (hex_of rest)) (omega arith) ∙ ap (λ (l : List ℕ). x ∷ l) back.1,
    )
