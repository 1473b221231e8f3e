-- Numbers in octets, lowest first, and labels: each is read back from what was written, and written back from what was read.
-- Assumes nothing.
use mathlib.Core.Path.{◌≡◌, refl, ap, ap₂, ◌∙◌}
use mathlib.Core.List.{List, [], ◌∷◌}
use Prim.Native.Nat.{ℕ, zero, suc, ◌+◌, ◌*◌, ◌/◌, ◌%◌, ◌^◌, ◌<◌}
use native.Mathlib.Nat.{pow-suc, mod-lt, mod-mod}
use native.Mathlib.Omega.{arith}
use lib.Dec.{lit<}
use lib.ListN.{length, take, drop}
use Rattle.wire.specs.declared.header.Label.{Label}
use Rattle.wire.specs.Header.{low_first, from_low, label_word, label_of, InRange, Octets}

octets_take : (n : ℕ) (s : List ℕ) → Octets s → Octets (take n s)
octets_take zero s h i = lit< tt
octets_take (suc n) [] h i = lit< tt
octets_take (suc n) (x ∷ s) h zero = h 0
octets_take (suc n) (x ∷ s) h (suc i) = octets_take n s (λ k. h (suc k)) i

-- a part of octets is octets
pub octets_part : (n at : ℕ) (s : List ℕ) → Octets s → Octets (take n (drop at s))
octets_part n zero s h = octets_take n s h
octets_part n (suc at) [] h = octets_take n [] h
octets_part n (suc at) (x ∷ s) h = octets_part n at s (λ i. h (suc i))

-- a number that fits its octets is what they say
pub from_low_first : (octets number : ℕ) → number < 256 ^ octets → from_low (low_first octets number) ≡ number
from_low_first zero number h = omega arith
from_low_first (suc octets) number h =
    let small : number < 256 ^ octets * 256 = rw (pow-suc 256 octets) at h in
    let fits : number / 256 < 256 ^ octets = omega arith in
    rw (from_low_first octets (number / 256) fits) (omega arith)

-- octets say a number that fits them
pub from_low_below : (s : List ℕ) → Octets s → from_low s < 256 ^ length s
from_low_below [] h = omega arith
from_low_below (x ∷ s) h =
    let first : x < 256 = h 0 in
    let rest : from_low s < 256 ^ length s = from_low_below s (λ i. h (suc i)) in
    rw (pow-suc 256 (length s)) (omega arith)

-- and are what is written of it
pub low_first_from : (s : List ℕ) → Octets s → low_first (length s) (from_low s) ≡ s
low_first_from [] h = refl
low_first_from (x ∷ s) h =
    let first : x < 256 = h 0 in
    let low : (x + 256 * from_low s) % 256 ≡ x = omega arith in
    let high : (x + 256 * from_low s) / 256 ≡ from_low s = omega arith in
    ap₂ ◌∷◌ low (ap (low_first (length s)) high ∙ low_first_from s (λ i. h (suc i)))

-- a label's word has 32 bits
pub word_below : (label : Label) → label_word label < 256 ^ 4
word_below label = omega arith

-- the word behind the DPC's fourteen bits
behind : (d o s : ℕ) → d < 16384 → (d + 16384 * o + 268435456 * s) / 16384 ≡ o + 16384 * s
behind d o s h = omega arith

-- and behind the OPC's fourteen
above : (d o s : ℕ) → d < 16384 → o < 16384 → (d + 16384 * o + 268435456 * s) / 268435456 ≡ s
above d o s h k = omega arith

-- a label in range is read back from its word
pub label_back : (label : Label) → InRange label → label_of (label_word label) ≡ label
label_back label h =
    let d = label.dpc % 16384 in
    let o = label.opc % 16384 in
    let s = label.sls % 16 in
    let small : d < 16384 = mod-lt label.dpc (lit< tt) in
    let dpc : label_word label % 16384 ≡ label.dpc = omega arith in
    let opc : label_word label / 16384 % 16384 ≡ label.opc = ap (λ (x : ℕ). x % 16384) (behind d o s small) ∙ omega arith in
    let high = above d o s small (mod-lt label.opc (lit< tt)) in
    let sls : label_word label / 268435456 % 16 ≡ label.sls = ap (λ (x : ℕ). x % 16) high ∙ omega arith in
    λ i. record { dpc = dpc i; opc = opc i; sls = sls i }

-- a word is its parts of 14, 14 and 4 bits
parts : (word : ℕ) → word % 16384 + 16384 * (word / 16384 % 16384) + 268435456 * (word / 16384 / 16384) ≡ word
parts word = omega arith

-- a word of 32 bits is written back from the label that it is read as
pub word_back : (word : ℕ) → word < 256 ^ 4 → label_word (label_of word) ≡ word
word_back word h =
    let twice : word / 268435456 ≡ word / 16384 / 16384 = omega arith in
    let small : word / 16384 / 16384 % 16 ≡ word / 16384 / 16384 = omega arith in
    simp (mod-mod, twice, small) (parts word)
