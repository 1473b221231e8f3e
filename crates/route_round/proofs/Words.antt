-- Facts on the table's words: a test that antt computes over all of them holds at each, and a word's digits are its entries.
-- Assumes nothing.
use mathlib.Core.Path.{◌≡◌, sym, ap, ap₂, ◌∙◌}
use mathlib.Core.Bool.{Bool, true, ◌&&◌, and-eq-true_iff}
use mathlib.Core.List.{List, [], ◌∷◌}
use Prim.Native.Nat.{ℕ, zero, suc, min, ◌+◌, ◌*◌, ◌/◌, ◌%◌, ◌^◌, ◌≤◌, ◌<◌}
use native.Mathlib.Nat.{add-zero, zero-add, mod-mod, div-div-eq-div-mul, div-one, min-le_right}
use native.Mathlib.Omega.{arith}
use lib.Pow.{pow-add}
use lib.ListN.{length, get_or}
use Rattle.route_round.specs.Round.{going_round, first_serving, link_of_set}
use Rattle.route_round.specs.Table.{serves_in, places, place_for, entry, digits}

-- a test passes at each entry of a list and its place, counted from one on
abbrev pub every : (ℕ → ℕ → Bool) → ℕ → List ℕ → Bool
every test from [] = true
every test from (x ∷ xs) = test from x && every test (suc from) xs

-- and so at each
from_one : (test : ℕ → ℕ → Bool) (xs : List ℕ) (from : ℕ) → every test from xs ≡ true → (k : ℕ) → k < length xs
    → test (from + k) (get_or xs k 0) ≡ true
from_one test [] from all k h = absurd (omega arith)
from_one test (x ∷ xs) from all zero h =
    ap (λ (n : ℕ). test n x) (add-zero from) ∙ ((and-eq-true_iff (test from x) (every test (suc from) xs)).0 all).0
from_one test (x ∷ xs) from all (suc k) h =
    let one_more : from + suc k ≡ suc from + k = omega arith in
    ap (λ (n : ℕ). test n (get_or xs k 0)) one_more
    ∙ from_one test xs (suc from) ((and-eq-true_iff (test from x) (every test (suc from) xs)).0 all).1 k (omega arith)

pub at_each : (test : ℕ → ℕ → Bool) (xs : List ℕ) → every test 0 xs ≡ true → (k : ℕ) → k < length xs
    → test k (get_or xs k 0) ≡ true
at_each test xs all k h = ap (λ (n : ℕ). test n (get_or xs k 0)) (sym (zero-add k)) ∙ from_one test xs 0 all k h

-- none of the first so many numbers
abbrev pub Not : ℕ → ℕ → Type 0
Not zero x = Unit
Not (suc n) x = Not n x × (x ≡ n → ⊥)

pub past : (n x : ℕ) → Not n x → n ≤ x
past zero x h = omega arith
past (suc n) x h = let before : n ≤ x = past n x h.0 in let other : x ≡ n → ⊥ = h.1 in omega (arith, before, other)

-- an entry is a digit
entry_low : (number : ℕ) → entry number < 16
entry_low number = omega (arith, min-le_right (link_of_set (serves_in (number / 8)) places (number % 8)) 8)

-- each of some entries is a digit of their word
pub digit_at : (k n number : ℕ) → k < n → digits n number / 2 ^ (4 * k) % 16 ≡ entry (number + k)
unfolding digits
digit_at k zero number h = absurd (omega arith)
digit_at zero (suc n) number h =
    simp (div-one, add-zero) (omega (arith, entry_low number))
digit_at (suc k) (suc n) number h =
    let more : ℕ = digits n (number + 1) in
    let behind : (entry number + 16 * more) / 16 ≡ more = omega (arith, entry_low number) in
    let four-more : 4 * suc k ≡ 4 + 4 * k = omega arith in
    let power : 2 ^ (4 * suc k) ≡ 16 * 2 ^ (4 * k) = ap (λ (n : ℕ). 2 ^ n) four-more ∙ pow-add 2 4 (4 * k) in
    let one_more : number + 1 + k ≡ number + suc k = omega arith in
    ap (λ (p : ℕ). (entry number + 16 * more) / p % 16) power
    ∙ ap (λ (q : ℕ). q % 16) (sym (div-div-eq-div-mul (entry number + 16 * more) 16 (2 ^ (4 * k))))
    ∙ ap (λ (q : ℕ). q / 2 ^ (4 * k) % 16) behind
    ∙ digit_at k n (number + 1) (omega arith)
    ∙ ap entry one_more

-- the entry of a pattern and a starting place
pub entry_of : (pattern start : ℕ) → entry (16 * (pattern / 2) + (8 * (pattern % 2) + start % 8)) ≡ place_for pattern start
entry_of pattern start =
    let number : ℕ = 16 * (pattern / 2) + (8 * (pattern % 2) + start % 8) in
    let row : number / 8 ≡ pattern = omega arith in
    let column : number % 8 ≡ start % 8 = omega arith in
    ap₂ place_for row column
    ∙ ap (λ (place : ℕ). min (first_serving (serves_in pattern) (going_round place places)) 8) (mod-mod start 8)
