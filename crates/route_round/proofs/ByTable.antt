-- Why the table may stand for the walk: the rule over the places of a pattern is the walking rule over a set's links, however few they are.
-- Assumes nothing.
use mathlib.Core.Path.{◌≡◌, refl, sym, ap, ◌∙◌, fun_ext}
use mathlib.Core.Bool.{Bool, true, false, cond}
use mathlib.Core.List.{List, [], ◌∷◌, ◌++◌, map, map-append, append_assoc}
use Prim.Native.Nat.{ℕ, zero, suc, min, ◌+◌, ◌-◌, ◌/◌, ◌%◌, ◌^◌, ◌≤◌, ◌<◌}
use native.Mathlib.Nat.{mod-lt, mod-eq_of_lt, div-div-eq-div-mul, zero-div, min-eq_left, min-eq_right}
use native.Mathlib.Omega.{arith}
use lib.Dec.{eqb, ltb}
use lib.Pow.{pow-add}
use lib.ListN.{length, get_or, take, drop, replicate, get_or-eq_default}
use lib.Seq.{take-nil, drop-nil, drop-cons, take-append-le, drop-append-le}
use borrow.Author.Tests.{ltb-true, ltb-false}
use borrow.Table.Steps.{cases}
use Rattle.route_round.specs.Round.{none, going_round, first_serving, link_of_set}
use Rattle.route_round.specs.Table.{bit_at, pattern_of, serves_in, places, place_for}
use Rattle.route_round.proofs.Lists.{map_drop, map_take, nil_of}

module _ (serves : ℕ → Bool) (no_link : serves none ≡ false) where
  -- places behind the last link are passed over
  first_none : (more : ℕ) (back : List ℕ) → first_serving serves (replicate more none ++ back) ≡ first_serving serves back
  unfolding first_serving
  first_none zero back = refl
  first_none (suc more) back = simp no_link (first_none more back)

  first_gap : (front : List ℕ) (more : ℕ) (back : List ℕ)
      → first_serving serves (front ++ (replicate more none ++ back)) ≡ first_serving serves (front ++ back)
  unfolding first_serving
  first_gap [] more back = first_none more back
  first_gap (link ∷ front) more back = ap (cond (serves link) link) (first_gap front more back)

-- the first of some links, by the places that they stand at
first_mapped : (serves : ℕ → Bool) (at : ℕ → ℕ) → at none ≡ none → (those : List ℕ)
    → first_serving serves (map at those) ≡ at (first_serving (λ (place : ℕ). serves (at place)) those)
unfolding first_serving
first_mapped serves at e [] = sym e
first_mapped serves at e (place ∷ those) =
    cases (serves (at place)) (λ h. simp h) (λ h. simp h (first_mapped serves at e those))

round_mapped : (at : ℕ → ℕ) (n : ℕ) (those : List ℕ) → map at (going_round n those) ≡ going_round n (map at those)
round_mapped at n those = simp (map-append, map_drop, map_take)

-- a set's links and then as many places as eight have more
filled : (links : List ℕ) → length links ≤ 8
    → map (λ (place : ℕ). get_or links place none) places ≡ links ++ replicate (8 - length links) none
filled [] h = refl
filled (a ∷ []) h = refl
filled (a ∷ b ∷ []) h = refl
filled (a ∷ b ∷ c ∷ []) h = refl
filled (a ∷ b ∷ c ∷ d ∷ []) h = refl
filled (a ∷ b ∷ c ∷ d ∷ e ∷ []) h = refl
filled (a ∷ b ∷ c ∷ d ∷ e ∷ f ∷ []) h = refl
filled (a ∷ b ∷ c ∷ d ∷ e ∷ f ∷ g ∷ []) h = refl
filled (a ∷ b ∷ c ∷ d ∷ e ∷ f ∷ g ∷ i ∷ []) h = refl
filled (a ∷ b ∷ c ∷ d ∷ e ∷ f ∷ g ∷ i ∷ j ∷ rest) h = absurd (omega arith)

-- a bit as a test
bit_test : (serves : Bool) → eqb (cond serves 1 0) 1 ≡ serves
bit_test true = refl
bit_test false = refl

bit_low : (serves : Bool) → cond serves 1 0 ≤ 1
bit_low true = omega arith
bit_low false = omega arith

module _ (serves : ℕ → Bool) (links : List ℕ) where
  abbrev bit : ℕ → ℕ
  bit place = bit_at serves links place

  pub low : (place : ℕ) → bit place ≤ 1
  low place = bit_low (serves (get_or links place none))

  pub lows : (bit 0 ≤ 1) × (bit 1 ≤ 1) × (bit 2 ≤ 1) × (bit 3 ≤ 1) × (bit 4 ≤ 1) × (bit 5 ≤ 1) × (bit 6 ≤ 1) × (bit 7 ≤ 1)
  lows = (low 0, low 1, low 2, low 3, low 4, low 5, low 6, low 7)

  -- a pattern's bits
  bits : (place : ℕ) → place < 8 → pattern_of serves links / 2 ^ place % 2 ≡ bit place
  bits zero h = omega (arith, lows)
  bits (suc zero) h = omega (arith, lows)
  bits (suc (suc zero)) h = omega (arith, lows)
  bits (suc (suc (suc zero))) h = omega (arith, lows)
  bits (suc (suc (suc (suc zero)))) h = omega (arith, lows)
  bits (suc (suc (suc (suc (suc zero))))) h = omega (arith, lows)
  bits (suc (suc (suc (suc (suc (suc zero)))))) h = omega (arith, lows)
  bits (suc (suc (suc (suc (suc (suc (suc zero))))))) h = omega (arith, lows)
  bits (suc (suc (suc (suc (suc (suc (suc (suc place)))))))) h = absurd (omega arith)

  -- and none past the eighth
  no_bits : (more : ℕ) → pattern_of serves links / 2 ^ (8 + more) % 2 ≡ 0
  no_bits more =
      let all-low : pattern_of serves links / 256 ≡ 0 = omega (arith, lows) in
      ap (λ (p : ℕ). pattern_of serves links / p % 2) (pow-add 2 8 more)
      ∙ ap (λ (q : ℕ). q % 2) (sym (div-div-eq-div-mul (pattern_of serves links) 256 (2 ^ more)))
      ∙ ap (λ (q : ℕ). q / 2 ^ more % 2) all-low
      ∙ ap (λ (q : ℕ). q % 2) (zero-div (2 ^ more))

  module _ (no_link : serves none ≡ false) (few : length links ≤ 8) where
    abbrev at : ℕ → ℕ
    at place = get_or links place none

    -- the links that serve are those of the pattern
    same_test : (place : ℕ) → serves (at place) ≡ serves_in (pattern_of serves links) place
    same_test place =
        cases (ltb place 8)
        (λ h.
        sym (bit_test (serves (at place)))
        ∙ ap (λ (b : ℕ). eqb b 1) (sym (bits place (ltb-true place 8 h))))
        (λ h.
        let behind : 8 ≤ place = ltb-false place 8 h in
        let past_all : length links ≤ place = omega arith in
        let more : 8 + (place - 8) ≡ place = omega arith in
        ap serves (get_or-eq_default links none {n = place} past_all)
        ∙ no_link
        ∙ ap (λ (b : ℕ). eqb b 1) (sym (no_bits (place - 8)))
        ∙ ap (serves_in (pattern_of serves links)) more)

    -- from a place on, the walk round the links is the walk round the places
    round_by : (start : ℕ) → start < length links
        → first_serving serves (going_round start links)
        ≡ at (first_serving (serves_in (pattern_of serves links)) (going_round start places))
    round_by start h =
        let more : ℕ = 8 - length links in
        let within : start ≤ length links = omega arith in
        let none_there : at none ≡ none = get_or-eq_default links none {n = none} (omega arith) in
        let stretched : going_round start (links ++ replicate more none)
        ≡ drop start links ++ (replicate more none ++ take start links) =
        simp (drop-append-le start links (replicate more none) within, take-append-le start links (replicate more none) within, append_assoc)
        in
        sym (first_gap serves no_link (drop start links) more (take start links))
        ∙ ap (first_serving serves) (sym stretched)
        ∙ ap (λ (all : List ℕ). first_serving serves (going_round start all)) (sym (filled links few))
        ∙ ap (first_serving serves) (sym (round_mapped at start places))
        ∙ first_mapped serves at none_there (going_round start places)
        ∙ ap (λ (test : ℕ → Bool). at (first_serving test (going_round start places))) (fun_ext same_test)

    -- no place past the eighth has a link
    at_most : (place : ℕ) → at place ≡ at (min place 8)
    at_most place =
        cases (ltb place 8)
        (λ h.
        let before : place < 8 = ltb-true place 8 h in
        ap at (sym (min-eq_left {n = place} {m = 8} (omega arith))))
        (λ h.
        let behind : 8 ≤ place = ltb-false place 8 h in
        get_or-eq_default links none {n = place} (omega arith)
        ∙ sym (get_or-eq_default links none {n = 8} few)
        ∙ ap at (sym (min-eq_right {n = 8} {m = place} behind)))

    -- "the table is shown equal to the walking rule": a set's link stands at the place that the table has for its pattern
    pub by_table : (sls : ℕ) → 0 < length links
        → link_of_set serves links sls ≡ at (place_for (pattern_of serves links) (sls % length links))
    by_table sls some =
        let start : ℕ = sls % length links in
        let inside : start < length links = mod-lt sls some in
        let low-place : start % 8 ≡ start = mod-eq_of_lt (omega arith) in
        round_by start inside
        ∙ at_most (first_serving (serves_in (pattern_of serves links)) (going_round start places))
        ∙ ap
        (λ (place : ℕ). at (min (first_serving (serves_in (pattern_of serves links)) (going_round place places)) 8))
        (sym low-place)

-- a set's links, and the link that the rule gives
module _ (serves : ℕ → Bool) (links : List ℕ) where
  -- without links there is none
  pub no_links : (sls : ℕ) → length links ≡ 0 → none ≡ link_of_set serves links sls
  unfolding first_serving
  no_links sls empty = simp (nil_of links empty, drop-nil, take-nil)

  -- a normal link that serves is taken
  pub normal_taken : (sls : ℕ) → 0 < length links → serves (get_or links (sls % length links) none) ≡ true
      → get_or links (sls % length links) none ≡ link_of_set serves links sls
  unfolding first_serving
  normal_taken sls some e = simp (drop-cons links (sls % length links) none (mod-lt sls some), e)

  -- behind the last link a place has no bit
  pub no_bit : serves none ≡ false → (place : ℕ) → length links ≤ place → 0 ≡ bit_at serves links place
  no_bit no_link place past_all = simp (get_or-eq_default links none {n = place} past_all, no_link)
