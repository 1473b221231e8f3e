-- Facts on the first link that serves, in a list and going round a set. Assumes nothing.
use mathlib.Core.Path.{◌≡◌, refl, sym, ap, ◌∙◌}
use mathlib.Core.Bool.{Bool, true, false, ◌||◌, or_assoc, or_comm, true≢false, false≢true}
use mathlib.Core.List.{List, [], ◌∷◌, ◌++◌, append_assoc, append-nil}
use Prim.Native.Nat.{ℕ, zero, suc, ◌+◌, ◌-◌, ◌%◌, ◌≤◌, ◌<◌}
use native.Mathlib.Nat.{mod-lt, mod-eq_of_lt, mod-eq-sub-mod, mod-add-mod, mod_self, add-zero}
use native.Mathlib.Numerals.{add-one}
use native.Mathlib.Omega.{arith}
use lib.Dec.{ltb}
use lib.ListN.{length, get_or, take, drop, length-append, length-take, length-drop, take-append-drop, get_or-append}
use lib.Seq.{take-length, drop-length, drop-cons, take-suc, get_or-append-add, get_or-take, get_or-drop}
use borrow.Author.Tests.{lt-ltb, ltb-true, ltb-false}
use borrow.Table.Steps.{cases}
use Rattle.route_choice.specs.Which.{none, Proper, going_round, first_serving, some_serves}

module _ (serves : ℕ → Bool) where
  some_append : (front back : List ℕ) → some_serves serves (front ++ back) ≡ some_serves serves front || some_serves serves back
  unfolding some_serves
  some_append [] back = refl
  some_append (link ∷ front) back = simp (some_append front back, or_assoc)

  -- from wherever a set is gone round, the same links are met
  pub some_round : (place : ℕ) (links : List ℕ) → some_serves serves (going_round place links) ≡ some_serves serves links
  some_round place links =
      some_append (drop place links) (take place links)
      ∙ or_comm (some_serves serves (drop place links)) (some_serves serves (take place links))
      ∙ sym (some_append (take place links) (drop place links))
      ∙ ap (some_serves serves) (take-append-drop place links)

  -- where one serves, the first that serves does
  pub first_serves : (links : List ℕ) → some_serves serves links ≡ true → serves (first_serving serves links) ≡ true
  unfolding some_serves first_serving
  first_serves [] some = absurd (false≢true some)
  first_serves (link ∷ rest) some =
      cases (serves link) (λ e. simp (e, e)) (λ e. simp e (first_serves rest (simp e at some)))

  -- where none serves, there is no first
  pub first_none : (links : List ℕ) → some_serves serves links ≡ false → first_serving serves links ≡ none
  unfolding some_serves first_serving
  first_none [] no_one = refl
  first_none (link ∷ rest) no_one =
      cases (serves link) (λ e. absurd (true≢false (simp e at no_one))) (λ e. simp e (first_none rest (simp e at no_one)))

  -- a rule yields a link exactly if one serves
  pub serving_exactly : Proper serves → (links : List ℕ) → ltb (first_serving serves links) none ≡ some_serves serves links
  serving_exactly proper links =
      cases (some_serves serves links)
      (λ e. lt-ltb (first_serving serves links) none (proper (first_serving serves links) (first_serves links e)) ∙ sym e)
      (λ e. ap (λ (link : ℕ). ltb link none) (first_none links e) ∙ sym e)

pub round_length : (links : List ℕ) (from : ℕ) → length (going_round from links) ≡ length links
round_length links from = simp (length-append, length-drop, length-take) (omega arith)

-- the link at a place, going round from another
module _ (links : List ℕ) (from : ℕ) (here : from < length links) where
  pub round_at : (k past_all : ℕ) → k < length links
      → get_or (going_round from links) k past_all ≡ get_or links ((from + k) % length links) past_all
  round_at k past_all h =
      cases (ltb (from + k) (length links))
      (λ e.
      let before : from + k < length links = ltb-true _ _ e in
      let inside : k < length (drop from links) = simp length-drop (omega arith) in
      get_or-append (drop from links) (take from links) past_all k inside
      ∙ get_or-drop from links k past_all
      ∙ ap (λ (i : ℕ). get_or links i past_all) (sym (mod-eq_of_lt before)))
      (λ e.
      let behind : length links ≤ from + k = ltb-false _ _ e in
      let j : ℕ = from + k - length links in
      let place : k ≡ length (drop from links) + j = simp length-drop (omega arith) in
      let turned : (from + k) % length links ≡ j = mod-eq-sub-mod behind ∙ mod-eq_of_lt (omega arith) in
      ap (λ (i : ℕ). get_or (going_round from links) i past_all) place
      ∙ get_or-append-add (drop from links) (take from links) j past_all
      ∙ get_or-take from links j past_all (omega arith)
      ∙ ap (λ (i : ℕ). get_or links i past_all) (sym turned))

-- going round from the end is going round from the start
turned_over : (links : List ℕ) → going_round (length links) links ≡ going_round 0 links
turned_over links = simp (drop-length, take-length, append-nil)

module _ (serves : ℕ → Bool) where
  -- a last link that doesn't serve changes nothing
  first_last : (links : List ℕ) (last : ℕ) → serves last ≡ false
      → first_serving serves (links ++ (last ∷ [])) ≡ first_serving serves links
  unfolding first_serving
  first_last [] last e = simp e
  first_last (link ∷ rest) last e = cases (serves link) (λ f. simp f) (λ f. simp f (first_last rest last e))

  -- a place whose link doesn't serve, and the next
  round_past : (links : List ℕ) (from : ℕ) → from < length links → serves (get_or links from none) ≡ false
      → first_serving serves (going_round (suc from) links) ≡ first_serving serves (going_round from links)
  unfolding first_serving
  round_past links from here e =
      simp (drop-cons links from none here, e, take-suc links from none here)
      (ap (first_serving serves) (sym (append_assoc (drop (suc from) links) (take from links) (get_or links from none ∷ [])))
      ∙ first_last (drop (suc from) links ++ take from links) (get_or links from none) e)

  round_next : (links : List ℕ) (from : ℕ) → from < length links → serves (get_or links from none) ≡ false
      → first_serving serves (going_round ((from + 1) % length links) links) ≡ first_serving serves (going_round from links)
  round_next links from here e =
      cases (ltb (from + 1) (length links))
      (λ f.
      let next : (from + 1) % length links ≡ suc from = mod-eq_of_lt (ltb-true _ _ f) ∙ add-one from in
      ap (λ (place : ℕ). first_serving serves (going_round place links)) next ∙ round_past links from here e)
      (λ f.
      let behind : length links ≤ from + 1 = ltb-false _ _ f in
      let last : suc from ≡ length links = omega arith in
      let round : (from + 1) % length links ≡ 0 =
      ap (λ (n : ℕ). n % length links) (add-one from ∙ last) ∙ mod_self (length links)
      in
      ap (λ (place : ℕ). first_serving serves (going_round place links)) round
      ∙ ap (first_serving serves) (sym (turned_over links))
      ∙ ap (λ (place : ℕ). first_serving serves (going_round place links)) (sym last)
      ∙ round_past links from here e)

  -- going round from a place that is reached over links that don't serve yields the same link
  pub round_on : (links : List ℕ) (from : ℕ) → from < length links → (k : ℕ) → k < length links
      → ((before : ℕ) → before < k → serves (get_or (going_round from links) before none) ≡ false)
      → first_serving serves (going_round ((from + k) % length links) links) ≡ first_serving serves (going_round from links)
  round_on links from here zero h passed =
      let same : (from + 0) % length links ≡ from = ap (λ (n : ℕ). n % length links) (add-zero from) ∙ mod-eq_of_lt here in
      ap (λ (place : ℕ). first_serving serves (going_round place links)) same
  round_on links from here (suc k) h passed =
      let place : ℕ = (from + k) % length links in
      let one_more : from + suc k ≡ from + k + 1 = omega arith in
      let next : (from + suc k) % length links ≡ (place + 1) % length links =
      ap (λ (n : ℕ). n % length links) one_more ∙ sym (mod-add-mod (from + k) (length links) 1)
      in
      let there : serves (get_or links place none) ≡ false =
      ap serves (sym (round_at links from here k none (omega arith))) ∙ passed k (omega arith)
      in
      ap (λ (p : ℕ). first_serving serves (going_round p links)) next
      ∙ round_next links place (mod-lt (from + k) (omega arith)) there
      ∙ round_on links from here k (omega arith) (λ before b. passed before (omega arith))
