-- What is told of where a message is holds: one that is told in another queue stands there and no more where it stood, one that is told nowhere stands
-- in none of the 33 queues and isn't reported dropped. Assumes nothing.
use mathlib.Core.Path.{◌≡◌, refl, sym, ap, subst, ◌∙◌}
use mathlib.Core.Bool.{Bool, true, false, cond}
use mathlib.Core.List.{List}
use Prim.Native.Nat.{ℕ, zero, suc, ◌+◌, ◌≤◌, ◌<◌}
use native.Mathlib.Omega.{arith}
use lib.Dec.{eqb, ltb}
use borrow.Author.Tests.{eq-eqb, ltb-true, ltb-false}
use borrow.Table.Steps.{cases}
use Rattle.fate_places.specs.Places.{Held, seek, places, message_at, stands, nowhere, queue_with, dropped, stays, told_dropped, whither}
use Rattle.fate_places.proofs.Seek.{finds}

-- what a search for a place yields, if it isn't what is told where there is none, passes
seeks : (test : ℕ → Bool) (from more none : ℕ) → (seek test (λ (k : ℕ). k) none from more ≡ none → ⊥)
    → test (seek test (λ (k : ℕ). k) none from more) ≡ true
unfolding seek
seeks test from zero none found = absurd (found refl)
seeks test from (suc more) none found =
    cases (test from)
    (λ e. ap test (simp e) ∙ e)
    (λ e.
    let on : seek test (λ (k : ℕ). k) none from (suc more) ≡ seek test (λ (k : ℕ). k) none (from + 1) more = simp e in
    ap test on ∙ seeks test (from + 1) more none (λ last. found (on ∙ last)))

-- and if it is that, no place passes
passes_none : (test : ℕ → Bool) (from more none : ℕ) → from + more ≤ none → none ≤ seek test (λ (k : ℕ). k) none from more
    → (k : ℕ) → from ≤ k → k < from + more → test k ≡ false
unfolding seek
passes_none test from zero none short e k h below = absurd (omega arith)
passes_none test from (suc more) none short e k h below =
    cases (test from)
    (λ f.
    let first : none ≤ from = simp f at e in
    absurd (omega arith))
    (λ f.
    let rest : none ≤ seek test (λ (k : ℕ). k) none (from + 1) more = simp f at e in
    cases (ltb from k)
    (λ later. passes_none test (from + 1) more none (omega arith) rest k (omega (arith, ltb-true from k later)) (omega arith))
    (λ here.
    let same : k ≡ from = omega (arith, ltb-false from k here) in
    ap test same ∙ f))

-- the four answers apart, by the three tests
abbrev answer : Bool → ℕ → Bool → ℕ
answer here other drops = cond here stays (cond (ltb other nowhere) other (cond drops told_dropped nowhere))

not_few : (drops : Bool) → cond drops told_dropped nowhere < nowhere → ⊥
not_few true h = omega arith
not_few false h = omega arith

by_elsewhere : (here : Bool) (other : ℕ) (drops : Bool) → answer here other drops < nowhere → (here ≡ false) × (answer here other drops ≡ other)
by_elsewhere true other drops h = absurd (omega arith)
by_elsewhere false other drops h =
    cases (ltb other nowhere)
    (λ e. (refl, simp e))
    (λ e.
    let more : cond drops told_dropped nowhere < nowhere = simp e at h in
    absurd (not_few drops more))

not_dropped : (drops : Bool) → cond drops told_dropped nowhere ≡ nowhere → drops ≡ false
not_dropped true h = absurd (omega arith)
not_dropped false h = refl

by_nowhere : (here : Bool) (other : ℕ) (drops : Bool) → answer here other drops ≡ nowhere → (here ≡ false) × (nowhere ≤ other) × (drops ≡ false)
by_nowhere true other drops h = absurd (omega arith)
by_nowhere false other drops h =
    cases (ltb other nowhere)
    (λ e.
    let same : other ≡ nowhere = simp e at h in
    absurd (omega (arith, ltb-true other nowhere e)))
    (λ e.
    let more : cond drops told_dropped nowhere ≡ nowhere = simp e at h in
    (refl, ltb-false other nowhere e, not_dropped drops more))

module _ (h : Held) (reports : List ℕ) (count queue arrival : ℕ) where
  -- in another queue: it stands there, and no more where it stood
  pub record Elsewhere (to : ℕ) : Type 0 where
    pub there : stands h to arrival ≡ true
    pub left : stands h queue arrival ≡ false

  pub moved : whither h reports count queue arrival < nowhere → Elsewhere (whither h reports count queue arrival)
  unfolding whither queue_with
  moved below =
      let is = by_elsewhere (stands h queue arrival) (queue_with h arrival) (dropped reports count arrival) below in
      let other : queue_with h arrival < nowhere = subst (λ (n : ℕ). n < nowhere) is.1 below in
      subst Elsewhere (sym is.1)
      (record {
        there = seeks (λ (q : ℕ). stands h q arrival) 0 33 nowhere (λ none. omega (arith, other, none));
        left = is.0;
      })

  -- nowhere: it stands in none of the queues, and isn't reported dropped
  pub record Nowhere : Type 0 where
    pub in_none : (other : ℕ) → other < 33 → stands h other arrival ≡ false
    pub not_told : dropped reports count arrival ≡ false

  pub gone : whither h reports count queue arrival ≡ nowhere → Nowhere
  unfolding whither queue_with
  gone e =
      let is = by_nowhere (stands h queue arrival) (queue_with h arrival) (dropped reports count arrival) e in
      record {
        in_none = λ other below. passes_none (λ (q : ℕ). stands h q arrival) 0 33 nowhere (omega arith) is.1 other (omega arith) below;
        not_told = is.2;
      }

-- a message at a place of a queue stands in it
pub at_stands : (h : Held) (queue place : ℕ) → place < places h queue → stands h queue (message_at h queue place).arrival ≡ true
unfolding stands
at_stands h queue place below =
    finds (λ (k : ℕ). eqb (message_at h queue k).arrival (message_at h queue place).arrival) 0 (places h queue) place (omega arith) (omega arith)
    (eq-eqb (message_at h queue place).arrival (message_at h queue place).arrival refl)
