-- The messages that leave a queue are shared out: each goes to one of the 32 links, or to none of them. Assumes nothing.
use mathlib.Core.Path.{◌≡◌, refl, sym, ap}
use mathlib.Core.Bool.{Bool}
use mathlib.Core.List.{List, [], ◌∷◌, map}
use Prim.Native.Nat.{ℕ, ◌+◌, ◌<◌}
use native.Mathlib.Omega.{arith}
use borrow.Author.Tests.{lt-ltb, le-ltb, eq-eqb, ne_eqb}
use Rattle.plan.proofs.Split.{split}
use Rattle.queue_store.specs.Sound.{sum, tally}
use Rattle.queue_store.proofs.Sums.{sum_same, sum_change, sum_none}
use Rattle.promise_leaving.specs.Going.{going, stranded}

module _ (goes : ℕ → ℕ) where
  -- one that goes to a link is the first of those that go there
  going_here : (link slot : ℕ) (slots : List ℕ) → goes slot ≡ link → going goes link (slot ∷ slots) ≡ slot ∷ going goes link slots
  unfolding going
  going_here link slot slots same = simp (eq-eqb (goes slot) link same)

  going_past : (link slot : ℕ) (slots : List ℕ) → (goes slot ≡ link → ⊥) → going goes link (slot ∷ slots) ≡ going goes link slots
  unfolding going
  going_past link slot slots other = simp (ne_eqb (goes slot) link other)

  stranded_past : (slot : ℕ) (slots : List ℕ) → goes slot < 32 → stranded goes (slot ∷ slots) ≡ stranded goes slots
  unfolding stranded
  stranded_past slot slots h = simp (lt-ltb (goes slot) 32 h)

  -- nothing goes to a link to which no slot goes
  pub going_nowhere : (link : ℕ) → ((slot : ℕ) → goes slot ≡ link → ⊥) → (slots : List ℕ) → going goes link slots ≡ []
  unfolding going
  going_nowhere link never [] = refl
  going_nowhere link never (slot ∷ slots) = simp (ne_eqb (goes slot) link (never slot), going_nowhere link never slots)

  module _ (test : ℕ → Bool) (f : ℕ → ℕ) where
    -- how many of those that go to a link pass a test
    abbrev there : List ℕ → ℕ → ℕ
    there slots link = tally test (map f (going goes link slots))

    pub shared_out : (slots : List ℕ) → tally test (map f slots) ≡ sum (there slots) 32 + tally test (map f (stranded goes slots))
    unfolding tally stranded going
    shared_out [] = omega (arith, sum_none (there []) 32 (λ link h. refl))
    shared_out (slot ∷ slots) =
        let later = shared_out slots in
        split (goes slot) 32
        (λ h.
        let one = sum_change (there slots) (there (slot ∷ slots)) 32 (goes slot) h
        (λ link apart. ap (λ (l : List ℕ). tally test (map f l)) (going_past link slot slots (λ same. apart (sym same))))
        in
        let here = ap (λ (l : List ℕ). tally test (map f l)) (going_here (goes slot) slot slots refl) in
        let none = ap (λ (l : List ℕ). tally test (map f l)) (stranded_past slot slots h) in
        omega (arith, one, here, none, later))
        (λ past.
        let same = sum_same (there (slot ∷ slots)) (there slots) 32
        (λ link h. ap (λ (l : List ℕ). tally test (map f l)) (going_past link slot slots (λ e. omega arith)))
        in
        simp (le-ltb (goes slot) 32 past) (omega (arith, same, later)))
