-- The messages that go to a link, and those with no route, slot by slot.
-- Assumes nothing.
use mathlib.Core.Path.{◌≡◌, refl, ap, ◌∙◌}
use mathlib.Core.List.{List, [], ◌∷◌, ◌++◌}
use Prim.Native.Nat.{ℕ, ◌≤◌, ◌<◌}
use native.Mathlib.Omega.{arith}
use lib.Dec.{ltb, eqb}
use lib.ListN.{length}
use borrow.Author.Tests.{eq-eqb, ne_eqb, lt-ltb, le-ltb}
use borrow.Table.Elements.{map_app}
use borrow.Table.Steps.{cases}
use Rattle.promise_ledger.specs.Held.{arrival_of}
use Rattle.promise_ledger.specs.Reported.{Report, report}
use Rattle.promise_leaving.specs.Going.{going, stranded, drops_for}

module _ (goes : ℕ → ℕ) where
  -- of no slots none go
  pub going_none : (link : ℕ) → going goes link [] ≡ []
  unfolding going
  going_none link = refl

  pub stranded_none : stranded goes [] ≡ []
  unfolding stranded
  stranded_none = refl

  -- of more slots, the first first
  pub going_more : (link slot : ℕ) (slots : List ℕ) → going goes link (slot ∷ slots) ≡ going goes link (slot ∷ []) ++ going goes link slots
  unfolding going
  going_more link slot slots = cases (eqb (goes slot) link) (λ e. simp e) (λ e. simp e)

  stranded_more : (slot : ℕ) (slots : List ℕ) → stranded goes (slot ∷ slots) ≡ stranded goes (slot ∷ []) ++ stranded goes slots
  unfolding stranded
  stranded_more slot slots = cases (ltb (goes slot) 32) (λ e. simp e) (λ e. simp e)

  -- of one slot, it or none
  pub going_there : (link slot : ℕ) → goes slot ≡ link → going goes link (slot ∷ []) ≡ slot ∷ []
  unfolding going
  going_there link slot same = simp (eq-eqb (goes slot) link same)

  pub going_elsewhere : (link slot : ℕ) → (goes slot ≡ link → ⊥) → going goes link (slot ∷ []) ≡ []
  unfolding going
  going_elsewhere link slot other = simp (ne_eqb (goes slot) link other)

  pub stranded_there : (slot : ℕ) → goes slot < 32 → stranded goes (slot ∷ []) ≡ []
  unfolding stranded
  stranded_there slot h = simp (lt-ltb (goes slot) 32 h)

  pub stranded_here : (slot : ℕ) → 32 ≤ goes slot → stranded goes (slot ∷ []) ≡ slot ∷ []
  unfolding stranded
  stranded_here slot h = simp (le-ltb (goes slot) 32 h)

  -- what is told of those with no route
  module _ (rows : List ℕ) where
    abbrev pub strays : List ℕ → List Report
    strays slots = drops_for 1 rows (stranded goes slots)

    pub strays_more : (slot : ℕ) (slots : List ℕ) → strays (slot ∷ slots) ≡ strays (slot ∷ []) ++ strays slots
    strays_more slot slots =
        ap (drops_for 1 rows) (stranded_more slot slots)
        ∙ map_app (λ (s : ℕ). report 1 (arrival_of rows s)) (stranded goes (slot ∷ [])) (stranded goes slots)

    pub strays_one : (slot : ℕ) → length (strays (slot ∷ [])) ≤ 1
    unfolding stranded
    strays_one slot = cases (ltb (goes slot) 32) (λ e. simp e (omega arith)) (λ e. simp e (omega arith))

    -- no more than there are
    pub strays_few : (slots : List ℕ) → length (strays slots) ≤ length slots
    unfolding stranded
    strays_few [] = omega arith
    strays_few (slot ∷ slots) =
        cases (ltb (goes slot) 32)
        (λ e. simp e (omega (arith, strays_few slots)))
        (λ e. simp e (omega (arith, strays_few slots)))
