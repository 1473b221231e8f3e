-- A number is counted where it stands, and one that is counted behind another is counted in all. Assumes nothing.
use mathlib.Core.Path.{◌≡◌, refl, ap}
use mathlib.Core.Bool.{true}
use mathlib.Core.List.{List, [], ◌∷◌, map}
use Prim.Native.Nat.{ℕ, ◌≤◌}
use native.Mathlib.Omega.{arith}
use lib.Dec.{eqb}
use borrow.Author.Tests.{eq-eqb, ne_eqb}
use Rattle.plan.proofs.Split.{alike}
use Rattle.queue_store.specs.Sound.{bit, tally, is}

pub counts_first : (number : ℕ) (later : List ℕ) → 1 ≤ tally (is number) (number ∷ later)
unfolding tally
counts_first number later = simp (eq-eqb number number refl) (omega arith)

pub counts_later : (n number : ℕ) (later : List ℕ) → 1 ≤ tally (is n) later → 1 ≤ tally (is n) (number ∷ later)
unfolding tally
counts_later n number later h = omega arith

-- a slot of a queue is counted by its number
pub counts_slot : (f : ℕ → ℕ) (slot : ℕ) (l : List ℕ) → 1 ≤ tally (is slot) l → 1 ≤ tally (is (f slot)) (map f l)
unfolding tally
counts_slot f slot [] h = h
counts_slot f slot (first ∷ l) h =
    alike first slot
    (λ same.
    let here : eqb (f first) (f slot) ≡ true = eq-eqb (f first) (f slot) (ap f same) in
    simp here (omega arith))
    (λ other.
    let past : bit (eqb first slot) ≡ 0 = ap bit (ne_eqb first slot other) in
    let later : 1 ≤ tally (is slot) l = omega (arith, h, past) in
    omega (arith, counts_slot f slot l later))
