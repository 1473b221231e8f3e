-- Facts on tallies: of lists with a slot more, of slots that pass a test and of those that don't, and of runs. Assumes nothing.
use Rattle.std.proofs.Common.{◌≡◌, ℕ, zero, suc, ◌+◌, ◌<◌, ◌≤◌, Bool, true, false, not, eqb, ltb, List, [], ◌∷◌, ◌++◌, length, get_or, sym, refl, ap, ◌∙◌, ap₂, add-zero, arith, ltb-false, ltb-true, le-ltb, lt-ltb, eqb-true}
use borrow.Author.Tests.{eqb-false}
use Rattle.queue_rings.specs.Run.{run}
use Rattle.queue_store.specs.Sound.{bit, tally, sum, is}
use borrow.Table.Steps.{cases}
use Rattle.queue_store.proofs.Sums.{sum_none, sum_add}

-- the tally of a list with a slot more at its end
pub tally_end : (test : ℕ → Bool) (slots : List ℕ) (slot : ℕ)
    → tally test (slots ++ (slot ∷ [])) ≡ tally test slots + bit (test slot)
unfolding tally
tally_end test [] slot = omega arith
tally_end test (first ∷ slots) slot = omega (arith, tally_end test slots slot)

-- and with one more at its head
pub tally_head : (test : ℕ → Bool) (slot : ℕ) (slots : List ℕ) → tally test (slot ∷ slots) ≡ bit (test slot) + tally test slots
unfolding tally
tally_head test slot slots = refl

-- what passes a test and what doesn't are all
pub tally_both : (test : ℕ → Bool) (slots : List ℕ)
    → tally test slots + tally (λ slot. not (test slot)) slots ≡ length slots
unfolding tally
tally_both test [] = refl
tally_both test (slot ∷ slots) =
    let others = tally_both test slots in
    cases (test slot) (λ e. simp e (omega arith)) (λ e. simp e (omega arith))

pub tally_all : (slots : List ℕ) → tally (λ slot. true) slots ≡ length slots
unfolding tally
tally_all [] = refl
tally_all (slot ∷ slots) = omega (arith, tally_all slots)

-- a slot that passes a test is in the tally
pub tally_some : (test : ℕ → Bool) (slots : List ℕ) (i : ℕ) → i < length slots → test (get_or slots i 0) ≡ true
    → 1 ≤ tally test slots
unfolding tally
tally_some test [] i h e = absurd (omega arith)
tally_some test (slot ∷ slots) zero h e = simp e (omega arith)
tally_some test (slot ∷ slots) (suc i) h e = omega (arith, tally_some test slots i (omega arith) e)

-- two that pass are both
pub tally_twice : (test : ℕ → Bool) (slots : List ℕ) (i j : ℕ) → i < length slots → j < length slots → (i ≡ j → ⊥)
    → test (get_or slots i 0) ≡ true → test (get_or slots j 0) ≡ true → 2 ≤ tally test slots
unfolding tally
tally_twice test [] i j h k apart d e = absurd (omega arith)
tally_twice test (slot ∷ slots) zero zero h k apart d e = absurd (apart refl)
tally_twice test (slot ∷ slots) zero (suc j) h k apart d e = simp d (omega (arith, tally_some test slots j (omega arith) e))
tally_twice test (slot ∷ slots) (suc i) zero h k apart d e = simp e (omega (arith, tally_some test slots i (omega arith) d))
tally_twice test (slot ∷ slots) (suc i) (suc j) h k apart d e =
    omega (arith, tally_twice test slots i j (omega arith) (omega arith) (λ q. apart (ap suc q)) d e)

-- a tally that isn't 0 has a slot that passes
pub tally_place : (test : ℕ → Bool) (slots : List ℕ) → 1 ≤ tally test slots
    → (i : ℕ) × ((i < length slots) × (test (get_or slots i 0) ≡ true))
unfolding tally
tally_place test [] h = absurd (omega arith)
tally_place test (slot ∷ slots) h =
    cases (test slot)
    (λ e. (0, (omega arith, e)))
    (λ e.
    let later = tally_place test slots (omega (arith, simp e at h)) in
    (suc later.0, (omega (arith, later.1.0), later.1.1)))

-- of the slots below n, one number after the other, a slot is one if it is below n
sum_is : (slot n : ℕ) → sum (λ given. bit (is given slot)) n ≡ bit (ltb slot n)
unfolding sum
sum_is slot zero = simp (le-ltb slot 0 (omega arith))
sum_is slot (suc n) =
    let fewer = sum_is slot n in
    cases (eqb slot n)
    (λ e.
    let same : slot ≡ n = eqb-true slot n e in
    let not_yet : ltb slot n ≡ false = le-ltb slot n (omega arith) in
    let now : ltb slot (suc n) ≡ true = lt-ltb slot (suc n) (omega arith) in
    simp (e, now) (omega (arith, simp not_yet at fewer)))
    (λ e.
    let apart = eqb-false slot n e in
    cases (ltb slot n)
    (λ l.
    let now : ltb slot (suc n) ≡ true = lt-ltb slot (suc n) (omega (arith, ltb-true slot n l)) in
    simp (e, now) (omega (arith, simp l at fewer)))
    (λ l.
    let not-now : ltb slot (suc n) ≡ false = le-ltb slot (suc n) (omega (arith, apart, ltb-false slot n l)) in
    simp (e, not-now) (omega (arith, simp l at fewer))))

-- the slots below n are those that are one of the numbers below n
pub tally_below : (n : ℕ) (slots : List ℕ) → tally (λ slot. ltb slot n) slots ≡ sum (λ given. tally (is given) slots) n
unfolding tally
tally_below n [] = sym (sum_none (λ given. 0) n (λ i l. refl))
tally_below n (slot ∷ slots) =
    ap₂ ◌+◌ (sym (sum_is slot n)) (tally_below n slots)
    ∙ sym (sum_add (λ given. bit (is given slot)) (λ given. tally (is given) slots) n)

-- a place of a run, counted from the next
later : {b : Bool} (test : ℕ → Bool) (f : ℕ → ℕ) (k i : ℕ) → test (f (k + suc i)) ≡ b → test (f (suc k + i)) ≡ b
later test f k i e = ap (λ (place : ℕ). test (f place)) (omega arith) ∙ e

-- a run of which nothing passes
pub run_none : (test : ℕ → Bool) (f : ℕ → ℕ) (k n : ℕ) → ((i : ℕ) → i < n → test (f (k + i)) ≡ false)
    → tally test (run f k n) ≡ 0
unfolding tally run
run_none test f k zero h = refl
run_none test f k (suc n) h =
    let first : test (f k) ≡ false = simp add-zero at (h 0 (omega arith)) in
    simp first (omega (arith, run_none test f (suc k) n (λ i l. later test f k i (h (suc i) (omega arith)))))

-- a run of which just one place passes
pub run_once : (test : ℕ → Bool) (f : ℕ → ℕ) (k n place : ℕ) → place < n → test (f (k + place)) ≡ true
    → ((i : ℕ) → i < n → (i ≡ place → ⊥) → test (f (k + i)) ≡ false) → tally test (run f k n) ≡ 1
unfolding tally run
run_once test f k zero place h here elsewhere = absurd (omega arith)
run_once test f k (suc n) zero h here elsewhere =
    let first : test (f k) ≡ true = simp add-zero at here in
    let others = run_none test f (suc k) n (λ i l. later test f k i (elsewhere (suc i) (omega arith) (λ q. omega arith))) in
    simp first (omega arith)
run_once test f k (suc n) (suc place) h here elsewhere =
    let first : test (f k) ≡ false = simp add-zero at (elsewhere 0 (omega arith) (λ q. omega arith)) in
    let others =
    run_once test f (suc k) n place (omega arith) (later test f k place here)
    (λ i l apart. later test f k i (elsewhere (suc i) (omega arith) (λ q. apart (omega arith))))
    in
    simp first (omega arith)
