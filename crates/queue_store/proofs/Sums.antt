-- Facts on sums: what a change of one part does, which parts there are, and in which order they are added. Assumes nothing.
use Rattle.std.proofs.Common.{◌≡◌, ℕ, zero, suc, ◌+◌, ◌<◌, ◌≤◌, eqb, ltb, sym, refl, ap, ◌∙◌, ap₂, arith, ltb-false, ltb-true, eqb-true}
use borrow.Author.Tests.{eqb-false}
use Rattle.queue_store.specs.Sound.{sum}
use borrow.Table.Steps.{cases}

-- sums of the same are the same
pub sum_same : (f g : ℕ → ℕ) (n : ℕ) → ((i : ℕ) → i < n → f i ≡ g i) → sum f n ≡ sum g n
unfolding sum
sum_same f g zero h = refl
sum_same f g (suc n) h = ap₂ ◌+◌ (sum_same f g n (λ i l. h i (omega arith))) (h n (omega arith))

-- where one part changes, the sum changes as much
pub sum_change : (f g : ℕ → ℕ) (n r : ℕ) → r < n → ((i : ℕ) → (i ≡ r → ⊥) → g i ≡ f i)
    → sum g n + f r ≡ sum f n + g r
unfolding sum
sum_change f g zero r h same = absurd (omega arith)
sum_change f g (suc n) r h same =
    cases (eqb r n)
    (λ e.
    let last : r ≡ n = eqb-true r n e in
    let others : sum g n ≡ sum f n = sum_same g f n (λ i l. same i (λ q. omega arith)) in
    simp last (omega arith))
    (λ e.
    let before : r < n = omega (arith, eqb-false r n e) in
    let here : g n ≡ f n = same n (λ q. eqb-false r n e (sym q)) in
    omega (arith, sum_change f g n r before same))

-- a part is at most the sum
pub sum_part : (f : ℕ → ℕ) (n r : ℕ) → r < n → f r ≤ sum f n
unfolding sum
sum_part f zero r h = absurd (omega arith)
sum_part f (suc n) r h =
    cases (eqb r n)
    (λ e. simp (eqb-true r n e) (omega arith))
    (λ e.
    let before : r < n = omega (arith, eqb-false r n e) in
    omega (arith, sum_part f n r before))

-- a sum of equal parts 0, and of parts 1
pub sum_none : (f : ℕ → ℕ) (n : ℕ) → ((i : ℕ) → i < n → f i ≡ 0) → sum f n ≡ 0
unfolding sum
sum_none f zero h = refl
sum_none f (suc n) h = omega (arith, sum_none f n (λ i l. h i (omega arith)), h n (omega arith))

pub sum_ones : (f : ℕ → ℕ) (n : ℕ) → ((i : ℕ) → i < n → f i ≡ 1) → sum f n ≡ n
unfolding sum
sum_ones f zero h = refl
sum_ones f (suc n) h = omega (arith, sum_ones f n (λ i l. h i (omega arith)), h n (omega arith))

-- the last two parts of a sum
pub sum_two : (f : ℕ → ℕ) (n : ℕ) → sum f (suc (suc n)) ≡ sum f n + f n + f (suc n)
unfolding sum
sum_two f n = refl

pub sum_add : (f g : ℕ → ℕ) (n : ℕ) → sum (λ i. f i + g i) n ≡ sum f n + sum g n
unfolding sum
sum_add f g zero = refl
sum_add f g (suc n) = omega (arith, sum_add f g n)

-- rows summed before columns
pub sum_swap : (f : ℕ → ℕ → ℕ) (m n : ℕ) → sum (λ i. sum (f i) m) n ≡ sum (λ j. sum (λ i. f i j) n) m
unfolding sum
sum_swap f m zero = sym (sum_none (λ j. 0) m (λ j l. refl))
sum_swap f m (suc n) = ap (λ (k : ℕ). k + sum (f n) m) (sum_swap f m n) ∙ sym (sum_add (λ j. sum (λ i. f i j) n) (f n) m)

-- two parts are at most the sum
pub sum_parts : (f : ℕ → ℕ) (n r s : ℕ) → r < n → s < n → (r ≡ s → ⊥) → f r + f s ≤ sum f n
unfolding sum
sum_parts f zero r s h k apart = absurd (omega arith)
sum_parts f (suc n) r s h k apart =
    cases (eqb r n)
    (λ e.
    let last : r ≡ n = eqb-true r n e in
    let before : s < n = omega (arith, apart) in
    simp last (omega (arith, sum_part f n s before)))
    (λ e.
    let before : r < n = omega (arith, eqb-false r n e) in
    cases (eqb s n)
    (λ d. simp (eqb-true s n d) (omega (arith, sum_part f n r before)))
    (λ d.
    let both : s < n = omega (arith, eqb-false s n d) in
    omega (arith, sum_parts f n r s before both apart)))

-- a sum that isn't 0 has a part that isn't
pub sum_some : (f : ℕ → ℕ) (n : ℕ) → 1 ≤ sum f n → (r : ℕ) × ((r < n) × (1 ≤ f r))
unfolding sum
sum_some f zero h = absurd (omega arith)
sum_some f (suc n) h =
    cases (ltb 0 (f n))
    (λ e. (n, (omega arith, ltb-true 0 (f n) e)))
    (λ e.
    let before = sum_some f n (omega (arith, ltb-false 0 (f n) e)) in
    (before.0, (omega (arith, before.1.0), before.1.1)))
