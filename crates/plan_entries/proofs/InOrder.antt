-- A value put in at its place among values in ascending order keeps the order. Assumes nothing.
use mathlib.Core.Path.{◌≡◌, sym, ap, subst, ◌∙◌}
use mathlib.Core.List.{List}
use Prim.Native.Nat.{ℕ, zero, suc, ◌+◌, ◌-◌, ◌≤◌, ◌<◌}
use native.Mathlib.Omega.{arith}
use lib.ListN.{length, get_or}
use Rattle.plan.proofs.Order.{Ascending, Parts}
use Rattle.plan.proofs.Split.{split}
use Rattle.plan_entries.specs.Insert.{inserted}
use Rattle.plan_entries.proofs.Inserted.{inserted_before, inserted_at, inserted_behind}

-- a value put in among the first n of some values
module _ {A : Type 0} (none : A) (values : List A) (n place : ℕ) (value : A) (room : n < length values) (within : place ≤ n) where
  moved : (i : ℕ) → place < i → i ≤ n → get_or (inserted place value values) i none ≡ get_or values (i - 1) none
  moved zero h k = absurd (omega arith)
  moved (suc i) h k =
      inserted_behind place value values none i (omega arith) (omega arith)
      ∙ ap (λ (m : ℕ). get_or values m none) (omega arith)

  -- at a place stands what stood there, the new value, or what stood one place before
  by_place : {P : Type 0} (i : ℕ) → i ≤ n
      → (i < place → get_or (inserted place value values) i none ≡ get_or values i none → P)
      → (i ≡ place → get_or (inserted place value values) i none ≡ value → P)
      → (place < i → get_or (inserted place value values) i none ≡ get_or values (i - 1) none → P)
      → P
  by_place i h ahead here behind =
      split i place
      (λ less. ahead less (inserted_before place value values none i less (omega arith)))
      (λ least.
      split place i
      (λ more. behind more (moved i more h))
      (λ most.
      let same : i ≡ place = omega arith in
      here same (ap (λ (m : ℕ). get_or (inserted place value values) m none) same ∙ inserted_at place value values none (omega arith))))

  -- what holds of the new value and of the others holds at each place
  pub inserted_each : (P : A → Type 0) → P value → ((i : ℕ) → i < n → P (get_or values i none))
      → (i : ℕ) → i ≤ n → P (get_or (inserted place value values) i none)
  inserted_each P new old i h =
      by_place i h
      (λ less e. subst P (sym e) (old i (omega arith)))
      (λ same e. subst P (sym e) new)
      (λ more e. subst P (sym e) (old (i - 1) (omega arith)))

  -- put in where the others are parted by it, it keeps the order
  pub inserted_ascending : (key : A → ℕ) → Ascending (λ i. key (get_or values i none)) n
      → Parts (λ i. key (get_or values i none)) n (key value) place
      → ((i : ℕ) → i < n → key (get_or values i none) ≡ key value → ⊥)
      → Ascending (λ i. key (get_or (inserted place value values) i none)) (n + 1)
  inserted_ascending key order parts fresh i j h k =
      let above : (m : ℕ) → place ≤ m → m < n → key value < key (get_or values m none) =
      λ m l o.
      split (key value) (key (get_or values m none)) (λ less. less) (λ more. absurd (fresh m o (omega (arith, parts.behind m l o))))
      in
      by_place j (omega arith)
      (λ less e.
      by_place i (omega arith)
      (λ l f. omega (arith, ap key e, ap key f, order i j h (omega arith)))
      (λ l f. absurd (omega arith))
      (λ l f. absurd (omega arith)))
      (λ same e.
      by_place i (omega arith)
      (λ l f. omega (arith, ap key e, ap key f, parts.before i l))
      (λ l f. absurd (omega arith))
      (λ l f. absurd (omega arith)))
      (λ more e.
      by_place i (omega arith)
      (λ l f. omega (arith, ap key e, ap key f, order i (j - 1) (omega arith) (omega arith)))
      (λ l f. omega (arith, ap key e, ap key f, above (j - 1) (omega arith) (omega arith)))
      (λ l f. omega (arith, ap key e, ap key f, order (i - 1) (j - 1) (omega arith) (omega arith))))
