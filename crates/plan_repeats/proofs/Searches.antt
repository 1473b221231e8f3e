-- A list searched value by value: what is left from a place on, and past the end. Assumes nothing.
use mathlib.Core.Path.{◌≡◌, refl, sym, ap, ◌∙◌}
use mathlib.Core.Bool.{Bool, true, false, cond, ◌||◌, or_assoc, or-false}
use mathlib.Core.List.{List, [], ◌∷◌}
use Prim.Native.Nat.{ℕ, zero, suc, ◌+◌, ◌≤◌, ◌<◌, zero-le}
use native.Mathlib.Nat.{zero-add, add-zero}
use native.Mathlib.Numerals.{add-one}
use native.Mathlib.Omega.{arith}
use lib.ListN.{length, get_or, drop, drop_of_length-le}
use lib.Seq.{drop-cons}
use borrow.Table.Steps.{cases}
use Rattle.std.specs.Prelude.{Result, Ok, Err}
use Rattle.std.specs.List.{list_any}
use Rattle.plan_repeats.specs.Search.{one, many}
use Rattle.plan.proofs.Split.{both_false}

-- where none passes, each fails
pub none_passes : {A : Type 0} (test : A → Bool) (none : A) (values : List A) → one test values ≡ false → (i : ℕ) → i < length values → test (get_or values i none) ≡ false
unfolding one
none_passes test none [] e i h = absurd (omega arith)
none_passes test none (value ∷ rest) e zero h = (both_false (test value) (one test rest) e).0
none_passes test none (value ∷ rest) e (suc i) h = none_passes test none rest (both_false (test value) (one test rest) e).1 i (omega arith)

-- what is found by going over the values
pub any_one : {A : Type 0} (test : A → Bool) (values : List A) → list_any test values ≡ one test values
unfolding one
any_one test [] = refl
any_one test (value ∷ rest) = ap (λ (t : Bool). test value || t) (any_one test rest)

module _ {A : Type 0} (test : A → Bool) (values : List A) (i : ℕ) where
  pub one_on : (none : A) → i < length values → one test (drop i values) ≡ (test (get_or values i none) || one test (drop (i + 1) values))
  unfolding one
  one_on none h = simp (add-one, drop-cons values i none h)

  pub one_end : length values ≤ i → one test (drop i values) ≡ false
  unfolding one
  one_end h = simp (drop_of_length-le values h)

  pub many_on : (none : A) → i < length values
      → many test (drop i values) ≡ cond (test (get_or values i none)) (suc (many test (drop (i + 1) values))) (many test (drop (i + 1) values))
  unfolding many
  many_on none h = simp (add-one, drop-cons values i none h)

  pub many_end : length values ≤ i → many test (drop i values) ≡ 0
  unfolding many
  many_end h = simp (drop_of_length-le values h)

-- how many of some values are less than a new one; Err where one of them is the same
abbrev pub placed : {A : Type 0} → (A → Bool) → (A → Bool) → List A → Result ℕ ℕ
placed same less values = cond (one same values) (Err (many less values)) (Ok (many less values))

-- among no values it is the first
pub none_among : {A : Type 0} (same less : A → Bool) (values : List A) → values ≡ [] → Ok 0 ≡ placed same less values
unfolding one many
none_among same less values e = simp e

-- a loop over some values has passed those below place i: whether one of them is the same, and how many are less
pub record Looking {A : Type 0} (same less : A → Bool) (values : List A) (i lower : ℕ) (taken : Bool) : Type 0 where
  pub few : lower ≤ i
  pub taken_left : (taken || one same (drop i values)) ≡ one same values
  pub lower_left : lower + many less (drop i values) ≡ many less values

module _ {A : Type 0} (same less : A → Bool) (values : List A) where
  pub look_first : Looking same less values 0 0 false
  look_first = record { few = zero-le; taken_left = refl; lower_left = zero-add (many less values) }

  module _ (i lower : ℕ) (taken : Bool) (so_far : Looking same less values i lower taken) where
    pub look_on : (next : ℕ) (then : Bool) (none : A) → i < length values
        → next ≡ cond (less (get_or values i none)) (lower + 1) lower
        → then ≡ (taken || same (get_or values i none))
        → Looking same less values (i + 1) next then
    look_on next then none h e t =
        let taken-on : (taken || same (get_or values i none) || one same (drop (i + 1) values)) ≡ one same values =
        simp or_assoc (simp (one_on same values i none h) at so_far.taken_left)
        in
        let more = many_on less values i none h in
        cases (less (get_or values i none))
        (λ is-less.
        let step = simp is-less at more in
        simp (e, t, is-less) (record { few = omega arith; taken_left = taken-on; lower_left = omega arith }))
        (λ not-less.
        let step = simp not-less at more in
        simp (e, t, not-less) (record { few = omega arith; taken_left = taken-on; lower_left = omega arith }))

    module _ (h : length values ≤ i) where
      lower_last : lower ≡ many less values
      lower_last = simp (many_end less values i h, add-zero) at so_far.lower_left

      taken_last : taken ≡ one same values
      taken_last = simp (one_end same values i h, or-false) at so_far.taken_left

      pub look_taken : taken ≡ true → Err lower ≡ placed same less values
      look_taken e = ap (λ (n : ℕ). Err n) lower_last ∙ ap (λ (t : Bool). cond t (Err (many less values)) (Ok (many less values))) (sym e ∙ taken_last)

      pub look_free : taken ≡ false → Ok lower ≡ placed same less values
      look_free e = ap (λ (n : ℕ). Ok n) lower_last ∙ ap (λ (t : Bool). cond t (Err (many less values)) (Ok (many less values))) (sym e ∙ taken_last)
