-- The changes of access stand in ascending code, each destination's once, in every sound plan.
-- Assumes nothing.
use mathlib.Core.Path.{◌≡◌, refl, ap, ◌∙◌}
use mathlib.Core.Bool.{Bool, true, false}
use mathlib.Core.List.{List, [], ◌++◌}
use Prim.Native.Nat.{ℕ, zero, suc, ◌+◌, ◌≤◌, ◌<◌}
use native.Mathlib.Omega.{arith}
use borrow.Author.Tests.{lt-ltb, eq-eqb, ne_eqb}
use Rattle.plan.specs.declared.data.Plan.{Plan}
use Rattle.plan.specs.Find.{given}
use Rattle.plan.specs.Sound as Plan
use Rattle.plan.proofs.Split.{split, alike}
use Rattle.route_access.specs.Change.{code_of}
use Rattle.promise_ledger.specs.Reported.{Report}
use Rattle.promise_leaving.specs.Going.{change, changes}
use Rattle.promise_reports.specs.ByCode.{accesses_in, about, Above, Ascend, ByCode}

-- the records of a change, and behind it
module _ (code : ℕ) (later : List Report) where
  above_change : (low : ℕ) → low < code → Above low later → (before after : Bool) → Above low (change before after code ++ later)
  unfolding Above
  above_change low h rest true true = rest
  above_change low h rest true false = (h, rest)
  above_change low h rest false true = (h, rest)
  above_change low h rest false false = rest

  ascend_change : Above code later → Ascend later → (before after : Bool) → Ascend (change before after code ++ later)
  unfolding Ascend
  ascend_change h rest true true = rest
  ascend_change h rest true false = (h, rest)
  ascend_change h rest false true = (h, rest)
  ascend_change h rest false false = rest

  -- those about its code are it, if nothing behind is about it
  about_same : about code later ≡ [] → (before after : Bool) → about code (change before after code ++ later) ≡ change before after code
  unfolding about
  about_same none true true = none
  about_same none true false = simp (eq-eqb code code refl, none)
  about_same none false true = simp (eq-eqb code code refl, none)
  about_same none false false = none

  -- those about another code stand behind
  about_other : (other : ℕ) → (code ≡ other → ⊥) → (before after : Bool) → about other (change before after code ++ later) ≡ about other later
  unfolding about
  about_other other differs true true = refl
  about_other other differs true false = simp (ne_eqb code other differs)
  about_other other differs false true = simp (ne_eqb code other differs)
  about_other other differs false false = refl

  -- a change is no drop
  access_change : (before after : Bool) → accesses_in (change before after code ++ later) ≡ change before after code ++ accesses_in later
  unfolding accesses_in
  access_change true true = refl
  access_change true false = refl
  access_change false true = refl
  access_change false false = refl

-- the codes of destinations ascend
pub codes_ascend : (plan : Plan) → Plan.Sound plan → (i j : ℕ) → i < j → j < given plan → code_of plan i < code_of plan j
unfolding code_of
codes_ascend plan sound i j h k = simp (lt-ltb i 64 (omega arith), lt-ltb j 64 (omega arith)) (sound.ascending i j h k)

module _ (plan : Plan) (before after : ℕ → Bool) where
  -- all that is told of changes is of accesses
  pub accesses_all : (more destination : ℕ)
      → accesses_in (changes plan before after destination more) ≡ changes plan before after destination more
  unfolding changes accesses_in
  accesses_all zero destination = refl
  accesses_all (suc more) destination =
      access_change (code_of plan destination) (changes plan before after (destination + 1) more) (before destination) (after destination)
      ∙ ap (λ (l : List Report). change (before destination) (after destination) (code_of plan destination) ++ l)
      (accesses_all more (destination + 1))

  -- of a code that no destination has nothing is told
  about_none : (code more destination : ℕ)
      → ((k : ℕ) → destination ≤ k → k < destination + more → code_of plan k ≡ code → ⊥)
      → about code (changes plan before after destination more) ≡ []
  unfolding changes about
  about_none code zero destination none = refl
  about_none code (suc more) destination none =
      about_other (code_of plan destination) (changes plan before after (destination + 1) more) code
      (none destination (omega arith) (omega arith))
      (before destination)
      (after destination)
      ∙ about_none code more (destination + 1) (λ k low high. none k (omega arith) (omega arith))

  module _ (sound : Plan.Sound plan) where
    -- higher ones have higher codes
    above_from : (low more destination : ℕ) → low < destination → destination + more ≤ given plan
        → Above (code_of plan low) (changes plan before after destination more)
    unfolding changes Above
    above_from low zero destination h few = tt
    above_from low (suc more) destination h few =
        above_change (code_of plan destination) (changes plan before after (destination + 1) more) (code_of plan low)
        (codes_ascend plan sound low destination h (omega arith))
        (above_from low more (destination + 1) (omega arith) (omega arith))
        (before destination)
        (after destination)

    ascend_from : (more destination : ℕ) → destination + more ≤ given plan → Ascend (changes plan before after destination more)
    unfolding changes Ascend
    ascend_from zero destination few = tt
    ascend_from (suc more) destination few =
        ascend_change (code_of plan destination) (changes plan before after (destination + 1) more)
        (above_from destination more (destination + 1) (omega arith) (omega arith))
        (ascend_from more (destination + 1) (omega arith))
        (before destination)
        (after destination)

    -- no two destinations have one code
    codes_apart : (i j : ℕ) → i < given plan → j < given plan → (i ≡ j → ⊥) → code_of plan i ≡ code_of plan j → ⊥
    codes_apart i j h k differs same =
        split i j
        (λ less. omega (arith, codes_ascend plan sound i j less k))
        (λ more.
        let above : j < i = omega (arith, differs) in
        omega (arith, codes_ascend plan sound j i above h))

    about_from : (target more destination : ℕ) → destination ≤ target → target < destination + more → destination + more ≤ given plan
        → about (code_of plan target) (changes plan before after destination more)
        ≡ change (before target) (after target) (code_of plan target)
    unfolding changes
    about_from target zero destination low high few = absurd (omega arith)
    about_from target (suc more) destination low high few =
        let later : List Report = changes plan before after (destination + 1) more in
        alike destination target
        (λ same.
        ap (λ (d : ℕ). about (code_of plan target) (change (before d) (after d) (code_of plan d) ++ later)) same
        ∙ about_same (code_of plan target) later
        (about_none (code_of plan target) more (destination + 1)
        (λ k above below. codes_apart k target (omega arith) (omega arith) (λ e. omega arith)))
        (before target)
        (after target))
        (λ differs.
        about_other (code_of plan destination) later (code_of plan target)
        (codes_apart destination target (omega arith) (omega arith) differs)
        (before destination)
        (after destination)
        ∙ about_from target more (destination + 1) (omega (arith, differs)) (omega arith) (omega arith))

    pub changes_by_code : ByCode plan before after (changes plan before after 0 (given plan))
    changes_by_code =
        record {
          ascend = ascend_from (given plan) 0 (omega arith);
          each = λ destination h. about_from destination (given plan) 0 (omega arith) (omega arith) (omega arith);
          no_other = λ code none. about_none code (given plan) 0 (λ k low high. none k (omega arith));
        }
