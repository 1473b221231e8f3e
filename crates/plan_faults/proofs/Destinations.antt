-- In a sound plan the search for a destination by halving says what a look at every given destination does. Assumes nothing.
use mathlib.Core.Path.{◌≡◌, refl, sym, ap, ◌∙◌}
use mathlib.Core.Bool.{Bool, true, false, ◌||◌, or-true, false≢true}
use mathlib.Core.List.{List, [], ◌∷◌}
use Prim.Native.Nat.{ℕ, zero, suc, ◌<◌}
use native.Mathlib.Omega.{arith}
use lib.ListN.{length, get_or}
use lib.Seq.{get_or-take, length-take-le}
use borrow.Table.Steps.{cases}
use Rattle.plan.specs.declared.data.Plan.{Plan}
use Rattle.plan.specs.declared.data.Destination.{Destination}
use Rattle.plan.specs.Data.{absent_destination, destination_at}
use Rattle.plan.specs.Find.{given, place_of, is_found}
use Rattle.plan.specs.Sound.{Sound}
use Rattle.plan.proofs.Found.{found_stands, stands_found}
use Rattle.plan_repeats.specs.Search.{one}
use Rattle.plan_faults.specs.Given.{destinations_of}

-- where one passes, and where none does
pub one_passes : {A : Type 0} (test : A → Bool) (none : A) (values : List A) (i : ℕ) → i < length values → test (get_or values i none) ≡ true → one test values ≡ true
unfolding one
one_passes test none [] i h e = absurd (omega arith)
one_passes test none (value ∷ rest) zero h e = ap (λ (t : Bool). t || one test rest) e
one_passes test none (value ∷ rest) (suc i) h e = ap (λ (t : Bool). test value || t) (one_passes test none rest i (omega arith) e) ∙ or-true (test value)

pub each_fails : {A : Type 0} (test : A → Bool) (none : A) (values : List A) → ((i : ℕ) → i < length values → test (get_or values i none) ≡ false) → one test values ≡ false
unfolding one
each_fails test none [] e = refl
each_fails test none (value ∷ rest) e =
    ap (λ (t : Bool). t || one test rest) (e 0 (omega arith)) ∙ each_fails test none rest (λ i h. e (suc i) (omega arith))

module _ (plan : Plan) (sound : Sound plan) (code : ℕ) (test : Destination → Bool) (of_code : (d : Destination) → test d ≡ true → d.code ≡ code) where
  size : length (destinations_of plan) ≡ given plan
  size = length-take-le (given plan) plan.destinations (omega (arith, sound.all_destinations))

  at : (i : ℕ) → i < given plan → get_or (destinations_of plan) i absent_destination ≡ destination_at plan i
  at i h = get_or-take (given plan) plan.destinations i absent_destination h

  -- one that passes has the code, and so is found there
  passes_found : (i : ℕ) → i < given plan → test (destination_at plan i) ≡ true → (is_found plan code ≡ true) × (place_of plan code ≡ i)
  passes_found i h e = stands_found plan sound code i (record { within = h; has_code = of_code (destination_at plan i) e })

  pub found_one : is_found plan code ≡ true → one test (destinations_of plan) ≡ test (destination_at plan (place_of plan code))
  found_one found =
      let place = place_of plan code in
      let within : place < given plan = (found_stands plan sound code found).within in
      cases (test (destination_at plan place))
      (λ yes. one_passes test absent_destination (destinations_of plan) place (omega (arith, size)) (ap test (at place within) ∙ yes) ∙ sym yes)
      (λ no.
      each_fails test absent_destination (destinations_of plan)
      (λ i h.
      let inside : i < given plan = omega (arith, size) in
      cases (test (destination_at plan i))
      (λ e. absurd (false≢true (sym no ∙ ap (λ (n : ℕ). test (destination_at plan n)) (passes_found i inside e).1 ∙ e)))
      (λ e. ap test (at i inside) ∙ e))
      ∙ sym no)

  pub missing_one : is_found plan code ≡ false → one test (destinations_of plan) ≡ false
  missing_one missing =
      each_fails test absent_destination (destinations_of plan)
      (λ i h.
      let inside : i < given plan = omega (arith, size) in
      cases (test (destination_at plan i))
      (λ e. absurd (false≢true (sym missing ∙ (passes_found i inside e).0)))
      (λ e. ap test (at i inside) ∙ e))
