-- In a sound plan the search by halving finds a code exactly if a given destination has it. Assumes nothing.
use mathlib.Core.Path.{◌≡◌, refl, ap, ◌∙◌}
use mathlib.Core.Bool.{Bool, true, false, cond, and-eq-true_iff}
use mathlib.Core.List.{List}
use Prim.Native.Nat.{ℕ, zero, suc, ◌+◌, ◌-◌, ◌*◌, ◌/◌, ◌^◌, ◌≤◌, ◌<◌}
use native.Mathlib.Nat.{pow-suc}
use native.Mathlib.Omega.{arith}
use lib.Dec.{ltb, eqb}
use borrow.Author.Tests.{lt-ltb, eq-eqb, ltb-true, eqb-true}
use Rattle.std.specs.Prelude.{Result, Ok, Err}
use Rattle.plan.specs.declared.data.Plan.{Plan}
use Rattle.plan.specs.declared.data.Destination.{Destination}
use Rattle.plan.specs.Find.{code_at, halved, given, place_of, is_found, found_of}
use Rattle.plan.specs.Sound.{Sound, Stands}
use Rattle.plan.proofs.Halving.{halved_met, halved_up, halved_down}
use Rattle.plan.proofs.Order.{Ascending, Parts}
use Rattle.plan.proofs.Split.{split}

-- enough halvings part the codes, which ascend, by the one looked for
module _ (destinations : List Destination) (code n : ℕ) (order : Ascending (code_at destinations) n) where
  pub halved_parts : (turns low high : ℕ) → low ≤ high → high ≤ n → high - low < 2 ^ turns
      → ((i : ℕ) → i < low → code_at destinations i < code) → ((i : ℕ) → high ≤ i → i < n → code ≤ code_at destinations i)
      → Parts (code_at destinations) n code (halved destinations code turns low high)
  halved_parts zero low high h within enough before behind =
      let met : high ≡ low = omega arith in
      rw (halved_met destinations code zero low high (omega arith))
      (record { within = omega arith; before = before; behind = λ i l k. behind i (omega arith) k })
  halved_parts (suc turns) low high h within enough before behind =
      let middle = low + (high - low) / 2 in
      let enough-twice : high - low < 2 ^ turns * 2 = rw pow-suc at enough in
      let at : (i : ℕ) → i ≡ middle → code_at destinations i ≡ code_at destinations middle = λ i e. ap (code_at destinations) e in
      split low high
      (λ apart.
      split (code_at destinations middle) code
      (λ less.
      rw (halved_up destinations code turns low high apart less)
      (halved_parts turns (middle + 1) high (omega arith) within (omega arith)
      (λ i l.
      split i middle
      (λ lower. omega (arith, order i middle lower (omega arith)))
      (λ not_lower. omega (arith, at i (omega arith))))
      behind))
      (λ more.
      rw (halved_down destinations code turns low high apart more)
      (halved_parts turns low middle (omega arith) (omega arith) (omega arith) before
      (λ i l k.
      split middle i
      (λ higher. omega (arith, order middle i higher k))
      (λ not-higher. omega (arith, at i (omega arith)))))))
      (λ met.
      rw (halved_met destinations code (suc turns) low high met)
      (record { within = omega arith; before = before; behind = λ i l k. behind i (omega arith) k }))

module _ (plan : Plan) (sound : Sound plan) (code : ℕ) where
  pub parted : Parts (code_at plan.destinations) (given plan) code (place_of plan code)
  parted =
      halved_parts plan.destinations code (given plan) sound.ascending 7 0 (given plan) (omega arith) (omega arith) (omega arith)
      (λ i h. absurd (omega arith))
      (λ i h k. absurd (omega arith))

  -- what is found stands there
  pub found_stands : is_found plan code ≡ true → Stands plan code (place_of plan code)
  found_stands e =
      let both = (and-eq-true_iff (ltb (place_of plan code) (given plan)) (eqb (code_at plan.destinations (place_of plan code)) code)).0 e in
      record { within = ltb-true _ _ both.0; has_code = eqb-true _ _ both.1 }

  -- what stands anywhere is found there
  pub stands_found : (place : ℕ) → Stands plan code place → (is_found plan code ≡ true) × (place_of plan code ≡ place)
  stands_found place stands =
      let p = place_of plan code in
      let order = sound.ascending in
      let there : p ≡ place =
      split p place
      (λ less. absurd (omega (arith, order p place less stands.within, parted.behind p (omega arith) (omega (arith, stands.within)), stands.has_code)))
      (λ least.
      split place p
      (λ more. absurd (omega (arith, parted.before place more, stands.has_code)))
      (λ most. omega arith))
      in
      let has : code_at plan.destinations p ≡ code = ap (code_at plan.destinations) there ∙ stands.has_code in
      (simp (lt-ltb p (given plan) (omega (arith, stands.within)), eq-eqb (code_at plan.destinations p) code has), there)

  pub found_exactly : (is_found plan code ≡ true → Stands plan code (place_of plan code)) × ((place : ℕ) → Stands plan code place → (is_found plan code ≡ true) × (place_of plan code ≡ place))
  found_exactly = (found_stands, stands_found)

-- what the answer of a search says
of_either : Result ℕ ℕ → ℕ
of_either (Ok place) = place
of_either (Err place) = place

module _ (place there : ℕ) where
  ok_of : (found : Bool) → Ok place ≡ cond found (Ok there) (Err there) → (found ≡ true) × (place ≡ there)
  unfolding of_either
  ok_of true e = (refl, ap of_either e)
  ok_of false e = absurd (cc e)

  err_of : (found : Bool) → Err place ≡ cond found (Ok there) (Err there) → (found ≡ false) × (place ≡ there)
  unfolding of_either
  err_of true e = absurd (cc e)
  err_of false e = (refl, ap of_either e)

module _ (plan : Plan) (code place : ℕ) where
  pub found_ok : Ok place ≡ found_of plan code → (is_found plan code ≡ true) × (place ≡ place_of plan code)
  found_ok = ok_of place (place_of plan code) (is_found plan code)

  pub found_err : Err place ≡ found_of plan code → (is_found plan code ≡ false) × (place ≡ place_of plan code)
  found_err = err_of place (place_of plan code) (is_found plan code)

  -- a destination that is found stands in the table
  pub found_below : Ok place ≡ found_of plan code → place < 64
  found_below e =
      let found = found_ok e in
      let both = (and-eq-true_iff (ltb (place_of plan code) (given plan)) (eqb (code_at plan.destinations (place_of plan code)) code)).0 found.0 in
      omega (arith, found.1, ltb-true (place_of plan code) (given plan) both.0)
