-- The search by halving, turn by turn, and what it answers at its end. Assumes nothing.
use mathlib.Core.Path.{◌≡◌, refl, sym, ◌∙◌}
use mathlib.Core.Bool.{Bool, true, false, cond, ◌&&◌}
use mathlib.Core.List.{List}
use Prim.Native.Nat.{ℕ, zero, suc, ◌+◌, ◌-◌, ◌*◌, ◌/◌, ◌^◌, ◌≤◌, ◌<◌}
use native.Mathlib.Nat.{pow-suc}
use native.Mathlib.Omega.{arith}
use lib.Dec.{eqb, ltb}
use borrow.Author.Tests.{lt-ltb, le-ltb, eq-eqb, ne_eqb}
use Rattle.std.specs.Prelude.{Ok, Err}
use Rattle.plan.specs.declared.data.Plan.{Plan}
use Rattle.plan.specs.declared.data.Destination.{Destination}
use Rattle.plan.specs.Find.{code_at, halved, given, place_of, found_of}

-- some halvings are left between two places, enough for them, and they lead where all seven do
pub record Halving (destinations : List Destination) (code count low high : ℕ) : Type 0 where
  pub within : high ≤ count
  pub turns : ℕ
  pub enough : high - low < 2 ^ turns
  pub left : halved destinations code turns low high ≡ halved destinations code 7 0 count

module _ (destinations : List Destination) (code : ℕ) where
  -- nothing is left between the places
  pub halved_met : (turns low high : ℕ) → high ≤ low → halved destinations code turns low high ≡ low
  unfolding halved
  halved_met zero low high h = refl
  halved_met (suc turns) low high h = simp (le-ltb low high h)

  pub halved_up : (turns low high : ℕ) → low < high → code_at destinations (low + (high - low) / 2) < code
      → halved destinations code (suc turns) low high ≡ halved destinations code turns (low + (high - low) / 2 + 1) high
  unfolding halved
  halved_up turns low high h k = simp (lt-ltb low high h, lt-ltb (code_at destinations (low + (high - low) / 2)) code k)

  pub halved_down : (turns low high : ℕ) → low < high → code ≤ code_at destinations (low + (high - low) / 2)
      → halved destinations code (suc turns) low high ≡ halved destinations code turns low (low + (high - low) / 2)
  unfolding halved
  halved_down turns low high h k = simp (lt-ltb low high h, le-ltb (code_at destinations (low + (high - low) / 2)) code k)

  pub halve_first : (count : ℕ) → count ≤ 64 → Halving destinations code count 0 count
  halve_first count h = record { within = omega arith; turns = 7; enough = omega arith; left = refl }

  module _ (count low high : ℕ) where
    up : (turns : ℕ) → high ≤ count → high - low < 2 ^ turns → halved destinations code turns low high ≡ halved destinations code 7 0 count
        → low < high → code_at destinations (low + (high - low) / 2) < code
        → Halving destinations code count (low + (high - low) / 2 + 1) high
    up zero within enough left h k = absurd (omega arith)
    up (suc turns) within enough left h k =
        let twice : high - low < 2 ^ turns * 2 = rw pow-suc at enough in
        record { within = within; turns = turns; enough = omega arith; left = sym (halved_up turns low high h k) ∙ left }

    down : (turns : ℕ) → high ≤ count → high - low < 2 ^ turns → halved destinations code turns low high ≡ halved destinations code 7 0 count
        → low < high → code ≤ code_at destinations (low + (high - low) / 2)
        → Halving destinations code count low (low + (high - low) / 2)
    down zero within enough left h k = absurd (omega arith)
    down (suc turns) within enough left h k =
        let twice : high - low < 2 ^ turns * 2 = rw pow-suc at enough in
        record { within = omega arith; turns = turns; enough = omega arith; left = sym (halved_down turns low high h k) ∙ left }

    module _ (so_far : Halving destinations code count low high) where
      pub halve_up : low < high → code_at destinations (low + (high - low) / 2) < code
          → Halving destinations code count (low + (high - low) / 2 + 1) high
      halve_up h k = up so_far.turns so_far.within so_far.enough so_far.left h k

      pub halve_down : low < high → code ≤ code_at destinations (low + (high - low) / 2)
          → Halving destinations code count low (low + (high - low) / 2)
      halve_down h k = down so_far.turns so_far.within so_far.enough so_far.left h k

      pub halve_last : high ≤ low → low ≡ halved destinations code 7 0 count
      halve_last h = sym (halved_met so_far.turns low high h) ∙ so_far.left

-- what is said of the place that is found, by the two tests on it
module _ (plan : Plan) (code place : ℕ) (found : place ≡ place_of plan code) where
  said : (within has : Bool) → ltb place (given plan) ≡ within → eqb (code_at plan.destinations place) code ≡ has
      → found_of plan code ≡ cond (within && has) (Ok place) (Err place)
  said within has w h = simp (← found, w, h)

  pub stands_there : place < given plan → code_at plan.destinations place ≡ code → Ok place ≡ found_of plan code
  stands_there w h = sym (said true true (lt-ltb place (given plan) w) (eq-eqb (code_at plan.destinations place) code h))

  pub other_there : place < given plan → (code_at plan.destinations place ≡ code → ⊥) → Err place ≡ found_of plan code
  other_there w h = sym (said true false (lt-ltb place (given plan) w) (ne_eqb (code_at plan.destinations place) code h))

  pub none_there : given plan ≤ place → Err place ≡ found_of plan code
  none_there w = sym (said false (eqb (code_at plan.destinations place) code) (le-ltb place (given plan) w) refl)
