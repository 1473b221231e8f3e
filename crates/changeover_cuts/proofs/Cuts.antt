-- How a queue is cut by a number: in range, or not.
-- Assumes nothing.
use mathlib.Core.Path.{◌≡◌, sym, ap, ◌∙◌}
use mathlib.Core.Bool.{Bool, true, false, cond}
use Prim.Native.Nat.{ℕ}
use Rattle.counting.specs.Counting.{in_range, distance}
use Rattle.area_links.specs.declared.LinkRecord.{LinkRecord}
use Rattle.changeover_cuts.specs.declared.Cut.{Cut}
use Rattle.changeover_cuts.specs.Cuts.{cut, cut_none, cut_at}

-- what the code's test says, and the cut that follows
module _ (known : LinkRecord) (f : ℕ) (inside : Bool) (tested : inside ≡ in_range 128 known.acknowledged known.sent f) where
  by_test : (said : Bool) → inside ≡ said
      → cond said (cut (distance 128 known.acknowledged f) 0) cut_none ≡ cut_at known f
  unfolding cut_at
  by_test said e =
      ap (λ (t : Bool). cond t (cut (distance 128 known.acknowledged f) 0) cut_none) (sym e ∙ tested)

  -- "F in range: messages up to F are retired and the rest move"
  pub cut_in : inside ≡ true → (steps : ℕ) → steps ≡ distance 128 known.acknowledged f → cut steps 0 ≡ cut_at known f
  cut_in e steps counted = ap (λ (n : ℕ). cut n 0) counted ∙ by_test true e

  -- with F not in range the whole queue moves
  pub cut_out : inside ≡ false → (parts : Cut) → parts ≡ cut_none → parts ≡ cut_at known f
  cut_out e parts none = none ∙ by_test false e
