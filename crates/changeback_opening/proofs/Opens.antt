-- "It opens when no CBD is unanswered and T3 isn't running": a waiting link exactly then, and any other keeps its state.
-- Assumes nothing.
use Prim.Native.Nat.{ℕ}
use mathlib.Core.Bool.{Bool, not, ◌&&◌}
use mathlib.Core.Path.{◌≡◌}
use lib.Dec.{eqb}
use borrow.Author.Tests.{ne_eqb}
use borrow.Table.Steps.{cases}
use Rattle.area_links.specs.declared.LinkRecord.{LinkRecord}
use Rattle.changeback_opening.specs.Opening.{waits}

module _ (known : LinkRecord) (t3 : Bool) (code : ℕ) where
  pub opens_with_nothing_left : known.state ≡ 1 → eqb (waits known t3 code).state 2 ≡ (not t3 && eqb code 0)
  opens_with_nothing_left waiting = cases (not t3 && eqb code 0) (λ e. simp (waiting, e)) (λ e. simp (waiting, e))

  pub others_keep_their_state : (known.state ≡ 1 → ⊥) → (waits known t3 code).state ≡ known.state
  others_keep_their_state other = simp (ne_eqb _ _ other)
