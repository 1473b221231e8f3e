-- The reply of a table, row by row: a row that applies is the reply, one that doesn't leaves it to the rows after it, and where the
-- reply is 0 no row applies. Whether a reply that a function told refuses. Assumes nothing.
use Prim.Native.Nat.{ℕ, suc, ◌≤◌, ◌<◌}
use mathlib.Core.Bool.{Bool, true, false, cond}
use mathlib.Core.List.{List, ◌∷◌}
use mathlib.Core.Path.{◌≡◌, refl, ap}
use native.Mathlib.Omega.{arith}
use lib.Dec.{eqb}
use borrow.Author.Tests.{ne_eqb}
use Rattle.replies.specs.Reply.{Row, row, first}

pub applies : (n : ℕ) (t : Bool) (later : List Row) → t ≡ true → first (row n t ∷ later) ≡ n
unfolding first
applies n t later e = ap (λ (x : Bool). cond x n (first later)) e

pub passes : (n : ℕ) (t : Bool) (later : List Row) → t ≡ false → first (row n t ∷ later) ≡ first later
unfolding first
passes n t later e = ap (λ (x : Bool). cond x n (first later)) e

-- where the reply is 0, a row over 0 doesn't apply, and none after it does
pub none_applies : (n : ℕ) (t : Bool) (later : List Row) → first (row (suc n) t ∷ later) ≡ 0 → (t ≡ false) × (first later ≡ 0)
unfolding first
none_applies n true later e = absurd (omega arith)
none_applies n false later e = (refl, e)

-- a reply over 0 that a function told refuses; any other is 0
pub refused : (told reply : ℕ) → told ≡ reply → 0 < told → eqb reply 0 ≡ false
refused told reply e h = ne_eqb reply 0 (λ z. omega arith)

pub done : (told reply : ℕ) → told ≡ reply → told ≤ 0 → reply ≡ 0
done told reply e h = omega arith
