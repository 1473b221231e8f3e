-- What holds of each of some slots.
-- Assumes nothing.
use mathlib.Core.Path.{◌≡◌}
use mathlib.Core.Bool.{false}
use mathlib.Core.List.{List, [], ◌∷◌, ◌++◌}
use Prim.Native.Nat.{ℕ, suc, ◌<◌}
use native.Mathlib.Omega.{arith}
use lib.Dec.{eqb}
use lib.ListN.{length, get_or}
use borrow.Table.Steps.{cases}
use Rattle.queue_moving.specs.Move.{point_of}
use Rattle.promise_apart.specs.LetGo.{for_others}
use Rattle.promise_apart.specs.WhileT6.{Each}

-- of two lists, one behind the other
pub each_on : (P : ℕ → Type 0) (first next : List ℕ) → Each P first → Each P next → Each P (first ++ next)
unfolding Each
each_on P [] next none rest = rest
each_on P (slot ∷ slots) next all rest = (all.0, each_on P slots next all.1 rest)

-- of one slot
pub each_one : (P : ℕ → Type 0) (slot : ℕ) → P slot → Each P (slot ∷ [])
unfolding Each
each_one P slot holds = (holds, tt)

-- what follows of two things
pub each_both : (P Q R : ℕ → Type 0) → ((slot : ℕ) → P slot → Q slot → R slot) → (slots : List ℕ) → Each P slots → Each Q slots
    → Each R slots
unfolding Each
each_both P Q R so [] one two = tt
each_both P Q R so (slot ∷ slots) one two = (so slot one.0 two.0, each_both P Q R so slots one.1 two.1)

-- what holds at each place
pub each_place : (P : ℕ → Type 0) (slots : List ℕ) → ((place : ℕ) → place < length slots → P (get_or slots place 0)) → Each P slots
unfolding Each
each_place P [] at = tt
each_place P (slot ∷ slots) at = (at 0 (omega arith), each_place P slots (λ place h. at (suc place) (omega arith)))

-- those for others than a point
pub each_other : (P Q : ℕ → Type 0) (rows : List ℕ) (point : ℕ)
    → ((slot : ℕ) → eqb (point_of rows slot) point ≡ false → P slot → Q slot) → (slots : List ℕ) → Each P slots
    → Each Q (for_others rows point slots)
unfolding Each for_others
each_other P Q rows point so [] all = tt
each_other P Q rows point so (slot ∷ slots) all =
    cases (eqb (point_of rows slot) point)
    (λ e. simp e (each_other P Q rows point so slots all.1))
    (λ e. simp e (so slot e all.0, each_other P Q rows point so slots all.1))
