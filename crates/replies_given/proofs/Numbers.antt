-- The numbers of a table's rows: a test that holds of them all, and so of the first that applies. Assumes nothing.
use Prim.Native.Nat.{ℕ}
use mathlib.Core.Bool.{Bool, true, ◌&&◌, and-eq-true_iff}
use mathlib.Core.List.{List, [], ◌∷◌}
use mathlib.Core.Path.{◌≡◌, refl}
use lib.Dec.{ltb}
use borrow.Table.Steps.{cases}
use Rattle.replies.specs.Reply.{Row, first}

-- a test holds of every row's number
abbrev pub all_of : (ℕ → Bool) → List Row → Bool
all_of test [] = true
all_of test (here ∷ later) = test here.number && all_of test later

-- no row is numbered 0
abbrev pub over_zero : List Row → Bool
over_zero = all_of (λ (n : ℕ). ltb 0 n)

-- and so does one that it implies
pub all_weaker : (test weaker : ℕ → Bool) → ((n : ℕ) → test n ≡ true → weaker n ≡ true) → (rows : List Row)
    → all_of test rows ≡ true → all_of weaker rows ≡ true
all_weaker test weaker so [] e = refl
all_weaker test weaker so (here ∷ later) e =
    let both = (and-eq-true_iff (test here.number) (all_of test later)).0 e in
    (and-eq-true_iff (weaker here.number) (all_of weaker later)).1 (so here.number both.0, all_weaker test weaker so later both.1)

-- a test that holds of 0 and of every row's number holds of the reply
pub of_first : (test : ℕ → Bool) → test 0 ≡ true → (rows : List Row) → all_of test rows ≡ true → test (first rows) ≡ true
unfolding first
of_first test none [] e = none
of_first test none (here ∷ later) e =
    let both = (and-eq-true_iff (test here.number) (all_of test later)).0 e in
    cases here.applies (λ yes. simp yes both.0) (λ no. simp no (of_first test none later both.1))
