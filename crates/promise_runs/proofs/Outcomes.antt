-- What holds of each outcome of a test holds of what it decides; and what the rows of a table say where the reply is 0.
-- Assumes nothing.
use mathlib.Core.Path.{◌≡◌, refl}
use mathlib.Core.Bool.{Bool, true, false, cond, ◌||◌, false≢true}
use mathlib.Core.List.{List, ◌∷◌}
use Prim.Native.Nat.{ℕ, ◌<◌}
use lib.Dec.{eqb, leb}
use borrow.Author.Tests.{eqb-true, leb-false}
use Rattle.plan.proofs.Split.{both_false}
use Rattle.replies.specs.Reply.{Row, row, first, if_done}
use Rattle.replies.proofs.Rows.{none_applies}
use Rattle.replies.specs.Areas.{Areas, Outcome, judged}
use Rattle.promise_runs.specs.Regular.{Regular}

-- the areas are regular, with these octets
abbrev pub RegularIn : Areas → List ℕ → Type 0
RegularIn a octets = Regular a.links a.spans a.rings a.rows octets

-- a test that fails was not met: whatever was to follow from it holds
pub unmet : {A : Type 0} → false ≡ true → A
unmet e = absurd (false≢true e)

module _ {A : Type 0} (P : A → Type 0) where
  pub by_test : (test : Bool) (x y : A) → (test ≡ true → P x) → (test ≡ false → P y) → P (cond test x y)
  by_test true x y on off = on refl
  by_test false x y on off = off refl

  -- a call leaves what is new, or what was
  pub if_done_lem : (reply : ℕ) (new old : A) → (reply ≡ 0 → P new) → P old → P (if_done reply new old)
  if_done_lem reply new old does was = by_test (eqb reply 0) new old (λ e. does (eqb-true reply 0 e)) (λ e. was)

-- and so do two things that it leaves
module _ {A B : Type 0} (P : A → B → Type 0) where
  pub both_by_test : (test : Bool) (x y : A) (v w : B) → (test ≡ true → P x v) → (test ≡ false → P y w)
      → P (cond test x y) (cond test v w)
  both_by_test true x y v w on off = on refl
  both_by_test false x y v w on off = off refl

  pub if_both_done : (reply : ℕ) (new old : A) (new' old' : B) → (reply ≡ 0 → P new new') → P old old'
      → P (if_done reply new old) (if_done reply new' old')
  if_both_done reply new old new' old' does was =
      both_by_test (eqb reply 0) new old new' old' (λ e. does (eqb-true reply 0 e)) (λ e. was)

-- an event that is refused leaves a regular state regular
pub if_judged : (octets : List ℕ) (reply : ℕ) (done : Outcome) (before : Areas) → RegularIn before octets
    → (reply ≡ 0 → RegularIn done.after octets) → RegularIn (judged reply done before).after octets
if_judged octets reply done before regular does =
    if_done_lem (λ (o : Outcome). RegularIn o.after octets) reply done _ does regular

-- where the reply is 0, none of the rows 1, 2 and 5 applies, and none after them
pub rows_passed : (out missing unfit : Bool) (later : List Row)
    → first (row 1 out ∷ row 2 missing ∷ row 5 unfit ∷ later) ≡ 0
    → (out ≡ false) × (missing ≡ false) × (unfit ≡ false) × (first later ≡ 0)
rows_passed out missing unfit later e =
    let one = none_applies 0 out _ e in
    let two = none_applies 1 missing _ one.1 in
    let five = none_applies 4 unfit later two.1 in
    (one.0, two.0, five.0, five.1)

-- a link that isn't out of range
pub link_within : (link : ℕ) (other : Bool) → (leb 32 link || other) ≡ false → link < 32
link_within link other e = leb-false 32 link (both_false (leb 32 link) other e).0
