-- What is put on a queue, where nothing is twice: what is new behind it, and nothing where messages only leave it or it is as it was.
-- Assumes nothing.
use mathlib.Core.Path.{◌≡◌, refl, ap, ◌∙◌}
use mathlib.Core.Bool.{true, false}
use mathlib.Core.List.{List, [], ◌∷◌, ◌++◌}
use Prim.Native.Nat.{ℕ, zero, suc, ◌+◌, ◌≤◌}
use native.Mathlib.Omega.{arith}
use lib.Dec.{eqb}
use lib.ListN.{drop}
use borrow.Author.Tests.{eq-eqb, ne_eqb}
use borrow.Table.Steps.{cases}
use Rattle.queue_store.specs.Sound.{tally, is}
use Rattle.promise_ledger.specs.Held.{put_on}
use Rattle.promise_accounts.proofs.OnePlace.{tally_on}

-- a number is counted where it stands first
counted : (number : ℕ) (later : List ℕ) → 1 ≤ tally (is number) (number ∷ later)
unfolding tally
counted number later = simp (eq-eqb number number refl) (omega arith)

-- and those behind it are counted no more than all
behind : (n number : ℕ) (later : List ℕ) → tally (is n) later ≤ tally (is n) (number ∷ later)
unfolding tally
behind n number later = omega arith

module _ (before : List ℕ) where
  -- of what stood there before, nothing is put
  pub put_none : (after : List ℕ) → ((n : ℕ) → tally (is n) after ≤ tally (is n) before) → put_on before after ≡ []
  unfolding put_on
  put_none [] fewer = refl
  put_none (number ∷ later) fewer =
      let there : eqb (tally (is number) before) 0 ≡ false =
      ne_eqb (tally (is number) before) 0 (λ e. omega (arith, e, fewer number, counted number later))
      in
      simp there (put_none later (λ n. omega (arith, fewer n, behind n number later)))

  -- of what didn't, all is
  pub put_all : (new : List ℕ) → ((n : ℕ) → tally (is n) before + tally (is n) new ≤ 1) → put_on before new ≡ new
  unfolding put_on
  put_all [] once = refl
  put_all (number ∷ later) once =
      let absent : eqb (tally (is number) before) 0 ≡ true =
      eq-eqb (tally (is number) before) 0 (omega (arith, once number, counted number later))
      in
      simp (absent, put_all later (λ n. omega (arith, once n, behind n number later)))

  -- two lists, one behind the other
  put_on_lem : (first next : List ℕ) → put_on before (first ++ next) ≡ put_on before first ++ put_on before next
  unfolding put_on
  put_on_lem [] next = refl
  put_on_lem (number ∷ later) next =
      cases (eqb (tally (is number) before) 0) (λ e. simp (e, put_on_lem later next)) (λ e. simp (e, put_on_lem later next))

  -- what is behind it is put
  pub put_behind : (new : List ℕ) → ((n : ℕ) → tally (is n) (before ++ new) ≤ 1) → put_on before (before ++ new) ≡ new
  put_behind new once =
      put_on_lem before new
      ∙ ap (λ (l : List ℕ). l ++ put_on before new) (put_none before (λ n. omega arith))
      ∙ put_all new (λ n. omega (arith, once n, tally_on (is n) before new))

-- nothing is put by what leaves a queue
pub put_left : (many : ℕ) (before : List ℕ) → put_on before (drop many before) ≡ []
put_left many before = put_none before (drop many before) (λ n. fewer n many before)
  where
    fewer : (n many : ℕ) (l : List ℕ) → tally (is n) (drop many l) ≤ tally (is n) l
    fewer n zero l = omega arith
    fewer n (suc more) [] = omega arith
    fewer n (suc more) (number ∷ l) = omega (arith, fewer n more l, behind n number l)

-- nor on one that is as it was
pub put_same : (before : List ℕ) → put_on before before ≡ []
put_same before = put_left 0 before

-- and all of what stands in one that was empty
pub put_first : (before after : List ℕ) → before ≡ [] → ((n : ℕ) → tally (is n) after ≤ 1) → put_on before after ≡ after
unfolding tally
put_first before after none once =
    ap (λ (l : List ℕ). put_on l after) none ∙ put_all [] after (λ n. omega (arith, once n))
