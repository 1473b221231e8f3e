-- Where a message is told to be after a call, by how often its number is counted in the queues then and among the drops. Assumes nothing.
use mathlib.Core.Path.{◌≡◌, refl, sym, ap, ◌∙◌}
use mathlib.Core.Bool.{Bool, true, false, cond, ◌&&◌}
use mathlib.Core.List.{List, [], ◌∷◌, ◌++◌}
use Prim.Native.Nat.{ℕ, zero, suc, ◌+◌, ◌*◌, ◌/◌, ◌≤◌, ◌<◌, min}
use native.Mathlib.Nat.{add-zero, zero-add}
use native.Mathlib.Omega.{arith}
use lib.Dec.{eqb, ltb}
use lib.ListN.{length, get_or}
use borrow.Author.Tests.{lt-ltb, le-ltb, ne_eqb, ltb-false}
use borrow.Table.Steps.{cases}
use Rattle.plan.proofs.Split.{alike}
use Rattle.queue_rings.specs.Ring.{count_of}
use Rattle.queue_store.specs.Sound.{bit, tally, is}
use Rattle.queue_store.proofs.Sums.{sum_part, sum_parts, sum_none}
use Rattle.replies.specs.Areas.{Areas}
use Rattle.queue_heads.specs.Head.{both}
use Rattle.fate_places.specs.Places.{Held, held, seek, stands, nowhere, queue_with, tells_drop, dropped, stays, whither}
use Rattle.fate_places.proofs.WhereTold as WhereTold
use Rattle.promise_ledger.specs.Held.{held_of}
use Rattle.promise_ledger.specs.Reported.{Report, report, reports_in, is_drop, drops_of}
use Rattle.promise_accounts.specs.Gone as Gone
use Rattle.promise_fates.proofs.Standing.{standing}

-- a search that no place passes
seek_none : {A : Type 0} (test : ℕ → Bool) (told : ℕ → A) (none : A) (from more : ℕ)
    → ((k : ℕ) → from ≤ k → k < from + more → test k ≡ false) → seek test told none from more ≡ none
unfolding seek
seek_none test told none from zero fails = refl
seek_none test told none from (suc more) fails =
    simp (fails from (omega arith) (omega arith), seek_none test told none (from + 1) more (λ k h below. fails k (omega arith) (omega arith)))

-- one that only one place passes
seek_one : {A : Type 0} (test : ℕ → Bool) (told : ℕ → A) (none : A) (only from more : ℕ) → from ≤ only → only < from + more → test only ≡ true
    → ((k : ℕ) → from ≤ k → k < from + more → (k ≡ only → ⊥) → test k ≡ false) → seek test told none from more ≡ told only
unfolding seek
seek_one test told none only from zero h below is fails = absurd (omega arith)
seek_one test told none only from (suc more) h below is fails =
    alike from only
    (λ same.
    let here : test from ≡ true = ap test same ∙ is in
    simp here (ap told same))
    (λ apart.
    let here : test from ≡ false = fails from (omega arith) (omega arith) apart in
    simp here
    (seek_one test told none only (from + 1) more (omega (arith, apart)) (omega arith) is (λ k after short other. fails k (omega arith) (omega arith) other)))

-- with a place more at the end
seek_end : (test : ℕ → Bool) (from more : ℕ)
    → seek test (λ (k : ℕ). true) false from (suc more) ≡ cond (seek test (λ (k : ℕ). true) false from more) true (test (from + more))
unfolding seek
seek_end test from zero =
    let last : test from ≡ test (from + 0) = ap test (sym (add-zero from)) in
    cases (test from) (λ e. simp e (sym e ∙ last)) (λ e. simp e (sym e ∙ last))
seek_end test from (suc more) =
    let later = seek_end test (from + 1) more in
    let place : from + 1 + more ≡ from + suc more = omega arith in
    cases (test from)
    (λ e. simp e)
    (λ e.
    simp e (later ∙ ap (λ (k : ℕ). cond (seek test (λ (k : ℕ). true) false (from + 1) more) true (test k)) place))

-- the drops of one record more
drops_more : (number : ℕ) (earlier : List Report) (one : Report)
    → tally (is number) (drops_of (earlier ++ (one ∷ []))) ≡ tally (is number) (drops_of earlier) + bit (is_drop one && eqb one.number number)
unfolding drops_of tally
drops_more number [] one = cases (is_drop one) (λ e. simp e (omega arith)) (λ e. simp e)
drops_more number (first ∷ earlier) one =
    let later = drops_more number earlier one in
    cases (is_drop first) (λ e. simp e (omega (arith, later))) (λ e. simp e later)

either : (b found : Bool) (n : ℕ) → found ≡ ltb 0 n → cond found true b ≡ ltb 0 (n + bit b)
either true found n e =
    let more : ltb 0 (n + 1) ≡ true = lt-ltb 0 (n + 1) (omega arith) in
    cases found (λ f. simp (f, more)) (λ f. simp (f, more))
either false found n e =
    let same : n ≡ n + 0 = omega arith in
    cases found (λ f. simp f (sym f ∙ e ∙ ap (ltb 0) same)) (λ f. simp f (sym f ∙ e ∙ ap (ltb 0) same))

-- a message is told as dropped exactly if its number is among the drops
drops_told : (reports : List ℕ) (number count : ℕ)
    → seek (tells_drop reports number) (λ (k : ℕ). true) false 0 count ≡ ltb 0 (tally (is number) (drops_of (reports_in reports count)))
unfolding reports_in seek drops_of tally
drops_told reports number zero = refl
drops_told reports number (suc more) =
    let one : Report = report (get_or reports (2 * more) 0) (get_or reports (2 * more + 1) 0) in
    let before : ℕ = tally (is number) (drops_of (reports_in reports more)) in
    let found : Bool = seek (tells_drop reports number) (λ (k : ℕ). true) false 0 more in
    seek_end (tells_drop reports number) 0 more
    ∙ ap (λ (k : ℕ). cond found true (tells_drop reports number k)) (zero-add more)
    ∙ either (tells_drop reports number more) found before (drops_told reports number more)
    ∙ ap (ltb 0) (sym (drops_more number (reports_in reports more) one))

some : (n : ℕ) → 1 ≤ n → ltb 0 n ≡ true
some n h = lt-ltb 0 n (omega arith)

no_more : (n : ℕ) → n ≡ 0 → ltb 0 n ≡ false
no_more n h = le-ltb 0 n (omega arith)

none_then : (n : ℕ) → ltb 0 n ≡ false → n ≡ 0
none_then n e = omega (arith, ltb-false 0 n e)

module _ (b : Areas) (count : ℕ) (short : (ring : ℕ) → count_of b.spans ring ≤ 256) (within : count ≤ length b.reports / 2)
    (ring number : ℕ) where
  abbrev h : Held
  h = held b.spans b.rings b.rows

  abbrev there : ℕ → ℕ
  there queue = tally (is number) (Gone.queue_of b queue)

  abbrev all : ℕ
  all = held_of (is number) b.rows (both b.spans b.rings)

  abbrev drops : ℕ
  drops = tally (is number) (drops_of (reports_in b.reports count))

  abbrev to : ℕ
  to = whither h b.reports count ring number

  dropped_is : dropped b.reports count number ≡ ltb 0 drops
  unfolding dropped
  dropped_is =
      let many : min count (length b.reports / 2) ≡ count = omega arith in
      ap (seek (tells_drop b.reports number) (λ (k : ℕ). true) false 0) many ∙ drops_told b.reports number count

  absent : (queue : ℕ) → there queue ≡ 0 → stands h queue number ≡ false
  absent queue e = standing h queue number (short queue) ∙ no_more (there queue) e

  part : (queue : ℕ) → queue < 33 → there queue ≤ all
  unfolding held_of
  part queue below = sum_part there 33 queue below

  nowhere_else : all ≡ 0 → queue_with h number ≡ nowhere
  unfolding queue_with
  nowhere_else none =
      seek_none (λ (queue : ℕ). stands h queue number) (λ (queue : ℕ). queue) nowhere 0 33
      (λ queue low below. absent queue (omega (arith, none, part queue (omega arith))))

  module _ (own : ring < 33) where
    -- held nowhere and not dropped
    pub gone_if : all ≡ 0 → drops ≡ 0 → to ≡ nowhere
    unfolding whither
    gone_if none kept =
        let here : stands h ring number ≡ false = absent ring (omega (arith, none, part ring own)) in
        let other : ltb (queue_with h number) nowhere ≡ false = le-ltb (queue_with h number) nowhere (omega (arith, nowhere_else none)) in
        let untold : dropped b.reports count number ≡ false = dropped_is ∙ no_more drops kept in
        simp (here, other, untold)

    -- held, or dropped
    pub held_if : 1 ≤ all + drops → eqb to nowhere ≡ false
    unfolding held_of
    held_if some-where =
        ne_eqb to nowhere
        (λ e.
        let gone = WhereTold.gone h b.reports count ring number e in
        let none = sum_none there 33
        (λ queue below. none_then (there queue) (sym (standing h queue number (short queue)) ∙ gone.in_none queue below))
        in
        let kept = none_then drops (sym dropped_is ∙ gone.not_told) in
        omega (arith, none, kept))

    -- not held: it isn't told in another queue
    pub unheld_if : all ≡ 0 → nowhere ≤ to
    unfolding whither
    unheld_if none =
        let here : stands h ring number ≡ false = absent ring (omega (arith, none, part ring own)) in
        let other : ltb (queue_with h number) nowhere ≡ false = le-ltb (queue_with h number) nowhere (omega (arith, nowhere_else none)) in
        cases (dropped b.reports count number) (λ e. simp (here, other, e) (omega arith)) (λ e. simp (here, other, e) (omega arith))

  -- still where it was
  pub stays_if : 1 ≤ there ring → to ≡ stays
  unfolding whither
  stays_if is =
      let here : stands h ring number ≡ true = standing h ring number (short ring) ∙ some (there ring) is in
      simp here

  -- in another queue
  pub at_if : (queue : ℕ) → queue < 33 → ring < 33 → (ring ≡ queue → ⊥) → 1 ≤ there queue → all ≤ 1 → to ≡ queue
  unfolding whither queue_with held_of
  at_if queue below own apart is once =
      let elsewhere : (k : ℕ) → k < 33 → (k ≡ queue → ⊥) → there k ≡ 0 =
      λ k low other. omega (arith, sum_parts there 33 k queue low below other, once, is)
      in
      let here : stands h ring number ≡ false = absent ring (elsewhere ring own apart) in
      let found : queue_with h number ≡ queue =
      seek_one (λ (k : ℕ). stands h k number) (λ (k : ℕ). k) nowhere queue 0 33 (omega arith) below
      (standing h queue number (short queue) ∙ some (there queue) is)
      (λ k low lower other. absent k (elsewhere k (omega arith) other))
      in
      let inside : ltb (queue_with h number) nowhere ≡ true = lt-ltb (queue_with h number) nowhere (omega (arith, found, below)) in
      simp (here, inside) found
