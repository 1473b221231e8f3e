-- A regular link, by its state: what holds of one that is out, waiting, open or changing, and that this makes it regular; and that a
-- queue which grows leaves it regular, where an out link's doesn't.
-- Assumes nothing.
use mathlib.Core.Path.{◌≡◌, sym, ap, ◌∙◌}
use mathlib.Core.Bool.{Bool, true, false, cond, not, ◌&&◌, ◌||◌, and-eq-true_iff}
use Prim.Native.Nat.{ℕ, ◌≤◌, ◌<◌}
use native.Mathlib.Omega.{arith}
use lib.Dec.{eqb, ltb, leb}
use borrow.Author.Tests.{eq-eqb, ne_eqb, eqb-true, eqb-false, le-leb, leb-true, not-true}
use borrow.Table.Steps.{cases}
use Rattle.area_links.specs.declared.LinkRecord.{LinkRecord}
use Rattle.promise_runs.specs.Regular.{no_timer, regular_out, regular_waiting, regular_open, regular_changing, regular_link}

-- exactly one of T3 and T4 runs, T4 while a code is unanswered
abbrev pub one_runs_lem : LinkRecord → Bool
one_runs_lem known = cond known.t3 (eqb known.code 0) (ltb 0 known.code)

-- T1 or T2 runs
abbrev pub changes : LinkRecord → Bool
changes known = eqb known.timer 1 || eqb known.timer 2

-- neither T3 nor T4 runs
pub record Still (known : LinkRecord) : Type 0 where
  pub no_t3 : known.t3 ≡ false
  pub no_code : known.code ≡ 0

pub record Out (known : LinkRecord) (count : ℕ) : Type 0 where
  pub no_change : known.timer ≡ 0
  pub still : Still known
  pub empty : count ≡ 0
  pub none_sent : known.sent ≡ 0

pub record Waiting (known : LinkRecord) : Type 0 where
  pub no_change : known.timer ≡ 0
  pub none_sent : known.sent ≡ 0
  pub one_runs : one_runs_lem known ≡ true

pub record Open (known : LinkRecord) (count : ℕ) : Type 0 where
  pub no_change : known.timer ≡ 0
  pub still : Still known
  pub sent_queued : known.sent ≤ count

pub record Changing (known : LinkRecord) (count : ℕ) : Type 0 where
  pub change_runs : changes known ≡ true
  pub still : Still known
  pub sent_queued : known.sent ≤ count

-- two tests that hold
both : (a b : Bool) → (a && b) ≡ true → (a ≡ true) × (b ≡ true)
both a b e = (and-eq-true_iff a b).0 e

module _ (known : LinkRecord) (count : ℕ) where
  no_timer_lem : no_timer known ≡ true → (known.timer ≡ 0) × Still known
  no_timer_lem e =
      let first = both (eqb known.timer 0) (not known.t3 && eqb known.code 0) e in
      let next = both (not known.t3) (eqb known.code 0) first.1 in
      (eqb-true _ _ first.0, record { no_t3 = not-true known.t3 next.0; no_code = eqb-true _ _ next.1 })

  timer_none : known.timer ≡ 0 → Still known → no_timer known ≡ true
  timer_none none still = simp (eq-eqb _ _ none, still.no_t3, eq-eqb _ _ still.no_code)

  -- out
  by_out : known.state ≡ 0 → regular_link known count ≡ regular_out known count
  unfolding regular_link
  by_out e = simp e

  pub out_is : known.state ≡ 0 → regular_link known count ≡ true → Out known count
  out_is is e =
      let parts = both (no_timer known) (eqb count 0 && eqb known.sent 0) (sym (by_out is) ∙ e) in
      let none = no_timer_lem parts.0 in
      let rest = both (eqb count 0) (eqb known.sent 0) parts.1 in
      record { no_change = none.0; still = none.1; empty = eqb-true _ _ rest.0; none_sent = eqb-true _ _ rest.1 }

  pub is_out : known.state ≡ 0 → Out known count → regular_link known count ≡ true
  is_out is out =
      by_out is ∙ simp (timer_none out.no_change out.still, eq-eqb _ _ out.empty, eq-eqb _ _ out.none_sent)

  -- waiting
  by_waiting : known.state ≡ 1 → regular_link known count ≡ regular_waiting known count
  unfolding regular_link
  by_waiting e = simp e

  pub waiting_is : known.state ≡ 1 → regular_link known count ≡ true → Waiting known
  waiting_is is e =
      let parts = both (eqb known.timer 0) (eqb known.sent 0 && one_runs_lem known) (sym (by_waiting is) ∙ e) in
      let rest = both (eqb known.sent 0) (one_runs_lem known) parts.1 in
      record { no_change = eqb-true _ _ parts.0; none_sent = eqb-true _ _ rest.0; one_runs = rest.1 }

  pub is_waiting : known.state ≡ 1 → Waiting known → regular_link known count ≡ true
  is_waiting is waiting =
      by_waiting is ∙ simp (eq-eqb _ _ waiting.no_change, eq-eqb _ _ waiting.none_sent, waiting.one_runs)

  -- open
  by_open : known.state ≡ 2 → regular_link known count ≡ regular_open known count
  unfolding regular_link
  by_open e = simp e

  pub open_is : known.state ≡ 2 → regular_link known count ≡ true → Open known count
  open_is is e =
      let parts = both (no_timer known) (leb known.sent count) (sym (by_open is) ∙ e) in
      let none = no_timer_lem parts.0 in
      record { no_change = none.0; still = none.1; sent_queued = leb-true _ _ parts.1 }

  pub is_open : known.state ≡ 2 → Open known count → regular_link known count ≡ true
  is_open is opened =
      by_open is ∙ simp (timer_none opened.no_change opened.still, le-leb _ _ opened.sent_queued)

  -- changing
  by_changing : 2 < known.state → regular_link known count ≡ regular_changing known count
  unfolding regular_link
  by_changing h =
      simp (ne_eqb known.state 0 (omega arith), ne_eqb known.state 1 (omega arith), ne_eqb known.state 2 (omega arith))

  pub changing_is : 2 < known.state → regular_link known count ≡ true → Changing known count
  changing_is is e =
      let parts =
      both (changes known) (not known.t3 && (eqb known.code 0 && leb known.sent count)) (sym (by_changing is) ∙ e)
      in
      let rest = both (not known.t3) (eqb known.code 0 && leb known.sent count) parts.1 in
      let last = both (eqb known.code 0) (leb known.sent count) rest.1 in
      record {
        change_runs = parts.0;
        still = record { no_t3 = not-true known.t3 rest.0; no_code = eqb-true _ _ last.0 };
        sent_queued = leb-true _ _ last.1;
      }

  pub is_changing : 2 < known.state → Changing known count → regular_link known count ≡ true
  is_changing is changing =
      by_changing is
      ∙ simp (
        changing.change_runs,
        changing.still.no_t3,
        eq-eqb _ _ changing.still.no_code,
        le-leb _ _ changing.sent_queued,
      )

-- a case for each state
pub by_state : {P : Type 0} (state : ℕ) → (state ≡ 0 → P) → (state ≡ 1 → P) → (state ≡ 2 → P) → (2 < state → P) → P
by_state state out waiting opened changing =
    cases (eqb state 0) (λ e. out (eqb-true _ _ e))
    (λ e0.
    cases (eqb state 1) (λ e. waiting (eqb-true _ _ e))
    (λ e1.
    cases (eqb state 2) (λ e. opened (eqb-true _ _ e))
    (λ e2. changing (omega (arith, eqb-false state 0 e0, eqb-false state 1 e1, eqb-false state 2 e2)))))

-- a queue that grows leaves its link regular, and so does an out link's that stays
pub grown : (known : LinkRecord) (count more : ℕ) → count ≤ more → (known.state ≡ 0 → more ≡ count)
    → regular_link known count ≡ true → regular_link known more ≡ true
grown known count more grows stays e =
    by_state known.state
    (λ is. ap (regular_link known) (stays is) ∙ e)
    (λ is. is_waiting known more is (waiting_is known count is e))
    (λ is.
    let opened = open_is known count is e in
    is_open known more is
    (record { no_change = opened.no_change; still = opened.still; sent_queued = omega (arith, opened.sent_queued) }))
    (λ is.
    let changing = changing_is known count is e in
    is_changing known more is
    (record { change_runs = changing.change_runs; still = changing.still; sent_queued = omega (arith, changing.sent_queued) }))
