-- The expiry of T3 or T4 case by case: each row of its table, and the links after it.
-- Assumes nothing.
use borrow.Author.Tests.{le-leb, lt-leb, eq-eqb, ne_eqb, eqb-false}
use borrow.Table.Steps.{cases}
use lib.Dec.{leb, eqb}
use mathlib.Core.Bool.{Bool, true, false, cond, not, ◌||◌}
use mathlib.Core.List.{List, [], ◌∷◌}
use mathlib.Core.Path.{◌≡◌, refl, sym, ap, ◌∙◌}
use native.Mathlib.Omega.{arith}
use Prim.Native.Nat.{ℕ, ◌≤◌, ◌<◌}
use Rattle.plan.specs.declared.data.Plan.{Plan}
use Rattle.replies.specs.Reply.{row, first}
use Rattle.replies.proofs.Rows.{applies, passes}
use Rattle.lookup.specs.Lookup.{is_link}
use Rattle.area_links.specs.declared.LinkRecord.{LinkRecord}
use Rattle.area_links.specs.LinkRecords.{record_at, with_record}
use Rattle.changeback_opening.specs.Opening.{runs, stopped}
use Rattle.changeback_waiting.specs.Wait.{reply_of, expired}

-- the last row: whether the timer runs
last_row : (running : Bool) → first (row 5 (not running) ∷ []) ≡ cond running 0 5
unfolding first
last_row true = refl
last_row false = refl

module _ (plan : Plan) (links : List ℕ) (link timer : ℕ) where
  -- "out of range", of the link and of the timer
  abbrev no_timer_lem : Bool
  no_timer_lem = leb 32 link || not (eqb timer 3 || eqb timer 4)

  pub past_the_last_link : 32 ≤ link → 1 ≡ reply_of plan links link timer
  unfolding reply_of
  past_the_last_link past =
      let here : no_timer_lem ≡ true = simp (le-leb 32 link past) in sym (applies 1 no_timer_lem _ here)

  pub another_timer : (timer ≡ 3 → ⊥) → (timer ≡ 4 → ⊥) → 1 ≡ reply_of plan links link timer
  unfolding reply_of
  another_timer not-t3 not-t4 =
      let t3 = ne_eqb timer 3 not-t3 in
      let t4 = ne_eqb timer 4 not-t4 in
      let here : no_timer_lem ≡ true = cases (leb 32 link) (λ e. simp e) (λ e. simp (e, t3, t4)) in
      sym (applies 1 no_timer_lem _ here)

  module _ (within : link < 32) (low : 3 ≤ timer) (high : timer ≤ 4) where
    is_in_range : no_timer_lem ≡ false
    is_in_range =
        let here = lt-leb 32 link within in
        cases (eqb timer 3) (λ e. simp (here, e))
        (λ e. simp (here, e, eq-eqb timer 4 (omega (arith, eqb-false timer 3 e))))

    pub no_such_link : is_link plan link ≡ false → 2 ≡ reply_of plan links link timer
    unfolding reply_of
    no_such_link none =
        sym (passes 1 no_timer_lem _ is_in_range ∙ applies 2 (not (is_link plan link)) _ (ap not none))

    -- 0 where the timer runs, as the record says that was read
    pub by_running : (known : LinkRecord) (running : Bool)
        → is_link plan link ≡ true
        → known ≡ record_at links link
        → running ≡ runs known timer
        → cond running 0 5 ≡ reply_of plan links link timer
    unfolding reply_of
    by_running known running there loads tells =
        let here = tells ∙ ap (λ (l : LinkRecord). runs l timer) loads in
        ap (λ (t : Bool). cond t 0 5) here
        ∙ sym (passes 1 no_timer_lem _ is_in_range ∙ passes 2 (not (is_link plan link)) _ (ap not there) ∙ last_row (runs (record_at links link) timer))

  -- the links after it: as they were with another reply than 0
  abbrev after : Bool → List ℕ
  after does = cond does (with_record links link (stopped (record_at links link) timer)) links

  pub leaves_all : eqb (reply_of plan links link timer) 0 ≡ false → links ≡ expired plan links link timer
  unfolding expired
  leaves_all refuses = sym (ap after refuses)

  pub stops_one : (known new : LinkRecord) → reply_of plan links link timer ≡ 0 → known ≡ record_at links link → new ≡ stopped known timer
      → with_record links link new ≡ expired plan links link timer
  unfolding expired
  stops_one known new does loads stops =
      ap (with_record links link) (stops ∙ ap (λ (k : LinkRecord). stopped k timer) loads) ∙ sym (ap after (eq-eqb _ _ does))
