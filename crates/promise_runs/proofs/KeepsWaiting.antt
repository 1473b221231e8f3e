-- The expiry of T3 or T4, and an answer to a CBD, leave a regular state regular: the link opens, since no other of its timers runs.
-- Assumes nothing.
use mathlib.Core.Path.{◌≡◌, refl, sym, ◌∙◌}
use mathlib.Core.Bool.{Bool, true, false, not, ◌&&◌, ◌||◌, true≢false}
use mathlib.Core.List.{List, []}
use Prim.Native.Nat.{ℕ, ◌<◌}
use native.Mathlib.Omega.{arith}
use lib.Dec.{eqb, leb}
use borrow.Author.Tests.{lt-ltb, eq-eqb, eqb-true, ltb-true, not-false}
use borrow.Table.Steps.{cases}
use Rattle.plan.specs.declared.data.Plan.{Plan}
use Rattle.area_links.specs.declared.LinkRecord.{LinkRecord}
use Rattle.area_links.specs.LinkRecords.{record_at, with_record}
use Rattle.queue_rings.specs.Ring.{count_of}
use Rattle.lookup.specs.Lookup.{is_link, link_named}
use Rattle.changeback_opening.specs.Opening.{waits, runs, stopped}
use Rattle.changeback_waiting.specs.Wait.{reply_of, expired, answered}
use Rattle.changeback_opening.proofs.Opens.{opens_with_nothing_left}
use Rattle.promise_runs.specs.Regular.{regular_link, Regular}
use Rattle.promise_runs.proofs.ByState.{Still, by_state, out_is, waiting_is, open_is, changing_is, is_open}
use Rattle.promise_runs.proofs.Records.{record_rewritten}
use Rattle.promise_runs.proofs.Keeping.{InRange, loaded_in_range, relinked}
use Rattle.promise_runs.proofs.Outcomes.{by_test, if_done_lem, rows_passed}

module _ (known : LinkRecord) (count : ℕ) (regular : regular_link known count ≡ true) where
  -- only a waiting link has T3 or T4
  only_waiting : (Still known → ⊥) → known.state ≡ 1
  only_waiting not-still =
      by_state known.state
      (λ is. absurd (not-still (out_is known count is regular).still))
      (λ is. is)
      (λ is. absurd (not-still (open_is known count is regular).still))
      (λ is. absurd (not-still (changing_is known count is regular).still))

  -- a waiting link with neither is open
  opens : known.state ≡ 1 → (t3 : Bool) (code : ℕ) → t3 ≡ false → code ≡ 0 → regular_link (waits known t3 code) count ≡ true
  opens is t3 code no_t3 no_code =
      let waiting = waiting_is known count is regular in
      let done : (not t3 && eqb code 0) ≡ true = simp (no_t3, eq-eqb code 0 no_code) in
      is_open (waits known t3 code) count (eqb-true _ 2 (opens_with_nothing_left known t3 code is ∙ done))
      (record {
        no_change = waiting.no_change;
        still = record { no_t3 = no_t3; no_code = no_code };
        sent_queued = omega (arith, waiting.none_sent);
      })

  -- T3 ran, so no CBD is unanswered
  t3_stops : known.t3 ≡ true → regular_link (waits known false known.code) count ≡ true
  t3_stops runs =
      let is = only_waiting (λ still. true≢false (sym runs ∙ still.no_t3)) in
      let waiting = waiting_is known count is regular in
      opens is false known.code refl (eqb-true _ _ (simp runs at waiting.one_runs))

  -- a CBD was unanswered, so T3 didn't run
  t4_stops : 0 < known.code → regular_link (waits known known.t3 0) count ≡ true
  t4_stops some =
      let is = only_waiting (λ still. omega (arith, still.no_code)) in
      let waiting = waiting_is known count is regular in
      let no_t3 : known.t3 ≡ false =
      cases known.t3 (λ e. absurd (omega (arith, eqb-true known.code 0 (simp e at waiting.one_runs)))) (λ e. e)
      in
      opens is known.t3 0 no_t3 refl

  -- the timer that ran is stopped
  pub stopped_regular : (timer : ℕ) → runs known timer ≡ true → regular_link (stopped known timer) count ≡ true
  unfolding stopped
  stopped_regular timer running =
      by_test (λ (k : LinkRecord). regular_link k count ≡ true) (eqb timer 3) (waits known false known.code)
      (waits known known.t3 0)
      (λ e. t3_stops (simp e at running))
      (λ e. t4_stops (ltb-true 0 known.code (simp e at running)))

-- its numbers stay in range
waits_in_range : (known : LinkRecord) (t3 : Bool) (code : ℕ) → InRange known → code < 64 → InRange (waits known t3 code)
waits_in_range known t3 code low below =
    record {
      state_low =
          by_test (λ (n : ℕ). n < 4) (eqb known.state 1 && (not t3 && eqb code 0)) 2 known.state
          (λ e. omega arith)
          (λ e. low.state_low);
      sent_low = low.sent_low;
      timer_low = low.timer_low;
      code_low = below;
    }

stopped_in_range : (known : LinkRecord) (timer : ℕ) → InRange known → InRange (stopped known timer)
unfolding stopped
stopped_in_range known timer low =
    by_test InRange (eqb timer 3) (waits known false known.code) (waits known known.t3 0)
    (λ e. waits_in_range known false known.code low low.code_low)
    (λ e. waits_in_range known known.t3 0 low (omega arith))

module _ (links spans rings rows octets : List ℕ) (regular : Regular links spans rings rows octets) where
  stops : (link timer : ℕ) → (link < 32 → runs (record_at links link) timer ≡ true)
      → Regular (with_record links link (stopped (record_at links link) timer)) spans rings rows octets
  stops link timer running =
      relinked links spans rings rows octets regular (record_rewritten links link (stopped (record_at links link) timer))
      (stopped_in_range (record_at links link) timer (loaded_in_range links link))
      (λ h. stopped_regular (record_at links link) (count_of spans link) (regular.each_link link h) timer (running h))

  -- T3, or T4, expires
  pub expiry_regular : (plan : Plan) (link timer : ℕ) → Regular (expired plan links link timer) spans rings rows octets
  unfolding expired reply_of
  expiry_regular plan link timer =
      if_done_lem (λ (l : List ℕ). Regular l spans rings rows octets) (reply_of plan links link timer)
      (with_record links link (stopped (record_at links link) timer))
      links
      (λ done.
      let passed =
      rows_passed (leb 32 link || not (eqb timer 3 || eqb timer 4)) (not (is_link plan link)) (not (runs (record_at links link) timer)) []
      done
      in
      stops link timer (λ h. not-false (runs (record_at links link) timer) passed.2))
      regular

  -- a CBA answers
  pub answer_regular : (plan : Plan) (point slc : ℕ) → (0 < (record_at links (link_named plan point slc)).code)
      → Regular (answered plan links point slc) spans rings rows octets
  unfolding answered
  answer_regular plan point slc unanswered = stops (link_named plan point slc) 4 (λ h. lt-ltb 0 _ unanswered)
