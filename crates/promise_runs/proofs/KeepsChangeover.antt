-- The failure of a link, and the expiry of T1 or T2, leave a regular state regular.
-- Assumes nothing.
use mathlib.Core.Path.{◌≡◌, refl, sym, ap, ◌∙◌}
use mathlib.Core.Bool.{Bool, true, not, ◌||◌, or-false}
use mathlib.Core.List.{List, []}
use Prim.Native.Nat.{ℕ, ◌<◌}
use native.Mathlib.Omega.{arith}
use lib.Dec.{eqb, leb}
use borrow.Author.Tests.{eqb-true, not-false}
use Rattle.plan.specs.declared.data.Plan.{Plan}
use Rattle.area_links.specs.declared.LinkRecord.{LinkRecord}
use Rattle.area_links.specs.LinkRecords.{record_at}
use Rattle.queue_rings.specs.Ring.{count_of}
use Rattle.replies.specs.Areas.{Areas, Outcome}
use Rattle.reports.specs.Report.{short}
use Rattle.lookup.specs.Lookup.{is_link}
use Rattle.management_making.specs.Make.{is_made, with_made}
use Rattle.changeover_cuts.specs.Cuts.{cut_none}
use Rattle.changeover_ending.specs.End.{out_of_service}
use Rattle.changeover_failure.specs.Failure.{state_at, reply_of, order_of, changing}
use Rattle.changeover.specs.Fail.{timer_of, open_failed, failed}
use Rattle.changeover_failure.specs.Overdue as Overdue
use Rattle.changeover_overdue.specs.Expire as Timer
use Rattle.promise_runs.proofs.ByState.{open_is, is_changing, changes}
use Rattle.promise_runs.proofs.Records.{record_rewritten}
use Rattle.promise_runs.proofs.Keeping.{loaded_in_range, relinked}
use Rattle.promise_runs.proofs.Outcomes.{RegularIn, by_test, if_judged, rows_passed, link_within}
use Rattle.promise_runs.proofs.KeepsEnding.{out_regular}
use Rattle.promise_runs.proofs.KeepsMaking.{made_regular}

module _ (a : Areas) (octets : List ℕ) (regular : RegularIn a octets) (plan : Plan) (link : ℕ) where
  abbrev known : LinkRecord
  known = record_at a.links link

  -- T1 or T2 starts
  one_starts : (changes (changing known (timer_of plan a link)) ≡ true) × (timer_of plan a link < 4)
  unfolding timer_of
  one_starts =
      by_test (λ (t : ℕ). (changes (changing known t) ≡ true) × (t < 4))
      (is_made plan a.links a.marks a.spans a.arrivals (order_of plan a.links link))
      2
      1
      (λ e. (refl, omega arith))
      (λ e. (refl, omega arith))

  -- an open link that fails is changing
  open_fails : known.state ≡ 2 → RegularIn (open_failed plan a link).after octets
  unfolding open_failed
  open_fails is =
      let b : Areas = with_made plan (order_of plan a.links link) a in
      let made = made_regular a octets regular plan (order_of plan a.links link) in
      let starts = one_starts in
      relinked a.links b.spans b.rings b.rows octets made (record_rewritten a.links link (changing known (timer_of plan a link)))
      (record {
        state_low = omega arith;
        sent_low = (loaded_in_range a.links link).sent_low;
        timer_low = starts.1;
        code_low = omega arith;
      })
      (λ h.
      is_changing (changing known (timer_of plan a link)) (count_of b.spans link) (omega arith)
      (record {
        change_runs = starts.0;
        still = record { no_t3 = refl; no_code = refl };
        sent_queued = (open_is known (count_of b.spans link) is (made.each_link link h)).sent_queued;
      }))

  -- a link fails
  pub failure_regular : RegularIn (failed plan a link).after octets
  unfolding failed reply_of
  failure_regular =
      if_judged octets (reply_of plan a.links link a.reports) _ a regular
      (λ done.
      let waits = eqb (state_at a.links link) 1 in
      let opened = eqb (state_at a.links link) 2 in
      let passed = rows_passed (leb 32 link || short a.reports) (not (is_link plan link)) (not (opened || waits)) [] done in
      by_test (λ (o : Outcome). RegularIn o.after octets) waits (out_of_service plan a link cut_none) (open_failed plan a link)
      (λ e. out_regular a octets regular plan link (link_within link (short a.reports) passed.0) cut_none)
      (λ e.
      let is : opened ≡ true = sym (or-false opened) ∙ ap (λ (t : Bool). opened || t) (sym e) ∙ not-false (opened || waits) passed.2 in
      open_fails (eqb-true (state_at a.links link) 2 is)))

  -- T1, or T2, expires
  pub change_ends_regular : (timer : ℕ) → RegularIn (Timer.expired plan a link timer).after octets
  unfolding Timer.expired Overdue.reply_of
  change_ends_regular timer =
      let other = not (eqb timer 1 || eqb timer 2) || short a.reports in
      if_judged octets (Overdue.reply_of plan a.links link timer a.reports) _ a regular
      (λ done.
      let passed = rows_passed (leb 32 link || other) (not (is_link plan link)) (not (eqb known.timer timer)) [] done in
      out_regular a octets regular plan link (link_within link other passed.0) cut_none)
