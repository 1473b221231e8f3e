-- The failure of a link, its coming into service, an acknowledgement, and the expiry of timers: what goes is gone, what is made is held.
-- Assumes nothing.
use mathlib.Core.Path.{◌≡◌}
use mathlib.Core.Bool.{Bool, false, not, ◌||◌}
use mathlib.Core.List.{List, []}
use Prim.Native.Nat.{ℕ, ◌<◌}
use native.Mathlib.Omega.{arith}
use lib.Dec.{eqb, leb}
use lib.ListN.{length}
use borrow.Author.Tests.{ltb-true, ltb-false}
use Rattle.plan.specs.declared.data.Plan.{Plan}
use Rattle.plan.specs.Find.{place_of}
use Rattle.plan.proofs.Split.{both_false}
use Rattle.area_flags.specs.Flags.{with_flag}
use Rattle.area_links.specs.LinkRecords.{record_at, with_record}
use Rattle.queue_rings.specs.Ring.{count_of}
use Rattle.queue_store.specs.Sound.{tally}
use Rattle.reports.specs.Report.{short, room}
use Rattle.wire_messages.specs.declared.management.Message.TheVariants.{CBD}
use Rattle.wire_messages.specs.Management.{heading_of}
use Rattle.replies.specs.Reply.{first, done}
use Rattle.replies.specs.Areas.{Areas, areas, Outcome}
use Rattle.lookup.specs.Lookup.{is_link, slc_of, adjacent_of}
use Rattle.route_access.specs.Change.{is_accessible}
use Rattle.queue_heads.specs.Head.{Queues, both}
use Rattle.queue_retiring.specs.Leave.{State, state, retired}
use Rattle.numbers.specs.Numbers.{up_to}
use Rattle.management_making.specs.Make.{Held, held_in, with_held, with_made, makes_reply}
use Rattle.changeover_cuts.specs.Cuts.{cut_none}
use Rattle.changeover_ending.specs.End.{out_of_service}
use Rattle.changeover_failure.specs.Failure.{state_at, order_of, changing}
use Rattle.changeover.specs.Fail.{timer_of, open_failed, failed}
use Rattle.changeover_failure.specs.Failure as Failure
use Rattle.changeover_failure.specs.Overdue as Overdue
use Rattle.changeover_overdue.specs.Expire as Change
use Rattle.changeback_pairs.specs.declared.Sources.{Sources}
use Rattle.changeback_service.specs.InService.{declares, sources_in, links_in}
use Rattle.changeback.specs.Service.{declared, resumed, into_service}
use Rattle.changeback.specs.Service as Service
use Rattle.constants.specs.Constants.{t6}
use Rattle.rerouting.specs.Timer.{reply_t6, expired_t6, expired_t10}
use Rattle.rerouting_expiry.specs.Expiry.{reply_t10, test_of}
use Rattle.rerouting_expiry.specs.Expiry as Expiry
use Rattle.acknowledging.specs.Acknowledge.{out_of_range, link_open}
use Rattle.acknowledging.specs.Acknowledge as Acknowledge
use Rattle.acknowledging.proofs.Window.{retired_and_left}
use Rattle.promise_runs.proofs.Outcomes.{RegularIn, by_test, if_both_done, rows_passed, link_within}
use Rattle.promise_ledger.specs.Reported.{reports_in, drops_of}
use Rattle.promise_ledger.proofs.FreeKinds.{kinds_retired}
use Rattle.promise_ledger.proofs.Gone.{retired_even}
use Rattle.promise_ledger.proofs.Moving.{released_even}
use Rattle.promise_accounts.specs.Gone.{up_to_b}
use Rattle.promise_accounts.proofs.Even.{Even, even_none, even_links, EvenBy, untold, undropped, unjudged_even}
use Rattle.promise_accounts.proofs.EvenMaking.{made_even, joined, joined_even}
use Rattle.promise_accounts.proofs.EvenEnding.{sent_queued, ending_even}
use Rattle.promise_accounts.proofs.EvenReceiving.{no_drop}

module _ (test : ℕ → Bool) (a : Areas) (octets : List ℕ) (regular : RegularIn a octets) (long : length a.arrivals ≡ 1)
    (plan : Plan) where
  module _ (link : ℕ) where
    -- an open link fails: its COO is held
    open_fails : EvenBy test a (open_failed plan a link) []
    unfolding open_failed
    open_fails =
        let b : Areas = with_made plan (order_of plan a.links link) a in
        let links = with_record a.links link (changing (record_at a.links link) (timer_of plan a link)) in
        untold test a 0 _ (even_links test a b 0 (made_even a octets regular test long plan (order_of plan a.links link)) links)

    -- the failure of a link
    pub failure_even : EvenBy test a (failed plan a link) []
    unfolding failed Failure.reply_of
    failure_even =
        unjudged_even test a long (Failure.reply_of plan a.links link a.reports) _
        (λ done.
        let waits = eqb (state_at a.links link) 1 in
        let opened = eqb (state_at a.links link) 2 in
        let passed = rows_passed (leb 32 link || short a.reports) (not (is_link plan link)) (not (opened || waits)) [] done in
        by_test (λ (o : Outcome). EvenBy test a o []) waits (out_of_service plan a link cut_none) (open_failed plan a link)
        (λ e.
        ending_even test a octets regular long plan link (link_within link (short a.reports) passed.0)
        (both_false (leb 32 link) (short a.reports) passed.0).1
        cut_none
        (omega arith))
        (λ e. open_fails))

    -- T1, or T2, expires
    pub change_ends_even : (timer : ℕ) → EvenBy test a (Change.expired plan a link timer) []
    unfolding Change.expired Overdue.reply_of
    change_ends_even timer =
        let known = record_at a.links link in
        let odd = not (eqb timer 1 || eqb timer 2) in
        unjudged_even test a long (Overdue.reply_of plan a.links link timer a.reports) _
        (λ done.
        let passed = rows_passed (leb 32 link || (odd || short a.reports)) (not (is_link plan link)) (not (eqb known.timer timer)) [] done in
        let within = link_within link (odd || short a.reports) passed.0 in
        ending_even test a octets regular long plan link within
        (both_false odd (short a.reports) (both_false (leb 32 link) (odd || short a.reports) passed.0).1).1
        cut_none
        (omega arith))

    -- a link comes into service: its CBD is held
    abbrev from : Sources
    from = sources_in plan a.links a.marks link

    declared_even : Even test a (with_held a (declared plan link from (held_in a))) 0
    unfolding declared
    declared_even =
        by_test (λ (now : Held). Even test a (with_held a now) 0) (declares from)
        (joined a octets regular from.own (heading_of (CBD from.own)) (adjacent_of plan link) (slc_of plan link) from.own)
        (held_in a)
        (λ e.
        let h = ltb-true from.own 32 e in
        joined_even a octets regular test long from.own (omega arith) (heading_of (CBD from.own)) (adjacent_of plan link) (slc_of plan link) from.own)
        (λ e. even_none test a long)

    pub service_even : EvenBy test a (into_service plan a link) []
    unfolding into_service resumed
    service_even =
        unjudged_even test a long (Service.reply_of plan a link) _
        (λ done.
        undropped test a _ _ (record { one = declared_even.one; even = declared_even.even; apart = declared_even.apart })
        (no_drop test a octets regular long plan (is_accessible plan a.links a.marks)
        (is_accessible plan (links_in plan a.links a.marks link) a.marks)))

  -- T6 expires: those held apart that have no route are dropped
  pub t6_even : (x : ℕ) → EvenBy test a (expired_t6 plan a x) []
  unfolding expired_t6 reply_t6 Expiry.reply_of first tally reports_in drops_of
  t6_even x =
      let marks = with_flag a.marks (place_of plan x) t6 false in
      unjudged_even test a long (reply_t6 plan a.marks x a.reports) _
      (λ done.
      let wide : short a.reports ≡ false =
      by_test (λ (n : ℕ). n ≡ 0 → short a.reports ≡ false) (short a.reports) 1 (Expiry.reply_of plan a.marks x t6)
      (λ e none. absurd (omega arith))
      (λ e none. e)
      done
      in
      let now : State = state a.spans a.rings a.reports 0 in
      let moves =
      released_even test a.rows octets plan a.links marks x now
      (record { sound = regular.store; spare = omega (arith, regular.store.short 32, ltb-false (room a.reports) 512 wide) })
      in
      record { one = long; even = omega (arith, moves.even); apart = moves.kinds })

  -- T10 expires: its RST is held
  pub t10_even : (x set : ℕ) → EvenBy test a (expired_t10 plan a x set) []
  unfolding expired_t10
  t10_even x set =
      let draft = test_of plan x set in
      unjudged_even test a long (reply_t10 plan a.marks x set) _
      (λ done.
      unjudged_even test a long (makes_reply plan draft a) _
      (λ made. untold test a 0 (with_made plan draft a) (made_even a octets regular test long plan draft)))

  -- one that is done is of a link that there is
  within : (link b : ℕ) → Acknowledge.reply_of plan a.links link b ≡ 0 → link < 32
  unfolding Acknowledge.reply_of
  within link b done =
      let passed = rows_passed (out_of_range link b) (not (is_link plan link)) (not (link_open a.links link)) _ done in
      link_within link (leb 128 b) passed.0

  -- an acknowledgement: "Messages up to B are retired"
  pub acknowledged_even : (link b : ℕ)
      → Even test a
      (areas (Acknowledge.links_after plan a.links link b) a.marks
      (Acknowledge.queues_after plan a.links (both a.spans a.rings) link b).spans
      (Acknowledge.queues_after plan a.links (both a.spans a.rings) link b).rings
      a.rows
      a.arrivals
      a.reports)
      (tally test (up_to_b plan a link b))
  unfolding Acknowledge.queues_after up_to_b tally
  acknowledged_even link b =
      let known = record_at a.links link in
      let links = Acknowledge.links_after plan a.links link b in
      if_both_done
      (λ (q : Queues) (gone : List ℕ).
      Even test a (areas links a.marks q.spans q.rings a.rows a.arrivals a.reports) (tally test gone))
      (Acknowledge.reply_of plan a.links link b)
      (retired link (up_to known b) (both a.spans a.rings))
      (both a.spans a.rings)
      _
      []
      (λ done.
      let h = within link b done in
      let left = retired_and_left plan a.links link b done in
      let fits = sent_queued known (count_of a.spans link) (regular.each_link link h) in
      record {
        one = long;
        even =
            omega (
              arith,
              retired_even test a.rows octets link (omega (arith, h)) (up_to known b) (both a.spans a.rings) regular.store
                  (omega (arith, left, fits)),
            );
        apart = kinds_retired a.rows octets link (omega (arith, h)) (up_to known b) (both a.spans a.rings) regular.store;
      })
      (record { one = long; even = omega arith; apart = λ kinds. kinds })
