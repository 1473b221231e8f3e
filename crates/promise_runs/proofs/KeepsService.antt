-- A link that comes into service leaves a regular state regular, by a sound plan: T3 and T4 never both start, and its CBD is put at
-- the end of a carrying link's queue.
-- Assumes nothing.
use mathlib.Core.Path.{◌≡◌, refl}
use mathlib.Core.Bool.{true, false, not, ◌&&◌, ◌||◌}
use mathlib.Core.List.{List, []}
use Prim.Native.Nat.{ℕ, zero, suc, ◌+◌, ◌*◌, ◌/◌, ◌%◌, ◌<◌}
use native.Mathlib.Omega.{arith}
use lib.Dec.{eqb, ltb, leb}
use borrow.Author.Tests.{lt-ltb, eqb-true, ltb-true, not-false}
use borrow.Table.Steps.{cases}
use Rattle.plan.specs.declared.data.Plan.{Plan}
use Rattle.plan.specs.Find.{given}
use Rattle.plan.specs.Sound as Plan
use Rattle.area_links.specs.LinkRecords.{record_at, with_record}
use Rattle.queue_rings.specs.Ring.{count_of}
use Rattle.wire_messages.specs.declared.management.Message.TheVariants.{CBD}
use Rattle.wire_messages.specs.Management.{heading_of}
use Rattle.replies.specs.Areas.{Areas}
use Rattle.reports.specs.Report.{short}
use Rattle.route_choice.specs.Which.{none}
use Rattle.route_ways.specs.Way.{for_users, current_link}
use Rattle.lookup.specs.Lookup.{is_link, set_of, slc_of, adjacent_of}
use Rattle.queue_heads.specs.Head.{both}
use Rattle.queue_joining.specs.Queue.{management_queues, rows_with_management, management_arrivals}
use Rattle.management_making.specs.Make.{Held, held_in}
use Rattle.changeback_pairs.specs.declared.Sources.{Sources}
use Rattle.changeback_pairs.specs.Pairs.{sources, came_from, with_source, sources_from, sources_of}
use Rattle.changeback_service.specs.InService.{in_service_record, declares, comes_as, sources_in, links_in, reply_first}
use Rattle.changeback.specs.Service.{declare_reply, reply_of, declared, into_service}
use Rattle.changeback_service.proofs.OneSource.{never_both}
use Rattle.promise_runs.specs.Regular.{regular_link, Regular}
use Rattle.promise_runs.proofs.ByState.{is_waiting, is_open}
use Rattle.promise_runs.proofs.Carrying.{link_carries}
use Rattle.promise_runs.proofs.Growing.{Goes}
use Rattle.promise_runs.proofs.Records.{record_rewritten}
use Rattle.promise_runs.proofs.Keeping.{InRange, relinked}
use Rattle.promise_runs.proofs.Outcomes.{RegularIn, by_test, if_judged, rows_passed, link_within}
use Rattle.promise_runs.proofs.KeepsMaking.{management_regular}

-- the record of a link that comes in: it waits for one timer, or is open
module _ (from : Sources) where
  pub comes_in_range : InRange (comes_as from)
  comes_in_range = record {
    state_low = by_test (λ (n : ℕ). n < 4) (declares from || from.other) 1 2 (λ e. omega arith) (λ e. omega arith);
    sent_low = omega arith;
    timer_low = omega arith;
    code_low =
        by_test (λ (n : ℕ). n < 64) (declares from) (from.own + 1) 0
        (λ e. omega (arith, ltb-true from.own none e))
        (λ e. omega arith);
  }

  pub comes_regular : (declares from ≡ true → from.other ≡ false) → (count : ℕ) → regular_link (comes_as from) count ≡ true
  comes_regular never count =
      cases (declares from)
      (λ sends.
      let alone = never sends in
      is_waiting (comes_as from) count (simp sends)
      (record { no_change = refl; none_sent = refl; one_runs = simp (alone, sends) (lt-ltb 0 (from.own + 1) (omega arith)) }))
      (λ none_sent.
      cases from.other
      (λ e.
      is_waiting (comes_as from) count (simp (none_sent, e))
      (record { no_change = refl; none_sent = refl; one_runs = simp (e, none_sent) }))
      (λ e.
      is_open (comes_as from) count (simp (none_sent, e))
      (record { no_change = refl; still = record { no_t3 = e; no_code = simp none_sent }; sent_queued = omega arith })))

-- the link that gets the CBD carries
module _ (plan : Plan) (before after marks : List ℕ) (link : ℕ) where
  abbrev Carries : ℕ → Type 0
  Carries from = from < none → (record_at before from).state ≡ 0 → ⊥

  came_carries : (destination sls : ℕ) → Carries (came_from plan before after marks link destination sls)
  unfolding came_from
  came_carries destination sls =
      let from = current_link plan before marks destination sls in
      by_test Carries (eqb (current_link plan after marks destination sls) link && not (eqb from link)) from none
      (λ e. link_carries plan before marks for_users destination sls)
      (λ e h. absurd (omega arith))

  more_carries : (from : ℕ) → Carries from → (known : Sources) → Carries known.own
      → Carries (with_source plan link from known).own
  unfolding with_source
  more_carries from here known there =
      by_test (λ (s : Sources). Carries s.own) (ltb from none) _ known
      (λ e.
      by_test (λ (s : Sources). Carries s.own) (eqb (set_of plan from) (set_of plan link)) _ (sources known.own true)
      (λ e. by_test Carries (ltb known.own none) known.own from (λ e. there) (λ e. here))
      (λ e. there))
      (λ e. there)

  all_carry : (pair more : ℕ) (known : Sources) → Carries known.own
      → Carries (sources_from plan before after marks link pair more known).own
  unfolding sources_from
  all_carry pair zero known there = there
  all_carry pair (suc more) known there =
      let from = came_from plan before after marks link (pair / 16) (pair % 16) in
      all_carry (pair + 1) more (with_source plan link from known)
      (more_carries from (came_carries (pair / 16) (pair % 16)) known there)

  own_carries : Carries (sources_of plan before after marks link).own
  own_carries = all_carry 0 (16 * given plan) (sources none false) (λ h. absurd (omega arith))

module _ (plan : Plan) (sound : Plan.Sound plan) (a : Areas) (octets : List ℕ) (regular : RegularIn a octets) (link : ℕ) where
  abbrev from : Sources
  from = sources_in plan a.links a.marks link

  pub own_goes : declares from ≡ true → Goes a.links from.own
  unfolding sources_in
  own_goes e =
      let h = ltb-true from.own none e in
      record {
        there = omega arith;
        not_out = own_carries plan a.links (with_record a.links link (in_service_record 2 false 0)) a.marks link;
      }

  -- the CBD is queued
  abbrev now : Held
  now = declared plan link from (held_in a)

  declared_regular : Regular a.links now.queues.spans now.queues.rings now.rows octets
  unfolding declared
  declared_regular =
      by_test (λ (held : Held). Regular a.links held.queues.spans held.queues.rings held.rows octets) (declares from)
      (record {
        queues = management_queues (both a.spans a.rings) a.arrivals from.own;
        rows =
            rows_with_management (both a.spans a.rings) a.arrivals a.rows (heading_of (CBD from.own)) (adjacent_of plan link)
            (slc_of plan link)
            from.own;
        arrivals = management_arrivals a.spans a.arrivals;
      })
      (held_in a)
      (λ e. management_regular a octets regular from.own (own_goes e) (heading_of (CBD from.own)) (adjacent_of plan link) (slc_of plan link) from.own)
      (λ e. regular)

  -- where the reply is 0 the link was out
  pub was_out : reply_first plan a.links link a.reports ≡ 0 → (link < 32) × ((record_at a.links link).state ≡ 0)
  unfolding reply_first
  was_out done =
      let out = eqb (record_at a.links link).state 0 in
      let passed = rows_passed (leb 32 link || short a.reports) (not (is_link plan link)) (not out) [] done in
      (link_within link (short a.reports) passed.0, eqb-true (record_at a.links link).state 0 (not-false out passed.2))

  pub first_done : reply_of plan a link ≡ 0 → reply_first plan a.links link a.reports ≡ 0
  unfolding reply_of
  first_done =
      let first = reply_first plan a.links link a.reports in
      by_test (λ (n : ℕ). n ≡ 0 → first ≡ 0) (eqb first 0) (declare_reply a.spans a.arrivals from) first
      (λ e done. eqb-true first 0 e)
      (λ e done. done)

  pub service_regular : RegularIn (into_service plan a link).after octets
  unfolding into_service links_in
  service_regular =
      if_judged octets (reply_of plan a link) _ a regular
      (λ done.
      let is = was_out (first_done done) in
      relinked a.links now.queues.spans now.queues.rings now.rows octets declared_regular
      (record_rewritten a.links link (comes_as from))
      (comes_in_range from)
      (λ h.
      comes_regular from (never_both plan sound a.links a.marks link regular.links_long h is.1)
      (count_of now.queues.spans link)))
