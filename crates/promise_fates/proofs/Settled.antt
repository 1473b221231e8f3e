-- A call settles what becomes of each message that stood in a queue: it is held, dropped, acknowledged or retired, one of these, once; over any run of
-- calls from any configuration. Assumes nothing.
use mathlib.Core.Path.{◌≡◌}
use mathlib.Core.List.{List, ◌++◌}
use Prim.Native.Nat.{ℕ, ◌+◌, ◌/◌, ◌≤◌, ◌<◌}
use native.Mathlib.Omega.{arith}
use lib.ListN.{length}
use borrow.Author.Tests.{le-ltb}
use Rattle.plan.specs.declared.data.Plan.{Plan}
use Rattle.plan.proofs.Split.{split}
use Rattle.reports.specs.Report.{Log, room, told}
use Rattle.queue_rings.specs.Ring.{count_of}
use Rattle.queue_store.specs.Sound.{tally, is}
use Rattle.queue_store.proofs.Sums.{sum_part}
use Rattle.replies.specs.Areas.{Areas}
use Rattle.queue_heads.specs.Head.{both}
use Rattle.queue_joining.specs.Queue.{next_of}
use Rattle.plan_configuration.specs.Configure.{configured}
use Rattle.plan_configuration.proofs.Made.{configured_sound}
use Rattle.node.specs.View.{view_of}
use Rattle.node.specs.Memory.{Memory, Result}
use Rattle.promise_runs.specs.Run.{Call, lent, ran, fresh, Whole}
use Rattle.promise_runs.proofs.KeepsCalls.{RegularAt, call_regular}
use Rattle.promise_runs.proofs.Reached.{configured_regular, fresh_regular}
use Rattle.promise_ledger.specs.Held.{numbers, held_of}
use Rattle.promise_ledger.specs.Reported.{reports_in, drops_of}
use Rattle.promise_ledger.proofs.Told.{told_room, told_count}
use Rattle.promise_accounts.specs.Gone.{queue_of, acknowledged_by, retired_by, dropped_by, nothing_gone, gone_in}
use Rattle.promise_accounts.proofs.OnePlace.{tally_on, given_once, given_none, Accounted, run_accounted, fresh_accounted}
use Rattle.promise_accounts.proofs.Even.{Even}
use Rattle.promise_accounts.proofs.EvenCalls.{call_even}
use Rattle.promise_reports.proofs.Writes.{call_kept}
use Rattle.promise_contents.specs.Given.{Gains, gives}
use Rattle.promise_contents.specs.Made.{new_of}
use Rattle.promise_contents.proofs.GivenCalls.{call_gains}
use Rattle.promise_farend.specs.History.{result_of}

-- how often a number is held
abbrev pub all_of : Areas → ℕ → ℕ
all_of a number = held_of (is number) a.rows (both a.spans a.rings)

-- what stands in one of the queues is held
pub queue_part : (a : Areas) (queue number : ℕ) → queue < 33 → tally (is number) (queue_of a queue) ≤ all_of a number
unfolding held_of
queue_part a queue number below = sum_part (λ ring. tally (is number) (numbers a.rows (both a.spans a.rings) ring)) 33 queue below

-- from one to the next, with so many reports, these have gone
pub record Settled (a b : Areas) (count : ℕ) (gone : List ℕ) : Type 0 where
  pub short_before : (ring : ℕ) → count_of a.spans ring ≤ 256
  pub short_after : (ring : ℕ) → count_of b.spans ring ≤ 256
  pub within : count ≤ length b.reports / 2
  pub once_before : (number : ℕ) → all_of a number ≤ 1
  pub once_after : (number : ℕ) → all_of b number ≤ 1
  -- no number is held from the next on
  pub named : (number : ℕ) → 1 ≤ all_of a number → number < next_of a.arrivals
  -- each that was held is held, gone or dropped
  pub settled : (number : ℕ) → 1 ≤ all_of a number
      → all_of b number + (tally (is number) gone + tally (is number) (drops_of (reports_in b.reports count))) ≡ 1
  pub none_later : (number : ℕ) → next_of b.arrivals ≤ number → all_of b number ≡ 0

-- a record more is within the area
more_within : (written : Log) (kind number : ℕ) → written.count ≤ room written.area
    → (told written kind number).count ≤ room (told written kind number).area
unfolding told
more_within written kind number h =
    split written.count (room written.area)
    (λ free. omega (arith, told_room written kind number, told_count written kind number free))
    (λ full. omega (arith, told_room written kind number, unfree full))
  where
    unfree : room written.area ≤ written.count → (told written kind number).count ≡ written.count
    unfree full = simp (le-ltb written.count (room written.area) full)

module _ (m : Memory) (whole : Whole m) (one : length m.areas.arrivals ≡ 1) (text : List ℕ) (calls : List Call) (call : Call) where
  abbrev plan : Plan
  plan = (configured text).plan

  abbrev before : Memory
  before = ran plan calls (fresh m)

  abbrev now : Memory
  now = lent call before

  abbrev r : Result
  r = result_of plan call before

  abbrev a : Areas
  a = now.areas

  abbrev b : Areas
  b = r.after.areas

  regular : RegularAt now
  regular = configured_regular text m whole calls

  pub accounted : Accounted before (gone_in plan calls (fresh m) nothing_gone)
  accounted = run_accounted plan (configured_sound text) calls (fresh m) nothing_gone (fresh_regular m whole) (fresh_accounted m whole one)

  -- the call gives the next number, or none
  pub gains : Gains (new_of plan call.event call.message a) (gives plan call.event call.message a) a b
  gains = call_gains plan call.message now regular accounted.apart accounted.one call.event

  abbrev gone : List ℕ
  gone = acknowledged_by plan a (view_of call.event) ++ retired_by plan a call.message (view_of call.event)

  even : (number : ℕ) → Even (is number) a b
      (tally (is number) (acknowledged_by plan a (view_of call.event))
      + (tally (is number) (retired_by plan a call.message (view_of call.event)) + tally (is number) (dropped_by r)))
  even number = call_even (is number) plan call.message now regular accounted.one accounted.apart call.event

  parts : (number : ℕ)
      → tally (is number) gone
      ≡ tally (is number) (acknowledged_by plan a (view_of call.event))
      + tally (is number) (retired_by plan a call.message (view_of call.event))
  parts number = tally_on (is number) (acknowledged_by plan a (view_of call.event)) (retired_by plan a call.message (view_of call.event))

  pub call_settles : Settled a b r.answer.reports gone
  call_settles =
      let after = call_regular plan (configured_sound text) call.message now regular call.event in
      let next = next_of a.arrivals in
      let last = next_of b.arrivals in
      let onward : next ≤ last = omega (arith, gains.0) in
      record {
        short_before = regular.store.short;
        short_after = after.store.short;
        within = call_kept (λ (written : Log). written.count ≤ room written.area) more_within plan call.message now (omega arith) call.event;
        once_before =
            λ number.
            split number next
            (λ below. omega (arith, accounted.places (is number), given_once number next below))
            (λ above. omega (arith, accounted.places (is number), given_none number next above));
        once_after =
            λ number.
            split number next
            (λ below.
            let later = given_once number last (omega (arith, onward, below)) in
            omega (arith, accounted.places (is number), (even number).even, given_once number next below, later))
            (λ above.
            split number last
            (λ low. omega (arith, accounted.places (is number), (even number).even, given_none number next above, given_once number last low))
            (λ high. omega (arith, accounted.places (is number), (even number).even, given_none number next above, given_none number last high)));
        named =
            λ number held.
            split number next
            (λ below. below)
            (λ above. absurd (omega (arith, accounted.places (is number), given_none number next above)));
        settled =
            λ number held.
            split number next
            (λ below.
            omega (
              arith,
              accounted.places (is number),
              (even number).even,
              parts number,
              given_once number next below,
              given_once number last (omega (arith, onward, below)),
            ))
            (λ above. absurd (omega (arith, accounted.places (is number), given_none number next above)));
        none_later =
            λ number high.
            omega (
              arith,
              accounted.places (is number),
              (even number).even,
              given_none number next (omega (arith, onward, high)),
              given_none number last high,
            );
      }
