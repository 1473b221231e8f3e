-- A link that goes out of service: of what was held the rest is held, what was retired is gone, and every other message that is gone is
-- told as a drop.
-- Assumes nothing.
use mathlib.Core.Path.{◌≡◌, refl, ap}
use mathlib.Core.Bool.{Bool, false}
use mathlib.Core.List.{List, []}
use Prim.Native.Nat.{ℕ, ◌+◌, ◌≤◌, ◌<◌}
use native.Mathlib.Omega.{arith}
use lib.Dec.{lit<}
use lib.ListN.{take}
use borrow.Author.Tests.{ltb-false}
use Rattle.plan.specs.declared.data.Plan.{Plan}
use Rattle.queue_rings.specs.Ring.{count_of}
use Rattle.queue_store.specs.Sound.{tally, Sound, Kinds}
use Rattle.reports.specs.Report.{room, short}
use Rattle.replies.specs.Areas.{Areas}
use Rattle.route_access.specs.Change.{is_accessible}
use Rattle.queue_heads.specs.Head.{both}
use Rattle.queue_retiring.specs.Leave.{State, state, retired, dropped}
use Rattle.changeover_cuts.specs.declared.Cut.{Cut}
use Rattle.changeover_ending.specs.End.{links_out, cleared, ended, out_of_service}
use Rattle.promise_runs.proofs.Leaving.{left_retired}
use Rattle.promise_ledger.specs.Held.{numbers, held_of}
use Rattle.promise_ledger.specs.Reported.{reports_in, reports_of, drops_of}
use Rattle.promise_ledger.proofs.FreeKinds.{Apart, kinds_retired}
use Rattle.promise_ledger.proofs.Told.{changes_even}
use Rattle.promise_ledger.proofs.Gone.{Ready, Even, retired_even, even_on, dropped_even}
use Rattle.promise_ledger.proofs.Moving.{moved_even}

module _ (test : ℕ → Bool) (rows octets : List ℕ) (link : ℕ) (h : link < 32) (parts : Cut) where
  abbrev within : link < 33
  within = omega arith

  -- the queue after the first are retired
  abbrev left : State → State
  left now = record { queues = retired link parts.retired now.queues; log = now.log }

  -- the reports have the room that they had
  left_ready : (now : State) → Ready rows octets link now → Ready rows octets link (left now)
  left_ready now ready =
      let gone = left_retired [] link rows octets within parts.retired now.queues ready.sound in
      record { sound = gone.kept.sound; spare = omega (arith, ready.spare, gone.fewer) }

  -- the next are dropped, and the rest moves
  pub cleared_even : (plan : Plan) (links marks : List ℕ) (now : State) → Ready rows octets link now
      → Even test rows octets link (left now) (cleared plan links marks rows link parts now)
  unfolding cleared
  cleared_even plan links marks now ready =
      let next : State = dropped rows link 2 parts.dropped (left now) in
      let drops = dropped_even test rows octets link within 2 (lit< tt) parts.dropped (left now) (left_ready now ready) in
      even_on test rows octets link within (left now) next (cleared plan links marks rows link parts now) drops
      (moved_even test rows octets link within plan links marks next drops.ready)

  module _ (now : State) (ready : Ready rows octets link now) (held : parts.retired ≤ count_of now.queues.spans link) where
    -- with the report of changes behind
    pub ended_even : (plan : Plan) (links marks : List ℕ)
        → held_of test rows (ended plan links marks rows link parts now).queues
        + tally test (drops_of (reports_of (ended plan links marks rows link parts now).log))
        + tally test (take parts.retired (numbers rows now.queues link))
        ≡ held_of test rows now.queues + tally test (drops_of (reports_of now.log))
    unfolding ended
    ended_even plan links marks =
        let after : State = cleared plan (links_out links link) marks rows link parts now in
        let changes =
        ap (tally test)
        (changes_even plan (is_accessible plan links marks) (is_accessible plan (links_out links link) marks) after.log)
        in
        omega (
          arith,
          (cleared_even plan (links_out links link) marks now ready).even,
          retired_even test rows octets link within parts.retired now.queues ready.sound held,
        )

  -- the free slots stay apart by kind
  pub ended_kinds : (now : State) → Ready rows octets link now → (plan : Plan) (links marks : List ℕ) → Apart now.queues
      → Apart (ended plan links marks rows link parts now).queues
  unfolding ended
  ended_kinds now ready plan links marks apart =
      (cleared_even plan (links_out links link) marks now ready).kinds
      (kinds_retired rows octets link within parts.retired now.queues ready.sound apart)

-- an area that tells nothing yet
none_told : (test : ℕ → Bool) (area : List ℕ) → tally test (drops_of (reports_in area 0)) ≡ 0
unfolding reports_in drops_of tally
none_told test area = refl

module _
    (test : ℕ → Bool)
    (octets : List ℕ)
    (plan : Plan)
    (a : Areas)
    (sound : Sound a.spans a.rings a.rows octets)
    (link : ℕ)
    (h : link < 32)
    (long : short a.reports ≡ false)
    (parts : Cut) where
  -- before it the reports tell nothing
  abbrev start : State
  start = state a.spans a.rings a.reports 0

  start_ready : Ready a.rows octets link start
  start_ready =
      record { sound = sound; spare = omega (arith, ltb-false (room a.reports) 512 long, sound.short link) }

  -- a link goes out of service
  pub out_even : parts.retired ≤ count_of a.spans link
      → let o = out_of_service plan a link parts in
      held_of test a.rows (both o.after.spans o.after.rings)
      + tally test (drops_of (reports_in o.after.reports o.answer.reports))
      + tally test (take parts.retired (numbers a.rows (both a.spans a.rings) link))
      ≡ held_of test a.rows (both a.spans a.rings)
  unfolding out_of_service
  out_even held =
      omega (
        arith,
        ended_even test a.rows octets link h parts start start_ready held plan a.links a.marks,
        none_told test a.reports,
      )

  -- the free slots stay apart by kind
  pub out_kinds : Kinds a.spans a.rings
      → Kinds (out_of_service plan a link parts).after.spans (out_of_service plan a link parts).after.rings
  unfolding out_of_service
  out_kinds = ended_kinds test a.rows octets link h parts start start_ready plan a.links a.marks
