-- The queue of a link that is out, cleared: what is retired, dropped and moved, where it goes, and in which order.
-- Assumes nothing.
use mathlib.Core.Path.{◌≡◌, refl, sym, ap, ◌∙◌, subst}
use mathlib.Core.List.{List, [], ◌++◌, map}
use Prim.Native.Nat.{ℕ, ◌+◌, ◌≤◌, ◌<◌}
use native.Mathlib.Omega.{arith}
use lib.ListN.{length, drop, length-append, length-map, length-drop, take-append-drop}
use lib.Seq.{drop-drop}
use borrow.Table.Elements.{map_app}
use Rattle.plan.specs.declared.data.Plan.{Plan}
use Rattle.area_links.specs.LinkRecords.{record_at}
use Rattle.queue_rings.specs.Ring.{count_of}
use Rattle.queue_store.specs.Sound.{Sound}
use Rattle.reports.specs.Report.{room}
use Rattle.queue_retiring.specs.Leave.{State, retired, dropped}
use Rattle.queue_moving.specs.Move.{goes_to, moved_all}
use Rattle.changeover_cuts.specs.declared.Cut.{Cut}
use Rattle.changeover_ending.specs.End.{cleared}
use Rattle.queue_rings.proofs.Queues.{queue_length}
use Rattle.promise_ledger.specs.Held.{arrival_of, numbers}
use Rattle.promise_ledger.specs.Reported.{Report, report}
use Rattle.promise_leaving.specs.Going.{slots_of, going, drops_for, dropped_part, rest, Cleared}
use Rattle.promise_leaving.proofs.Passing.{Passed, passed_on}
use Rattle.promise_leaving.proofs.Gone.{with, passed_retired, passed_dropped}
use Rattle.promise_leaving.proofs.Going.{strays, strays_few}
use Rattle.promise_leaving.proofs.Moved.{passed_moved}

module _
    (plan : Plan)
    (links marks rows octets : List ℕ)
    (link : ℕ)
    (within : link < 32)
    (out : (record_at links link).state ≡ 0)
    (parts : Cut)
    (now : State)
    (sound : Sound now.queues.spans now.queues.rings rows octets)
    (enough : now.log.count + count_of now.queues.spans link ≤ room now.log.area) where
  abbrev goes : ℕ → ℕ
  goes slot = goes_to plan links marks rows slot

  -- the queue, without those retired, and its two other parts
  abbrev slots : List ℕ
  slots = slots_of now.queues link

  abbrev kept : List ℕ
  kept = drop parts.retired slots

  abbrev next : List ℕ
  next = dropped_part parts slots

  abbrev last : List ℕ
  last = rest parts slots

  -- as many as are counted
  long : length slots ≡ count_of now.queues.spans link
  long = queue_length now.queues.spans now.queues.rings link

  -- behind those dropped is the rest
  behind : drop parts.dropped kept ≡ last
  behind = drop-drop parts.dropped parts.retired slots

  -- together they are no more than there were
  parts_few : length next + length last ≤ count_of now.queues.spans link
  parts_few =
      let whole : length next + length last ≡ length kept =
      ap (λ (l : List ℕ). length next + length l) (sym behind)
      ∙ sym (length-append next (drop parts.dropped kept))
      ∙ ap length (take-append-drop parts.dropped kept)
      in
      omega (arith, whole, long, length-drop parts.retired slots)

  -- the states between
  abbrev one : State
  one = with now.log (retired link parts.retired now.queues)

  abbrev two : State
  two = dropped rows link 2 parts.dropped one

  -- what is told of those dropped, and of all
  abbrev drops : List Report
  drops = drops_for 2 rows next

  drops_long : length drops ≡ length next
  drops_long = length-map next (λ (slot : ℕ). report 2 (arrival_of rows slot))

  abbrev tells : List Report
  tells = drops ++ strays goes rows last

  -- the first are retired
  to_one : Passed link rows octets kept (λ (other : ℕ). []) [] now one
  to_one = passed_retired link rows octets within parts.retired slots now sound refl (omega (arith, long))

  -- the next are dropped
  to_two : Passed link rows octets last (λ (other : ℕ). []) drops one two
  to_two =
      subst (λ (l : List ℕ). Passed link rows octets l (λ (other : ℕ). []) drops one two) behind
      (passed_dropped link rows octets within 2 parts.dropped kept one to_one.sound to_one.leaves
      (omega (arith, long, length-drop parts.retired slots)))

  -- the rest move
  to_end : Passed link rows octets [] (λ (other : ℕ). going goes other last) (strays goes rows last) two
      (moved_all plan links marks rows link two)
  to_end =
      passed_moved plan links marks rows octets link within out last two to_two.sound to_two.leaves
      (omega (arith, parts_few, to_two.counted, to_two.long, drops_long))

  -- slot by slot
  pub passed_cleared : Passed link rows octets [] (λ (other : ℕ). going goes other last) tells now
      (cleared plan links marks rows link parts now)
  unfolding cleared
  passed_cleared =
      let sent : ℕ → List ℕ = λ other. going goes other last in
      let end : State = moved_all plan links marks rows link two in
      passed_on link rows octets kept [] (λ (other : ℕ). []) sent sent [] tells tells (λ other. refl) refl
      now
      one
      end
      to_one
      (passed_on link rows octets last [] (λ (other : ℕ). []) sent sent drops (strays goes rows last)
      tells
      (λ other. refl)
      refl
      one
      two
      end
      to_two
      to_end)

  -- no more is told than there are messages
  pub told_few : length tells ≤ count_of now.queues.spans link
  told_few = omega (arith, length-append drops (strays goes rows last), strays_few goes rows last, drops_long, parts_few)

  -- by arrival numbers
  pub cleared_exactly : Cleared plan links marks rows link parts now (cleared plan links marks rows link parts now)
  unfolding numbers
  cleared_exactly = record {
    emptied = ap (map (arrival_of rows)) passed_cleared.leaves;
    joined =
        λ other h apart.
        ap (map (arrival_of rows)) (passed_cleared.joins other h apart)
        ∙ map_app (arrival_of rows) (slots_of now.queues other) (going goes other last);
    apart = ap (map (arrival_of rows)) passed_cleared.stays;
    told = passed_cleared.told;
  }
