-- An arrival number names one message: where a number given by a call stands in a queue later, it stands in the slot that the call took.
-- Assumes nothing.
use mathlib.Core.Path.{◌≡◌, refl, sym, ap, ◌∙◌}
use mathlib.Core.Logic.{◌⊎◌, inl, inr, ⊎_elim}
use mathlib.Core.List.{List, [], ◌∷◌}
use Prim.Native.Nat.{ℕ, ◌≤◌, ◌<◌}
use native.Mathlib.Omega.{arith}
use Rattle.plan.specs.declared.data.Plan.{Plan}
use Rattle.plan.specs.Sound as Plan
use Rattle.plan.proofs.Split.{alike}
use Rattle.area_slots.specs.declared.Slot.{Slot}
use Rattle.queue_store.specs.Sound.{is, held}
use Rattle.node.specs.View.{view_of}
use Rattle.node.specs.Memory.{Memory}
use Rattle.node.specs.Call.{call_of}
use Rattle.promise_runs.specs.Run.{Call, lent, called, ran}
use Rattle.promise_ledger.specs.Held.{arrival_of, held_of}
use Rattle.promise_contents.specs.Content.{content_of, row_in, next_in, Same, Newer, free_slot, PassedOn}
use Rattle.promise_contents.proofs.KeptRuns.{called_keeps}
use Rattle.promise_contents.proofs.Free.{free_in}
use Rattle.promise_contents.specs.Made.{New, new_of, Written}
use Rattle.promise_contents.proofs.Fitting.{written_number}
use Rattle.promise_contents.proofs.FreeEvents.{queues_in, StillAt}
use Rattle.promise_contents.proofs.FreeCalls.{call_stays}
use Rattle.promise_contents.proofs.OctetsKept.{call_stands}
use Rattle.promise_contents.proofs.Ready.{Ready, call_ready}
use Rattle.promise_contents.proofs.Unsent.{number_held}

module _ (plan : Plan) (sound : Plan.Sound plan) where
  -- from one memory to a later one a slot holds what it held and is free if it was, or it holds a newer message
  abbrev pub Older : Memory → Memory → ℕ → Type 0
  Older m m' slot =
      (Same (content_of m) (content_of m') slot × (free_in (queues_in m.areas) slot ≤ free_in (queues_in m'.areas) slot))
      ⊎ Newer (content_of m) (content_of m') slot

  -- by a call
  called_older : (call : Call) (m : Memory) → Ready m → (slot : ℕ) → slot < 256 → Older m (called plan call m) slot
  unfolding called
  called_older call m ready slot h =
      let next : Memory = called plan call m in
      let new : New = new_of plan call.event call.message (lent call m).areas in
      ⊎_elim
      (λ (same : Same (content_of m) (content_of next) slot).
      ⊎_elim (λ (still : StillAt (queues_in m.areas) (queues_in next.areas) m.areas.rows next.areas.rows slot). inl (same, still.1))
      (λ (written : Written new (next_in (content_of m)) slot (row_in (content_of next) slot)).
      inr (omega (arith, written_number new (next_in (content_of m)) slot (row_in (content_of next) slot) written)))
      (call_stays plan call.message (lent call m) ready.regular ready.apart call.event slot h))
      (λ (newer : Newer (content_of m) (content_of next) slot). inr newer)
      ((called_keeps plan call m ready.regular.store.rows_long).each slot h)

  -- and by a run
  pub run_older : (calls : List Call) (m : Memory) → Ready m → (slot : ℕ) → slot < 256 → Older m (ran plan calls m) slot
  unfolding ran
  run_older [] m ready slot h = inl ((refl, refl), omega arith)
  run_older (call ∷ later) m ready slot h =
      let next : Memory = called plan call m in
      let last : Memory = ran plan later next in
      let here = called_keeps plan call m ready.regular.store.rows_long in
      ⊎_elim
      (λ (after : Same (content_of next) (content_of last) slot × (free_in (queues_in next.areas) slot ≤ free_in (queues_in last.areas) slot)).
      ⊎_elim
      (λ (before : Same (content_of m) (content_of next) slot × (free_in (queues_in m.areas) slot ≤ free_in (queues_in next.areas) slot)).
      inl ((after.0.0 ∙ before.0.0, after.0.1 ∙ before.0.1), omega (arith, after.1, before.1)))
      (λ (newer : Newer (content_of m) (content_of next) slot).
      inr (omega (arith, newer, ap (λ (s : Slot). s.arrival) after.0.0)))
      (called_older call m ready slot h))
      (λ (newer : Newer (content_of next) (content_of last) slot). inr (omega (arith, newer, here.onward)))
      (run_older later next (call_ready plan sound call m ready) slot h)

  -- the number that a message was queued with stands in a queue later: in the slot that the message took
  pub number_names : (m : Memory) → Ready m → held_of (is (next_in (content_of m))) m.areas.rows (queues_in m.areas) ≡ 0
      → (queueing : Call) → PassedOn plan queueing.message (view_of queueing.event)
      → (call_of plan queueing.event queueing.message (lent queueing m)).answer.reply ≡ 0
      → (calls : List Call)
      → let later = ran plan calls (called plan queueing m) in
      (slot : ℕ) → slot < 256 → free_in (queues_in later.areas) slot ≡ 0
      → (row_in (content_of later) slot).arrival ≡ next_in (content_of m)
      → slot ≡ free_slot m
  unfolding called
  number_names m ready unheld queueing passed none calls slot h busy named =
      let a = m.areas in
      let next : Memory = called plan queueing m in
      let later : Memory = ran plan calls next in
      let stands =
      call_stands plan queueing.message (lent queueing m) ready.regular ready.apart ready.one queueing.event passed none
      in
      ⊎_elim
      (λ (older : Same (content_of next) (content_of later) slot × (free_in (queues_in next.areas) slot ≤ free_in (queues_in later.areas) slot)).
      alike slot (free_slot m) (λ same. same)
      (λ other.
      let alone = stands.1 slot other in
      let number : arrival_of a.rows slot ≡ next_in (content_of m) =
      sym (ap (λ (s : Slot). s.arrival) (older.0.0 ∙ alone.0)) ∙ named
      in
      let held =
      number_held a.rows m.octets (queues_in a) ready.regular.store slot h (omega (arith, older.1, alone.1, busy))
      in
      let none_held = ap (λ (n : ℕ). held_of (is n) a.rows (queues_in a)) number in
      absurd (omega (arith, held, none_held, unheld))))
      (λ (newer : Newer (content_of next) (content_of later) slot). absurd (omega (arith, newer, named, stands.0.1)))
      (run_older calls next (call_ready plan sound queueing m ready) slot h)
