-- A message that the node makes is held with the next number, and leaves as exactly its octets: over any run of calls from any configuration.
-- Assumes nothing.
use mathlib.Core.Path.{◌≡◌, sym, ap, subst, ◌∙◌}
use mathlib.Core.Logic.{⊎_elim}
use mathlib.Core.List.{List}
use mathlib.Core.Bool.{Bool, true}
use Prim.Native.Nat.{ℕ, ◌+◌, ◌≤◌, ◌<◌}
use native.Mathlib.Omega.{arith}
use lib.ListN.{length}
use Rattle.plan.specs.declared.data.Plan.{Plan}
use Rattle.area_slots.specs.declared.Slot.{Slot}
use Rattle.queue_store.specs.Sound.{bit, is}
use Rattle.wire_writing.specs.Writing.{octets_of}
use Rattle.sending.specs.Send.{held_message, held_label}
use Rattle.sending.proofs.HeldBack.{held_as, row_reads, octets_held}
use Rattle.management_making.specs.declared.Draft.{Draft}
use Rattle.plan_configuration.specs.Configure.{configured}
use Rattle.plan_configuration.proofs.Made.{configured_sound}
use Rattle.node.specs.declared.call.Event.TheVariants.{Send}
use Rattle.node.specs.Memory.{Memory}
use Rattle.node.specs.Call.{call_of}
use Rattle.promise_runs.specs.Run.{Call, lent, called, ran, fresh, Whole}
use Rattle.promise_ledger.specs.Held.{held_of}
use Rattle.promise_contents.specs.Content.{content_of, row_in, next_in, next_slot, Same, Newer}
use Rattle.promise_contents.specs.Made.{New, Made, new_of, Written, octets_made, Writes}
use Rattle.promise_contents.specs.Given.{gives, slot_for, InQueue, Gains}
use Rattle.promise_contents.proofs.Free.{free_in}
use Rattle.promise_contents.proofs.FreeEvents.{queues_in, StillAt}
use Rattle.promise_contents.proofs.FreeCalls.{call_stays}
use Rattle.promise_contents.proofs.GivenCalls.{call_gains}
use Rattle.promise_contents.proofs.Sent.{made_writes}
use Rattle.promise_contents.proofs.Ready.{call_ready, run_ready, fresh_ready}
use Rattle.promise_contents.proofs.Unsent.{number_held, sent_slot, sent_not_free}
use Rattle.promise_contents.proofs.Named.{run_older}
use Rattle.promise_contents.proofs.KeptWhole.{next_unheld}

module _ (m : Memory) (whole : Whole m) (one : length m.areas.arrivals ≡ 1) (text : List ℕ) where
  -- a slot that isn't free and has the number that a call gave holds what that call wrote, at any later time
  pub written_later : (earlier : List Call) (making : Call)
      → let plan = (configured text).plan in
      let before = ran plan earlier (fresh m) in
      let number = next_in (content_of before) in
      number < next_in (content_of (called plan making before))
      → (calls : List Call)
      → let later = ran plan calls (called plan making before) in
      (slot : ℕ) → slot < 256 → free_in (queues_in later.areas) slot ≡ 0 → (row_in (content_of later) slot).arrival ≡ number
      → Written (new_of plan making.event making.message (lent making before).areas) number slot (row_in (content_of later) slot)
  unfolding called
  written_later earlier making gives calls slot h busy named =
      let plan = (configured text).plan in
      let sound = configured_sound text in
      let before : Memory = ran plan earlier (fresh m) in
      let a = before.areas in
      let after : Memory = called plan making before in
      let later : Memory = ran plan calls after in
      let number : ℕ = next_in (content_of before) in
      let new : New = new_of plan making.event making.message (lent making before).areas in
      let ready = run_ready plan sound earlier (fresh m) (fresh_ready m whole one) in
      ⊎_elim
      (λ (older : Same (content_of after) (content_of later) slot × (free_in (queues_in after.areas) slot ≤ free_in (queues_in later.areas) slot)).
      ⊎_elim
      (λ (still : StillAt (queues_in a) (queues_in after.areas) a.rows after.areas.rows slot).
      let was : (row_in (content_of before) slot).arrival ≡ number = sym (ap (λ (s : Slot). s.arrival) (older.0.0 ∙ still.0)) ∙ named in
      let held = number_held a.rows before.octets (queues_in a) ready.regular.store slot h (omega (arith, older.1, still.1, busy)) in
      let none_held = ap (λ (n : ℕ). held_of (is n) a.rows (queues_in a)) was in
      absurd (omega (arith, held, none_held, next_unheld m whole one text earlier)))
      (λ (written : Written new number slot (row_in (content_of after) slot)).
      subst (λ (row : Slot). Written new number slot row) (sym older.0.0) written)
      (call_stays plan making.message (lent making before) ready.regular ready.apart making.event slot h))
      (λ (newer : Newer (content_of after) (content_of later) slot). absurd (omega (arith, newer, named, gives)))
      (run_older plan sound calls after (call_ready plan sound making before ready) slot h)

  -- the number that a call gives, and what it writes, at any time
  run_gains : (earlier : List Call) (making : Call)
      → let plan = (configured text).plan in
      let before = ran plan earlier (fresh m) in
      let a = (lent making before).areas in
      Gains (new_of plan making.event making.message a) (gives plan making.event making.message a) a (called plan making before).areas
  unfolding called
  run_gains earlier making =
      let plan = (configured text).plan in
      let before : Memory = ran plan earlier (fresh m) in
      let ready = run_ready plan (configured_sound text) earlier (fresh m) (fresh_ready m whole one) in
      call_gains plan making.message (lent making before) ready.regular ready.apart ready.one making.event

  module _ (earlier : List Call) (making : Call) (draft : Draft)
      (makes : new_of (configured text).plan making.event making.message (lent making (ran (configured text).plan earlier (fresh m))).areas
      ≡ Made draft)
      (given : gives (configured text).plan making.event making.message (lent making (ran (configured text).plan earlier (fresh m))).areas
      ≡ true) where
    abbrev plan : Plan
    plan = (configured text).plan

    abbrev before : Memory
    before = ran plan earlier (fresh m)

    abbrev after : Memory
    after = called plan making before

    abbrev number : ℕ
    number = next_in (content_of before)

    -- a call that makes a message uses up one number
    pub made_numbered : next_in (content_of after) ≡ number + 1
    made_numbered = (run_gains earlier making).0 ∙ ap (λ (g : Bool). number + bit g) given

    -- and leaves it held with that number, in the first management slot that was free, which stands in a queue
    pub made_held :
        Written (Made draft) number (slot_for (Made draft) before.areas) (row_in (content_of after) (slot_for (Made draft) before.areas))
        × InQueue after.areas.spans after.areas.rings (slot_for (Made draft) before.areas)
    made_held =
        let a = (lent making before).areas in
        subst
        (λ (new : New).
        Written new number (slot_for new a) (row_in (content_of after) (slot_for new a)) × InQueue after.areas.spans after.areas.rings (slot_for new a))
        makes
        ((run_gains earlier making).1 given)

    -- any calls, and a send of that number: what leaves is the message, with our NI, our code for OPC, the point that it is for as DPC, and its SLC
    pub made_leaves : (calls : List Call) (sending : Call) (link : ℕ)
        → let later = ran plan calls after in
        (call_of plan (Send link) sending.message (lent sending later)).answer.reply ≡ 0
        → (row_in (content_of later) (next_slot later link)).arrival ≡ number
        → Writes (call_of plan (Send link) sending.message (lent sending later)) sending.out (octets_made plan draft)
    unfolding Written
    made_leaves calls sending link sent named =
        let sound = configured_sound text in
        let later : Memory = ran plan calls after in
        let ready = run_ready plan sound earlier (fresh m) (fresh_ready m whole one) in
        let now = run_ready plan sound calls after (call_ready plan sound making before ready) in
        let slot : ℕ = next_slot later link in
        let row : Slot = row_in (content_of later) slot in
        let written =
        subst (λ (new : New). Written new number slot row) makes
        (written_later earlier making (omega (arith, made_numbered)) calls slot
        (sent_slot plan link sending.message (lent sending later) now.regular sent)
        (sent_not_free plan link sending.message (lent sending later) now.regular sent)
        named)
        in
        let reads = ap held_message written.1 ∙ row_reads number draft.point draft.slc draft.message in
        let same : octets_of plan.ni (held_label plan row) (held_as draft.message) ≡ octets_made plan draft =
        ap (λ (s : Slot). octets_of plan.ni (held_label plan s) (held_as draft.message)) written.1
        ∙ octets_held number draft.point draft.slc plan draft.message
        in
        subst (Writes (call_of plan (Send link) sending.message (lent sending later)) sending.out) same
        (made_writes plan link sending.message (lent sending later) sent written.0 (held_as draft.message) reads)
