-- The message that a send takes stands in a queue, and its number is held.
-- Assumes nothing.
use mathlib.Core.Path.{◌≡◌, sym, ap}
use mathlib.Core.Bool.{Bool, true, not, ◌||◌}
use mathlib.Core.List.{List, [], ◌∷◌}
use Prim.Native.Nat.{ℕ, zero, suc, ◌+◌, ◌≤◌, ◌<◌}
use native.Mathlib.Omega.{arith}
use lib.Dec.{eqb, ltb, leb}
use lib.ListN.{length, get_or}
use borrow.Author.Tests.{eqb-true, eq-eqb, leb-false}
use borrow.Table.Steps.{cases}
use Rattle.plan.specs.declared.data.Plan.{Plan}
use Rattle.plan.proofs.Split.{both_false}
use Rattle.area_links.specs.LinkRecords.{record_at}
use Rattle.queue_rings.specs.declared.ring.Taken.{Taken}
use Rattle.queue_rings.specs.Ring.{count_of, queue}
use Rattle.queue_rings.proofs.Queues.{queue_length, at_queue}
use Rattle.queue_store.specs.Sound.{bit, sum, tally, is, held}
use Rattle.queue_store.proofs.Sums.{sum_two, sum_part}
use Rattle.queue_store.proofs.Tallies.{tally_some}
use Rattle.queue_store.proofs.Moves.{slot_below}
use Rattle.lookup.specs.Lookup.{is_link}
use Rattle.queue_heads.specs.Head.{Queues}
use Rattle.sending.specs.Send.{reply_of, first_unsent}
use Rattle.node.specs.declared.call.Event.TheVariants.{Send}
use Rattle.node.specs.Memory.{Memory}
use Rattle.node.specs.Call.{sends, call_of}
use Rattle.promise_runs.proofs.KeepsCalls.{RegularAt}
use Rattle.promise_runs.proofs.Outcomes.{rows_passed, link_within}
use Rattle.promise_ledger.specs.Held.{arrival_of, held_of}
use Rattle.promise_ledger.proofs.Rings.{within, held_slots}
use Rattle.promise_contents.specs.Content.{next_slot}
use Rattle.promise_contents.proofs.Free.{stands_in, free_in, SoundIn}
use Rattle.promise_contents.proofs.FreeEvents.{queues_in}
use Rattle.promise_contents.proofs.Sent.{done_there}

-- a test that passes where another does counts no less
tally_more : (f g : ℕ → Bool) → ((slot : ℕ) → f slot ≡ true → g slot ≡ true) → (slots : List ℕ) → tally f slots ≤ tally g slots
unfolding tally
tally_more f g passes [] = omega arith
tally_more f g passes (slot ∷ slots) =
    let one : bit (f slot) ≤ bit (g slot) =
    cases (f slot) (λ e. simp (e, passes slot e) (omega arith)) (λ e. simp e (omega arith))
    in
    omega (arith, one, tally_more f g passes slots)

-- and so do sums
sum_more : (f g : ℕ → ℕ) → ((i : ℕ) → f i ≤ g i) → (n : ℕ) → sum f n ≤ sum g n
unfolding sum
sum_more f g less zero = omega arith
sum_more f g less (suc n) = omega (arith, less n, sum_more f g less n)

module _ (rows octets : List ℕ) (queues : Queues) (sound : SoundIn rows octets queues) (slot : ℕ) (h : slot < 256) where
  -- a slot stands in a queue, or is free
  pub one_place : sum (stands_in queues slot) 33 + free_in queues slot ≡ 1
  unfolding held
  one_place = omega (arith, sum_two (stands_in queues slot) 33, sound.once slot h)

  -- one that isn't free holds its number
  pub number_held : free_in queues slot ≡ 0 → 1 ≤ held_of (is (arrival_of rows slot)) rows queues
  number_held none =
      let number : ℕ = arrival_of rows slot in
      let spans : List ℕ = queues.spans in
      let rings : List ℕ = queues.rings in
      let more =
      sum_more (stands_in queues slot) (within (is number) rows spans rings)
      (λ ring.
      tally_more (is slot) (λ s. is number (arrival_of rows s))
      (λ s e. eq-eqb (arrival_of rows s) number (ap (arrival_of rows) (eqb-true s slot e)))
      (queue spans rings ring))
      33
      in
      omega (arith, more, one_place, none, held_slots (is number) rows spans rings)

-- the message that a send takes isn't in a free slot
module _ (plan : Plan) (link : ℕ) (message : List ℕ) (m : Memory) (regular : RegularAt m)
    (none : (call_of plan (Send link) message m).answer.reply ≡ 0) where
  -- there is one, of a link that there is
  unsent_there : (link < 32) × ((record_at m.areas.links link).sent < count_of m.areas.spans link)
  unfolding call_of sends reply_of
  unsent_there =
      let a = m.areas in
      let known = record_at a.links link in
      let done = done_there plan a.links a.spans a.rings a.rows m.octets link m.out none in
      let passed =
      rows_passed (leb 32 link || ltb (length m.out) 273) (not (is_link plan link))
      (not (eqb known.state 2) || (leb (count_of a.spans link) known.sent || leb 127 known.sent))
      []
      done
      in
      let unsent =
      both_false (leb (count_of a.spans link) known.sent) (leb 127 known.sent)
      (both_false (not (eqb known.state 2)) (leb (count_of a.spans link) known.sent || leb 127 known.sent) passed.2).1
      in (
        link_within link (ltb (length m.out) 273) passed.0,
        leb-false (count_of a.spans link) known.sent unsent.0,
      )

  -- it stands in the queue behind the sent ones
  unsent_at : next_slot m link ≡ get_or (queue m.areas.spans m.areas.rings link) (record_at m.areas.links link).sent 0
  unfolding first_unsent
  unsent_at =
      ap (λ (t : Taken). t.slot)
      (at_queue m.areas.spans m.areas.rings link (record_at m.areas.links link).sent unsent_there.1)

  -- it is one of the 256 slots
  pub sent_slot : next_slot m link < 256
  sent_slot =
      let a = m.areas in
      let below =
      slot_below a.spans a.rings a.rows m.octets regular.store link (record_at a.links link).sent unsent_there.1
      in
      omega (arith, below, unsent_at)

  -- and none of the free ones
  pub sent_not_free : free_in (queues_in m.areas) (next_slot m link) ≡ 0
  sent_not_free =
      let a = m.areas in
      let slot : ℕ = next_slot m link in
      let place : ℕ = (record_at a.links link).sent in
      let there : place < length (queue a.spans a.rings link) =
      omega (arith, unsent_there.1, queue_length a.spans a.rings link)
      in
      let some =
      tally_some (is slot) (queue a.spans a.rings link) place there
      (eq-eqb (get_or (queue a.spans a.rings link) place 0) slot (sym unsent_at))
      in
      omega (
        arith,
        some,
        sum_part (stands_in (queues_in a) slot) 33 link (omega (arith, unsent_there.0)),
        one_place a.rows m.octets (queues_in a) regular.store slot sent_slot,
      )
