-- A free slot that is written with the next number and put to a queue: one message more is held, and what the queues held before is held
-- with the numbers that it had.
-- Assumes nothing.
use mathlib.Core.Path.{◌≡◌, refl, sym, ap, ◌∙◌}
use mathlib.Core.Bool.{Bool, true}
use mathlib.Core.List.{List, [], ◌∷◌}
use Prim.Native.Nat.{ℕ, suc, ◌+◌, ◌≤◌, ◌<◌}
use native.Mathlib.Omega.{arith}
use native.Mathlib.Numerals.{add-one}
use lib.ListN.{length, get_or}
use lib.Seq.{get_or-set_same}
use Rattle.queue_rings.specs.Ring.{count_of, queue, spans_taken}
use Rattle.queue_rings.proofs.Queues.{queue_length}
use Rattle.queue_store.specs.Sound.{bit, sum, tally, Sound}
use Rattle.queue_store.proofs.Sums.{sum_same}
use Rattle.queue_store.proofs.Moves.{taken_below, taken_apart}
use Rattle.queue_heads.specs.Head.{Queues, both, head_of, moved}
use Rattle.queue_joining.specs.Queue.{next_of, counted}
use Rattle.promise_ledger.specs.Held.{arrival_of, held_of, given_of}
use Rattle.promise_ledger.proofs.Rings.{counts, within, held_slots, free_taken, queue_put}
use Rattle.promise_ledger.proofs.Balance.{moved_some, head_long, head_room}

-- two tests that agree on the slots of a list count as many
tally_same : (f g : ℕ → Bool) (slots : List ℕ) → ((i : ℕ) → i < length slots → f (get_or slots i 0) ≡ g (get_or slots i 0))
    → tally f slots ≡ tally g slots
unfolding tally
tally_same f g [] h = refl
tally_same f g (slot ∷ slots) h =
    let first : f slot ≡ g slot = h 0 (omega arith) in
    let others : tally f slots ≡ tally g slots = tally_same f g slots (λ i l. h (suc i) (omega arith)) in
    simp (first, others)

-- the next number used up is one more given
given_next : (test : ℕ → Bool) (arrivals : List ℕ) → length arrivals ≡ 1
    → given_of test (next_of (counted arrivals)) ≡ given_of test (next_of arrivals) + bit (test (next_of arrivals))
unfolding sum
given_next test arrivals long =
    ap (given_of test) (get_or-set_same arrivals 0 (next_of arrivals + 1) 0 (omega arith) ∙ add-one (next_of arrivals))

module _
    (rows octets : List ℕ)
    (queues : Queues)
    (sound : Sound queues.spans queues.rings rows octets)
    (free : ℕ)
    (found : (head_of queues free).found ≡ true) where
  abbrev slot : ℕ
  slot = (head_of queues free).slot

  -- the queues without it
  abbrev taken : List ℕ
  taken = spans_taken queues.spans free

  -- the slot is one of the 256, and stands nowhere else
  pub slot_below : slot < 256
  unfolding head_of
  slot_below = taken_below queues.spans queues.rings rows octets sound free found

  pub slot_apart : (ring place : ℕ) → place < count_of taken ring → get_or (queue taken queues.rings ring) place 0 ≡ slot → ⊥
  unfolding head_of
  slot_apart = taken_apart queues.spans queues.rings rows octets sound free found

  module _
      (test : ℕ → Bool)
      (after : List ℕ)
      (others : (other : ℕ) → (other ≡ slot → ⊥) → arrival_of after other ≡ arrival_of rows other) where
    -- with another row for it all queues have the numbers that they had
    others_held : held_of test after (both taken queues.rings) ≡ held_of test rows (both taken queues.rings)
    others_held =
        let rings : List ℕ = queues.rings in
        held_slots test after taken rings
        ∙ sum_same (within test after taken rings) (within test rows taken rings) 33
        (λ ring h.
        tally_same (counts test after) (counts test rows) (queue taken rings ring)
        (λ i l.
        let there : i < count_of taken ring = omega (arith, queue_length taken rings ring) in
        ap test (others (get_or (queue taken rings ring) i 0) (slot_apart ring i there))))
        ∙ sym (held_slots test rows taken rings)

    module _ (ring : ℕ) (h : ring < 33) (empty : 33 ≤ free) where
      -- the slot at the end of a queue is one message more
      joined : held_of test after (moved queues free ring) ≡ held_of test rows queues + bit (test (arrival_of after slot))
      joined =
          let put =
          ap (held_of test after) (moved_some queues free ring found)
          ∙ queue_put test after taken queues.rings (head_long rows octets queues sound free found) ring slot h sound.rings_long
          (head_room rows octets queues sound free found ring (omega arith))
          in
          omega (arith, others_held, free_taken test rows queues.spans queues.rings sound.spans_long free empty)

      -- written with the next number, it is as many as one number more that is given
      pub joined_next : (arrivals : List ℕ) → length arrivals ≡ 1 → arrival_of after slot ≡ next_of arrivals
          → held_of test after (moved queues free ring) + given_of test (next_of arrivals)
          ≡ held_of test rows queues + given_of test (next_of (counted arrivals))
      joined_next arrivals long new =
          let one : bit (test (arrival_of after slot)) ≡ bit (test (next_of arrivals)) = ap (λ (n : ℕ). bit (test n)) new in
          omega (arith, joined, given_next test arrivals long)
