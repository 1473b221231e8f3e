-- A new message that is queued: it is held with the next number, and what the other queues hold is as before. One that isn't queued
-- uses up no number.
-- Assumes nothing.
use mathlib.Core.Path.{◌≡◌, ap}
use mathlib.Core.Bool.{Bool, true, false}
use mathlib.Core.List.{List, [], ◌∷◌}
use Prim.Native.Nat.{ℕ, ◌+◌, ◌≤◌, ◌<◌}
use native.Mathlib.Omega.{arith}
use lib.Dec.{eqb}
use lib.ListN.{length}
use borrow.Author.Tests.{lt-ltb, le-leb, eqb-true, eqb-false}
use borrow.Table.Steps.{cases}
use Rattle.area_slots.specs.SlotRows.{with_slot}
use Rattle.area_slots.specs.declared.Slot.{Slot}
use Rattle.area_rows.proofs.Laws.{row_other}
use Rattle.queue_rings.specs.Ring.{count_of, take_of}
use Rattle.queue_slots.specs.Message.{fits, user_rows, management_rows}
use Rattle.queue_slots.specs.Message as Message
use Rattle.queue_slots.proofs.ReadBack.{user_read, management_read}
use Rattle.queue_store.specs.Sound.{Sound, Kinds}
use Rattle.queue_store.proofs.KindsApart.{taken_user}
use Rattle.replies.proofs.Rows.{none_applies}
use Rattle.queue_heads.specs.Head.{Queues, head_of, moved}
use Rattle.queue_joining.specs.Queue.{next_of, counted, no_user_place, no_management_place, user_reply, user_queues, rows_with_user, user_arrivals, management_reply, management_queues, rows_with_management, management_arrivals}
use Rattle.promise_ledger.specs.Held.{arrival_of, held_of, given_of}
use Rattle.promise_ledger.proofs.Balance.{head_found}
use Rattle.promise_ledger.proofs.Free.{slot_below, joined_next}

-- a row that is written leaves the numbers of the other slots
pub arrival_other : (rows : List ℕ) (slot : ℕ) (message : Slot) (other : ℕ) → (other ≡ slot → ⊥)
    → arrival_of (with_slot rows slot message) other ≡ arrival_of rows other
arrival_other rows slot message other apart =
    row_other 256 8 rows slot
    (message.arrival ∷ message.heading ∷ message.point ∷ message.sls ∷ message.field ∷ [])
    (omega arith)
    other
    apart
    0
    (omega arith)

pub user_other : (rows : List ℕ) (slot arrival point sls size : ℕ) → fits slot size ≡ true → (other : ℕ) → (other ≡ slot → ⊥)
    → arrival_of (user_rows rows slot arrival point sls size) other ≡ arrival_of rows other
unfolding user_rows
user_other rows slot arrival point sls size fit other apart =
    simp fit (arrival_other rows slot (Message.user_row arrival point sls size) other apart)

-- one that doesn't fit writes none
pub user_large : (rows : List ℕ) (slot arrival point sls size : ℕ) → fits slot size ≡ false
    → user_rows rows slot arrival point sls size ≡ rows
unfolding user_rows
user_large rows slot arrival point sls size large = simp large

module _
    (test : ℕ → Bool)
    (rows octets : List ℕ)
    (queues : Queues)
    (sound : Sound queues.spans queues.rings rows octets)
    (arrivals : List ℕ) where
  abbrev spans : List ℕ
  spans = queues.spans

  -- a ring of free slots that isn't empty has a head
  free_found : (free : ℕ) → eqb (count_of spans free) 0 ≡ false → (head_of queues free).found ≡ true
  free_found free e = head_found queues free (omega (arith, eqb-false (count_of spans free) 0 e))

  -- where the reply is 0 a slot of the kind is free
  pub user_found : user_reply spans arrivals ≡ 0 → (head_of queues 33).found ≡ true
  unfolding user_reply
  user_found done = free_found 33 (none_applies 6 (no_user_place spans) _ done).0

  pub management_found : management_reply spans arrivals ≡ 0 → (head_of queues 34).found ≡ true
  unfolding management_reply
  management_found done = free_found 34 (none_applies 7 (no_management_place spans) _ done).0

  -- one that is free for user messages fits any of at most 273 octets
  free_fits : Kinds queues.spans queues.rings → (head_of queues 33).found ≡ true → (size : ℕ) → size ≤ 273
      → fits (head_of queues 33).slot size ≡ true
  unfolding head_of fits
  free_fits kinds found size small =
      let below = taken_user spans queues.rings rows octets sound kinds found in
      simp (lt-ltb (take_of spans queues.rings 33).slot 192 below, le-leb size 273 small)

  module _ (long : length arrivals ≡ 1) (ring : ℕ) (h : ring < 33) where
    -- a user message that fits its slot is queued with the next number
    user_done : (point sls size : ℕ) → (head_of queues 33).found ≡ true → fits (head_of queues 33).slot size ≡ true
        → held_of test (user_rows rows (head_of queues 33).slot (next_of arrivals) point sls size) (moved queues 33 ring)
        + given_of test (next_of arrivals)
        ≡ held_of test rows queues + given_of test (next_of (counted arrivals))
    user_done point sls size found fit =
        let free : ℕ = (head_of queues 33).slot in
        joined_next rows octets queues sound 33 found test (user_rows rows free (next_of arrivals) point sls size)
        (user_other rows free (next_of arrivals) point sls size fit)
        ring
        h
        (omega arith)
        arrivals
        long
        (ap (λ (s : Slot). s.arrival) (user_read rows free (next_of arrivals) point sls size sound.rows_long fit))

    -- a user message: of at most 273 octets, so that it fits the slot that is free for user messages
    pub user_even : Kinds queues.spans queues.rings → (point sls size : ℕ) → size ≤ 273
        → held_of test (rows_with_user queues arrivals rows point sls size) (user_queues queues arrivals ring) + given_of test (next_of arrivals)
        ≡ held_of test rows queues + given_of test (next_of (user_arrivals queues.spans arrivals))
    unfolding user_queues rows_with_user user_arrivals
    user_even kinds point sls size small =
        cases (eqb (user_reply spans arrivals) 0)
        (λ e.
        let found = user_found (eqb-true (user_reply spans arrivals) 0 e) in
        simp e (user_done point sls size found (free_fits kinds found size small)))
        (λ e. simp e)

    -- a management message
    pub management_even : (heading point slc field : ℕ)
        → held_of test (rows_with_management queues arrivals rows heading point slc field) (management_queues queues arrivals ring)
        + given_of test (next_of arrivals)
        ≡ held_of test rows queues + given_of test (next_of (management_arrivals queues.spans arrivals))
    unfolding management_queues rows_with_management management_arrivals management_rows
    management_even heading point slc field =
        let free : ℕ = (head_of queues 34).slot in
        let row : Slot = Message.management_row (next_of arrivals) heading point slc field in
        cases (eqb (management_reply spans arrivals) 0)
        (λ e.
        let found = management_found (eqb-true (management_reply spans arrivals) 0 e) in
        simp e
        (joined_next rows octets queues sound 34 found test (with_slot rows free row) (arrival_other rows free row)
        ring
        h
        (omega arith)
        arrivals
        long
        (ap (λ (s : Slot). s.arrival)
        (management_read rows free (next_of arrivals) heading point slc field sound.rows_long
        (slot_below rows octets queues sound 34 found)))))
        (λ e. simp e)
