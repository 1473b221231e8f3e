-- A new message stands behind those that were queued before: the first messages of every queue stay the same.
-- Assumes nothing.
use mathlib.Core.Path.{◌≡◌, refl, sym, ap, ap₂, ◌∙◌}
use mathlib.Core.Bool.{true}
use mathlib.Core.List.{List, [], ◌∷◌, ◌++◌, map, append-nil}
use Prim.Native.Nat.{ℕ, suc, ◌≤◌, ◌<◌}
use native.Mathlib.Omega.{arith}
use lib.Dec.{eqb}
use lib.ListN.{length, get_or, take, length-map}
use lib.Seq.{take-append-le}
use borrow.Author.Tests.{eqb-true}
use borrow.Table.Elements.{map_app}
use borrow.Table.Steps.{cases}
use Rattle.plan.proofs.Split.{alike}
use Rattle.area_slots.specs.SlotRows.{with_slot}
use Rattle.queue_rings.specs.Ring.{count_of, queue, spans_taken}
use Rattle.queue_rings.proofs.Queues.{queue_length, taken_other, put_queue, put_other}
use Rattle.queue_slots.specs.Message.{fits, user_rows, management_rows}
use Rattle.queue_slots.specs.Message as Message
use Rattle.queue_store.specs.Sound.{Sound}
use Rattle.queue_heads.specs.Head.{Queues, head_of, moved}
use Rattle.queue_joining.specs.Queue.{next_of, user_reply, user_queues, rows_with_user, management_reply, management_queues, rows_with_management}
use Rattle.promise_ledger.specs.Held.{arrival_of, numbers}
use Rattle.promise_ledger.proofs.Balance.{moved_some, head_long, head_room}
use Rattle.promise_ledger.proofs.Free.{slot_apart}
use Rattle.promise_ledger.proofs.Joined.{arrival_other, user_other, user_large, user_found, management_found}

-- slots with the same numbers in two areas
map_same : (f g : ℕ → ℕ) (slots : List ℕ) → ((i : ℕ) → i < length slots → f (get_or slots i 0) ≡ g (get_or slots i 0))
    → map f slots ≡ map g slots
map_same f g [] h = refl
map_same f g (slot ∷ slots) h =
    ap₂ (λ (n : ℕ) (l : List ℕ). n ∷ l) (h 0 (omega arith)) (map_same f g slots (λ i l. h (suc i) (omega arith)))

module _
    (rows octets : List ℕ)
    (queues : Queues)
    (sound : Sound queues.spans queues.rings rows octets)
    (free : ℕ)
    (found : (head_of queues free).found ≡ true)
    (empty : 33 ≤ free)
    (after : List ℕ)
    (others : (other : ℕ) → (other ≡ (head_of queues free).slot → ⊥) → arrival_of after other ≡ arrival_of rows other)
    (ring : ℕ)
    (h : ring < 33) where
  abbrev slot : ℕ
  slot = (head_of queues free).slot

  abbrev taken : List ℕ
  taken = spans_taken queues.spans free

  -- what a queue held has the numbers that it had
  before : (link : ℕ) → link < 33 → map (arrival_of after) (queue taken queues.rings link) ≡ numbers rows queues link
  unfolding numbers
  before link l =
      map_same (arrival_of after) (arrival_of rows) (queue taken queues.rings link)
      (λ i below.
      others (get_or (queue taken queues.rings link) i 0)
      (slot_apart rows octets queues sound free found link i (omega (arith, queue_length taken queues.rings link))))
      ∙ ap (map (arrival_of rows)) (taken_other queues.spans queues.rings free link (λ e. omega arith))

  -- the queue that it joins has it at its end
  pub joined_there : numbers after (moved queues free ring) ring ≡ numbers rows queues ring ++ (arrival_of after slot ∷ [])
  unfolding numbers
  joined_there =
      ap (λ (q : Queues). map (arrival_of after) (queue q.spans q.rings ring)) (moved_some queues free ring found)
      ∙ ap (map (arrival_of after))
      (put_queue taken queues.rings ring slot (head_long rows octets queues sound free found) sound.rings_long
      (head_room rows octets queues sound free found ring (omega arith)))
      ∙ map_app (arrival_of after) (queue taken queues.rings ring) (slot ∷ [])
      ∙ ap (λ (l : List ℕ). l ++ (arrival_of after slot ∷ [])) (before ring h)

  -- the others are as they were
  pub joined_other : (link : ℕ) → link < 33 → (link ≡ ring → ⊥) → numbers after (moved queues free ring) link ≡ numbers rows queues link
  unfolding numbers
  joined_other link l apart =
      ap (λ (q : Queues). map (arrival_of after) (queue q.spans q.rings link)) (moved_some queues free ring found)
      ∙ ap (map (arrival_of after)) (put_other taken queues.rings ring slot link apart)
      ∙ before link l

-- of a management message
module _
    (rows octets : List ℕ)
    (queues : Queues)
    (sound : Sound queues.spans queues.rings rows octets)
    (arrivals : List ℕ)
    (ring : ℕ)
    (h : ring < 33)
    (heading point slc field : ℕ) where
  abbrev after : List ℕ
  after = rows_with_management queues arrivals rows heading point slc field

  abbrev filled : Queues
  filled = management_queues queues arrivals ring

  module _ (done : eqb (management_reply queues.spans arrivals) 0 ≡ true) where
    -- the slot that it takes
    taken_found : (head_of queues 34).found ≡ true
    taken_found = management_found (λ n. true) rows octets queues sound arrivals (eqb-true (management_reply queues.spans arrivals) 0 done)

    abbrev written : List ℕ
    written = with_slot rows (head_of queues 34).slot (Message.management_row (next_of arrivals) heading point slc field)

    other_numbers : (other : ℕ) → (other ≡ (head_of queues 34).slot → ⊥) → arrival_of written other ≡ arrival_of rows other
    other_numbers = arrival_other rows (head_of queues 34).slot (Message.management_row (next_of arrivals) heading point slc field)

  -- a queue that it doesn't join is as it was
  pub management_other : (link : ℕ) → link < 33 → (link ≡ ring → ⊥) → numbers after filled link ≡ numbers rows queues link
  unfolding management_queues rows_with_management management_rows
  management_other link l apart =
      cases (eqb (management_reply queues.spans arrivals) 0)
      (λ e.
      simp e
      (joined_other rows octets queues sound 34 (taken_found e) (omega arith) (written e) (other_numbers e) ring h link l apart))
      (λ e. simp e)

  -- and each has what it had, with what is new behind it
  pub management_joined : (link : ℕ) → link < 33 → (new : List ℕ) × (numbers after filled link ≡ numbers rows queues link ++ new)
  unfolding management_queues rows_with_management management_rows
  management_joined link l =
      cases (eqb (management_reply queues.spans arrivals) 0)
      (λ e.
      alike link ring
      (λ same.
      let there = joined_there rows octets queues sound 34 (taken_found e) (omega arith) (written e) (other_numbers e) ring h in
      let new : List ℕ = arrival_of (written e) (head_of queues 34).slot ∷ [] in (
        new,
        simp e
            (ap (λ (r : ℕ). numbers (written e) (moved queues 34 ring) r) same
            ∙ there
            ∙ ap (λ (r : ℕ). numbers rows queues r ++ new) (sym same)),
      ))
      (λ apart. ([], management_other link l apart ∙ sym (append-nil (numbers rows queues link)))))
      (λ e. ([], simp (e, append-nil (numbers rows queues link))))

  -- so the first messages of each are the same
  pub management_first : (link many : ℕ) → link < 33 → many ≤ count_of queues.spans link
      → take many (numbers after filled link) ≡ take many (numbers rows queues link)
  unfolding numbers
  management_first link many l fits =
      let size : length (numbers rows queues link) ≡ count_of queues.spans link =
      length-map (queue queues.spans queues.rings link) (arrival_of rows) ∙ queue_length queues.spans queues.rings link
      in
      let all = management_joined link l in
      ap (take many) all.1 ∙ take-append-le many (numbers rows queues link) all.0 (omega (arith, size))

-- of a user message
module _
    (rows octets : List ℕ)
    (queues : Queues)
    (sound : Sound queues.spans queues.rings rows octets)
    (arrivals : List ℕ)
    (ring : ℕ)
    (h : ring < 33)
    (point sls size : ℕ) where
  abbrev free : ℕ
  free = (head_of queues 33).slot

  abbrev placed : List ℕ
  placed = user_rows rows free (next_of arrivals) point sls size

  -- a row that is written, or one that doesn't fit, leaves the numbers of the other slots
  placed_other : (other : ℕ) → (other ≡ free → ⊥) → arrival_of placed other ≡ arrival_of rows other
  placed_other other apart =
      cases (fits free size)
      (λ fit. user_other rows free (next_of arrivals) point sls size fit other apart)
      (λ large. ap (λ (l : List ℕ). arrival_of l other) (user_large rows free (next_of arrivals) point sls size large))

  pub user_joined : (link : ℕ) → link < 33
      → (new : List ℕ)
      × (numbers (rows_with_user queues arrivals rows point sls size) (user_queues queues arrivals ring) link ≡ numbers rows queues link ++ new)
  unfolding user_queues rows_with_user
  user_joined link l =
      cases (eqb (user_reply queues.spans arrivals) 0)
      (λ e.
      let found = user_found (λ n. true) rows octets queues sound arrivals (eqb-true (user_reply queues.spans arrivals) 0 e) in
      alike link ring
      (λ same.
      let there = joined_there rows octets queues sound 33 found (omega arith) placed placed_other ring h in
      let new : List ℕ = arrival_of placed free ∷ [] in (
        new,
        simp e
            (ap (λ (r : ℕ). numbers placed (moved queues 33 ring) r) same
            ∙ there
            ∙ ap (λ (r : ℕ). numbers rows queues r ++ new) (sym same)),
      ))
      (λ apart.
      let there = joined_other rows octets queues sound 33 found (omega arith) placed placed_other ring h link l apart in
      ([], simp e (there ∙ sym (append-nil (numbers rows queues link))))))
      (λ e. ([], simp (e, append-nil (numbers rows queues link))))
