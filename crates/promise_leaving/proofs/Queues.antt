-- The queues after the head of one has moved to another: the one has lost its head, the other has it at its end, and the rest are as
-- they were.
-- Assumes nothing.
use mathlib.Core.Path.{◌≡◌, sym, ap, ◌∙◌}
use mathlib.Core.Bool.{true, false}
use mathlib.Core.List.{List, [], ◌∷◌, ◌++◌}
use Prim.Native.Nat.{ℕ, ◌<◌}
use native.Mathlib.Omega.{arith}
use lib.Dec.{ltb}
use lib.ListN.{length, drop, get_or}
use borrow.Author.Tests.{lt-ltb, le-ltb}
use borrow.Table.Steps.{cases}
use Rattle.queue_rings.specs.Ring.{count_of, queue, take_of, spans_taken, spans_put, rings_put}
use Rattle.queue_rings.specs.Move.{spans_moved, rings_moved}
use Rattle.queue_store.specs.Sound.{Sound}
use Rattle.queue_rings.proofs.Queues.{queue_length, found_count, taken_head, taken_queue, taken_other, put_other}
use Rattle.queue_store.proofs.Moves.{moved_queue}
use Rattle.queue_heads.specs.Head.{Queues, head_of, moved, free_ring, freed}
use Rattle.promise_runs.proofs.Counts.{move_sound}
use Rattle.promise_leaving.specs.Going.{slots_of}

-- the first of a queue is its head
module _ (queues : Queues) (ring slot : ℕ) (later : List ℕ) (e : slots_of queues ring ≡ slot ∷ later) where
  head_count : 0 < count_of queues.spans ring
  head_count =
      let long : length (slot ∷ later) ≡ count_of queues.spans ring =
      sym (ap length e) ∙ queue_length queues.spans queues.rings ring
      in
      omega (arith, long)

  pub head_found : (head_of queues ring).found ≡ true
  unfolding head_of
  head_found = found_count queues.spans queues.rings ring ∙ lt-ltb 0 (count_of queues.spans ring) head_count

  pub head_is : (head_of queues ring).slot ≡ slot
  unfolding head_of
  head_is =
      taken_head queues.spans queues.rings ring head_count ∙ ap (λ (l : List ℕ). get_or l 0 0) e

-- an empty queue has none, and nothing is given up of it
module _ (queues : Queues) (ring : ℕ) (e : slots_of queues ring ≡ []) where
  pub head_none : (head_of queues ring).found ≡ false
  unfolding head_of
  head_none =
      let empty : 0 ≡ count_of queues.spans ring = sym (ap length e) ∙ queue_length queues.spans queues.rings ring in
      found_count queues.spans queues.rings ring ∙ le-ltb 0 (count_of queues.spans ring) (omega (arith, empty))

  pub freed_none : freed queues ring ≡ queues
  unfolding freed moved spans_moved rings_moved head_of
  freed_none = simp head_none

-- the head of a queue moves to another
module _
    (queues : Queues)
    (rows octets : List ℕ)
    (sound : Sound queues.spans queues.rings rows octets)
    (from slot : ℕ)
    (later : List ℕ)
    (e : slots_of queues from ≡ slot ∷ later)
    (to : ℕ)
    (h : to < 35) where
  abbrev spans : List ℕ
  spans = queues.spans

  abbrev rings : List ℕ
  rings = queues.rings

  -- there is a head
  found : (take_of spans rings from).found ≡ true
  unfolding head_of
  found = head_found queues from slot later e

  some : 0 < count_of spans from
  some = head_count queues from slot later e

  -- what a move leaves where there is a head
  moved_some : (ring : ℕ)
      → slots_of (moved queues from to) ring
      ≡ queue (spans_put (spans_taken spans from) to) (rings_put (spans_taken spans from) rings to (take_of spans rings from).slot) ring
  unfolding moved spans_moved rings_moved
  moved_some ring = simp found

  -- behind the head are the others
  taken_later : queue (spans_taken spans from) rings from ≡ later
  taken_later = ap (drop 1) (sym (taken_queue spans rings from sound.spans_long some) ∙ e)

  -- the queue that it leaves
  pub moved_from : (from ≡ to → ⊥) → slots_of (moved queues from to) from ≡ later
  moved_from apart =
      moved_some from
      ∙ put_other (spans_taken spans from) rings to (take_of spans rings from).slot from apart
      ∙ taken_later

  -- the queue that it comes to
  pub moved_to : (to ≡ from → ⊥) → slots_of (moved queues from to) to ≡ slots_of queues to ++ (slot ∷ [])
  unfolding head_of
  moved_to apart =
      moved_some to
      ∙ moved_queue spans rings rows octets sound from found to h
      ∙ ap (λ (l : List ℕ). l ++ ((take_of spans rings from).slot ∷ [])) (taken_other spans rings from to apart)
      ∙ ap (λ (s : ℕ). slots_of queues to ++ (s ∷ [])) (head_is queues from slot later e)

  -- the others
  pub moved_other : (ring : ℕ) → (ring ≡ from → ⊥) → (ring ≡ to → ⊥) → slots_of (moved queues from to) ring ≡ slots_of queues ring
  moved_other ring left other =
      moved_some ring
      ∙ put_other (spans_taken spans from) rings to (take_of spans rings from).slot ring other
      ∙ taken_other spans rings from ring left

-- the ring of free slots that a slot goes back to
free_ring_lem : (slot : ℕ) → (32 < free_ring slot) × (free_ring slot < 35)
free_ring_lem slot = cases (ltb slot 192) (λ e. simp e (omega arith)) (λ e. simp e (omega arith))

-- the head of a link's queue, or of those held apart, is given up
module _
    (queues : Queues)
    (rows octets : List ℕ)
    (sound : Sound queues.spans queues.rings rows octets)
    (from slot : ℕ)
    (later : List ℕ)
    (e : slots_of queues from ≡ slot ∷ later)
    (within : from < 33) where
  abbrev to : ℕ
  to = free_ring (head_of queues from).slot

  -- the queue has lost it
  pub freed_from : slots_of (freed queues from) from ≡ later
  unfolding freed
  freed_from =
      let high = free_ring_lem (head_of queues from).slot in
      moved_from queues rows octets sound from slot later e to high.1 (λ same. omega arith)

  -- no other link has gained it
  pub freed_other : (ring : ℕ) → ring < 33 → (ring ≡ from → ⊥) → slots_of (freed queues from) ring ≡ slots_of queues ring
  unfolding freed
  freed_other ring low left =
      let high = free_ring_lem (head_of queues from).slot in
      moved_other queues rows octets sound from slot later e to high.1 ring left (λ same. omega arith)

  -- and the store is sound
  pub freed_sound : Sound (freed queues from).spans (freed queues from).rings rows octets
  unfolding freed
  freed_sound = move_sound queues rows octets sound from to (free_ring_lem (head_of queues from).slot).1
