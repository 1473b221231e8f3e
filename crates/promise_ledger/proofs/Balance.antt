-- What is held balances: a message that goes from one queue to another stays held, and one that is given up is held no more.
-- Assumes nothing.
use mathlib.Core.Path.{◌≡◌, ap, ◌∙◌}
use mathlib.Core.Bool.{Bool, true, false}
use mathlib.Core.List.{List}
use Prim.Native.Nat.{ℕ, ◌+◌, ◌≤◌, ◌<◌}
use native.Mathlib.Omega.{arith}
use lib.Dec.{ltb}
use lib.ListN.{length}
use borrow.Author.Tests.{lt-ltb}
use borrow.Table.Steps.{cases}
use Rattle.queue_rings.specs.Ring.{count_of, spans_taken, room_in, spans_put, rings_put}
use Rattle.queue_rings.specs.Move.{spans_moved, rings_moved}
use Rattle.queue_store.specs.Sound.{bit, Sound}
use Rattle.queue_rings.proofs.Spans.{taken_length}
use Rattle.queue_rings.proofs.Queues.{found_some, found_count}
use Rattle.queue_store.proofs.Moves.{taken_room}
use Rattle.queue_heads.specs.Head.{Queues, both, head_of, moved, free_ring, freed}
use Rattle.promise_ledger.specs.Held.{arrival_of, held_of}
use Rattle.promise_ledger.proofs.Rings.{queue_taken, queue_put, free_put}

-- where a ring has a head, a move takes it and puts it; where it has none, nothing moves
pub moved_some : (queues : Queues) (from to : ℕ) → (head_of queues from).found ≡ true
    → moved queues from to
    ≡ both (spans_put (spans_taken queues.spans from) to)
    (rings_put (spans_taken queues.spans from) queues.rings to (head_of queues from).slot)
unfolding head_of moved spans_moved rings_moved
moved_some queues from to found = simp found

pub moved_none : (queues : Queues) (from to : ℕ) → (head_of queues from).found ≡ false → moved queues from to ≡ queues
unfolding head_of moved spans_moved rings_moved
moved_none queues from to none = simp none

-- a ring with a slot has a head
pub head_found : (queues : Queues) (ring : ℕ) → 0 < count_of queues.spans ring → (head_of queues ring).found ≡ true
unfolding head_of
head_found queues ring some =
    found_count queues.spans queues.rings ring ∙ lt-ltb 0 (count_of queues.spans ring) some

-- the ring that a slot goes back to is there, and of no queue
pub free_there : (slot : ℕ) → free_ring slot < 35
free_there slot = cases (ltb slot 192) (λ e. simp e (omega arith)) (λ e. simp e (omega arith))

pub free_apart : (slot : ℕ) → 33 ≤ free_ring slot
free_apart slot = cases (ltb slot 192) (λ e. simp e (omega arith)) (λ e. simp e (omega arith))

module _ (rows octets : List ℕ) (queues : Queues) (sound : Sound queues.spans queues.rings rows octets) where
  abbrev spans : List ℕ
  spans = queues.spans

  abbrev rings : List ℕ
  rings = queues.rings

  -- a head that there is can be taken off, and put to any ring
  module _ (from : ℕ) (found : (head_of queues from).found ≡ true) where
    pub head_some : 0 < count_of spans from
    unfolding head_of
    head_some = found_some spans rings from found

    pub head_long : length (spans_taken spans from) ≡ 70
    head_long = taken_length spans from ∙ sound.spans_long

    pub head_room : (to : ℕ) → to < 35 → room_in (spans_taken spans from) to ≡ true
    unfolding head_of
    head_room to h = taken_room spans rings rows octets sound from found to h

  module _ (test : ℕ → Bool) where
    -- the head of a queue taken off
    head_taken : (from : ℕ) → (head_of queues from).found ≡ true → from < 33
        → held_of test rows (both (spans_taken spans from) rings) + bit (test (arrival_of rows (head_of queues from).slot))
        ≡ held_of test rows queues
    unfolding head_of
    head_taken from found h = queue_taken test rows spans rings sound.spans_long from h (head_some from found)

    -- a message that goes from one queue to another, or to the end of its own, is held as before
    pub held_move : (from to : ℕ) → from < 33 → to < 33 → held_of test rows (moved queues from to) ≡ held_of test rows queues
    held_move from to h k =
        cases (head_of queues from).found
        (λ found.
        ap (held_of test rows) (moved_some queues from to found)
        ∙ queue_put test rows (spans_taken spans from) rings (head_long from found) to (head_of queues from).slot k sound.rings_long
        (head_room from found to (omega arith))
        ∙ head_taken from found h)
        (λ none. ap (held_of test rows) (moved_none queues from to none))

    -- one that is given up is held no more
    pub held_freed : (ring : ℕ) → ring < 33 → (head_of queues ring).found ≡ true
        → held_of test rows (freed queues ring) + bit (test (arrival_of rows (head_of queues ring).slot)) ≡ held_of test rows queues
    unfolding freed
    held_freed ring h found =
        let to : ℕ = free_ring (head_of queues ring).slot in
        let put =
        ap (held_of test rows) (moved_some queues ring to found)
        ∙ free_put test rows (spans_taken spans ring) rings (head_long ring found) to (head_of queues ring).slot
        (free_apart (head_of queues ring).slot)
        in
        omega (arith, head_taken ring found h)
