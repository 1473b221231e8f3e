-- A free slot stays free until it is taken: no move of a message to another queue, and none that gives a message up, takes a slot from a
-- ring of free ones.
-- Assumes nothing.
use mathlib.Core.Path.{◌≡◌, sym, ap, subst}
use mathlib.Core.Bool.{true}
use mathlib.Core.List.{List}
use Prim.Native.Nat.{ℕ, ◌+◌, ◌≤◌, ◌<◌}
use native.Mathlib.Omega.{arith}
use borrow.Author.Tests.{ne_eqb}
use borrow.Table.Steps.{cases}
use Rattle.plan.proofs.Split.{alike}
use Rattle.queue_rings.specs.Ring.{queue, spans_taken, spans_put, rings_put}
use Rattle.queue_rings.proofs.Queues.{taken_other, put_other}
use Rattle.queue_store.specs.Sound.{bit, tally, is, Sound}
use Rattle.queue_store.proofs.Held.{taken_tally, put_tally}
use Rattle.queue_heads.specs.Head.{Queues, head_of, moved, free_ring, freed}
use Rattle.queue_moving.specs.Move.{apart}
use Rattle.promise_runs.proofs.Counts.{move_sound}
use Rattle.promise_ledger.proofs.Balance.{moved_some, moved_none, head_some, head_long, head_room, free_there}

-- how often a slot stands in a ring
abbrev pub stands_in : Queues → ℕ → ℕ → ℕ
stands_in queues slot ring = tally (is slot) (queue queues.spans queues.rings ring)

-- and in the rings of free slots
abbrev pub free_in : Queues → ℕ → ℕ
free_in queues slot = stands_in queues slot 33 + stands_in queues slot 34

module _ (rows octets : List ℕ) where
  abbrev pub SoundIn : Queues → Type 0
  SoundIn queues = Sound queues.spans queues.rings rows octets

  -- the store is sound, what was free is free, and no ring but one has lost a slot
  pub record Freer (from : ℕ) (before after : Queues) : Type 0 where
    pub sound : SoundIn after
    pub free : (slot : ℕ) → free_in before slot ≤ free_in after slot
    pub others : (slot ring : ℕ) → (ring ≡ from → ⊥) → stands_in before slot ring ≤ stands_in after slot ring

  -- nothing happens
  pub freer_none : (from : ℕ) (queues : Queues) → SoundIn queues → Freer from queues queues
  freer_none from queues sound = record { sound = sound; free = λ slot. omega arith; others = λ slot ring apart. omega arith }

  -- one after the other
  pub freer_on : (from : ℕ) (first next last : Queues) → Freer from first next → Freer from next last → Freer from first last
  freer_on from first next last earlier later =
      record {
        sound = later.sound;
        free = λ slot. omega (arith, earlier.free slot, later.free slot);
        others = λ slot ring apart. omega (arith, earlier.others slot ring apart, later.others slot ring apart);
      }

  module _ (queues : Queues) (sound : SoundIn queues) where
    -- a ring loses no slot by a move from another
    ring_stays : (from to : ℕ) → to < 35 → (slot ring : ℕ) → (ring ≡ from → ⊥)
        → stands_in queues slot ring ≤ stands_in (moved queues from to) slot ring
    ring_stays from to h slot ring other =
        cases (head_of queues from).found
        (λ found.
        let left : List ℕ = spans_taken queues.spans from in
        let head : ℕ = (head_of queues from).slot in
        let after = ap (λ (q : Queues). stands_in q slot ring) (moved_some queues from to found) in
        let before = ap (tally (is slot)) (taken_other queues.spans queues.rings from ring other) in
        let put =
        put_tally (is slot) left queues.rings (head_long rows octets queues sound from found) to head sound.rings_long
        (head_room rows octets queues sound from found to h)
        in
        let more : tally (is slot) (queue left queues.rings ring)
        ≤ tally (is slot) (queue (spans_put left to) (rings_put left queues.rings to head) ring) =
        alike ring to
        (λ e.
        subst
        (λ (r : ℕ).
        tally (is slot) (queue left queues.rings r)
        ≤ tally (is slot) (queue (spans_put left to) (rings_put left queues.rings to head) r))
        (sym e)
        (omega (arith, put)))
        (λ apart. omega (arith, ap (tally (is slot)) (put_other left queues.rings to head ring apart)))
        in
        omega (arith, after, before, more))
        (λ gone. omega (arith, ap (λ (q : Queues). stands_in q slot ring) (moved_none queues from to gone)))

    -- the head of a queue goes anywhere
    pub freer_move : (from to : ℕ) → from < 33 → to < 35 → Freer from queues (moved queues from to)
    freer_move from to h k =
        record {
          sound = move_sound queues rows octets sound from to k;
          free =
              λ slot.
              omega (
                arith,
                ring_stays from to k slot 33 (λ e. omega arith),
                ring_stays from to k slot 34 (λ e. omega arith),
              );
          others = ring_stays from to k;
        }

    -- it is given up
    pub freer_freed : (ring : ℕ) → ring < 33 → Freer ring queues (freed queues ring)
    unfolding freed
    freer_freed ring h = freer_move ring (free_ring (head_of queues ring).slot) h (free_there (head_of queues ring).slot)

    -- the head of a ring of free slots goes to a queue: the others stay
    pub others_stay : (from to : ℕ) → (head_of queues from).found ≡ true → 33 ≤ from → to < 33 → (slot : ℕ)
        → (slot ≡ (head_of queues from).slot → ⊥)
        → free_in queues slot ≤ free_in (moved queues from to) slot
    unfolding head_of
    others_stay from to found h k slot other-slot =
        let at : (ring : ℕ) → 33 ≤ ring → stands_in queues slot ring ≤ stands_in (moved queues from to) slot ring =
        λ ring free.
        alike ring from
        (λ e.
        subst (λ (r : ℕ). stands_in queues slot r ≤ stands_in (moved queues from to) slot r) (sym e)
        (let left : List ℕ = spans_taken queues.spans from in
        let head : ℕ = (head_of queues from).slot in
        let some = head_some rows octets queues sound from found in
        let after = ap (λ (q : Queues). stands_in q slot from) (moved_some queues from to found) in
        let same = ap (tally (is slot)) (put_other left queues.rings to head from (λ e. omega arith)) in
        let before = taken_tally (is slot) queues.spans queues.rings sound.spans_long from some in
        let no : bit (is slot head) ≡ 0 = simp (ne_eqb head slot (λ e. other-slot (sym e))) in
        omega (arith, after, same, before, no)))
        (λ other. ring_stays from to (omega arith) slot ring other)
        in
        omega (arith, at 33 (omega arith), at 34 (omega arith))
