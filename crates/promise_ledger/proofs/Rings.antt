-- What is held, by rings: a slot that is taken from a queue or put to one is a message less or more, and one that is taken from or put to
-- a ring of free slots changes nothing.
-- Assumes nothing.
use mathlib.Core.Path.{◌≡◌, refl, sym, ap, ◌∙◌}
use mathlib.Core.Bool.{Bool, true}
use mathlib.Core.List.{List, [], ◌∷◌, map}
use Prim.Native.Nat.{ℕ, ◌+◌, ◌≤◌, ◌<◌}
use native.Mathlib.Omega.{arith}
use lib.ListN.{length}
use Rattle.queue_rings.specs.Ring.{count_of, queue, take_of, spans_taken, room_in, spans_put, rings_put}
use Rattle.queue_store.specs.Sound.{bit, sum, tally}
use Rattle.queue_rings.proofs.Queues.{taken_other, put_other}
use Rattle.queue_store.proofs.Sums.{sum_same, sum_change}
use Rattle.queue_store.proofs.Held.{taken_tally, put_tally}
use Rattle.queue_heads.specs.Head.{both}
use Rattle.promise_ledger.specs.Held.{arrival_of, numbers, held_of}

-- numbers that pass a test are slots whose numbers do
pub tally_map : (test : ℕ → Bool) (number : ℕ → ℕ) (slots : List ℕ)
    → tally test (map number slots) ≡ tally (λ slot. test (number slot)) slots
unfolding tally
tally_map test number [] = refl
tally_map test number (slot ∷ slots) = ap (λ (n : ℕ). bit (test (number slot)) + n) (tally_map test number slots)

module _ (test : ℕ → Bool) (rows : List ℕ) where
  -- whether the message in a slot is one that is counted
  abbrev pub counts : ℕ → Bool
  counts slot = test (arrival_of rows slot)

  -- what a ring holds of them
  abbrev pub within : List ℕ → List ℕ → ℕ → ℕ
  within spans rings ring = tally counts (queue spans rings ring)

  -- what is held, by slots
  pub held_slots : (spans rings : List ℕ) → held_of test rows (both spans rings) ≡ sum (within spans rings) 33
  unfolding held_of numbers
  held_slots spans rings =
      sum_same (λ ring. tally test (map (arrival_of rows) (queue spans rings ring))) (within spans rings) 33
      (λ ring h. tally_map test (arrival_of rows) (queue spans rings ring))

  module _ (spans rings : List ℕ) (long : length spans ≡ 70) where
    -- a take from a queue
    pub queue_taken : (from : ℕ) → from < 33 → 0 < count_of spans from
        → held_of test rows (both (spans_taken spans from) rings) + bit (counts (take_of spans rings from).slot)
        ≡ held_of test rows (both spans rings)
    queue_taken from h some =
        let change =
        sum_change (within spans rings) (within (spans_taken spans from) rings) 33 from h
        (λ ring apart. ap (tally counts) (taken_other spans rings from ring apart))
        in
        omega (
          arith,
          held_slots spans rings,
          held_slots (spans_taken spans from) rings,
          taken_tally counts spans rings long from some,
        )

    -- a take from a ring of free slots
    pub free_taken : (from : ℕ) → 33 ≤ from
        → held_of test rows (both (spans_taken spans from) rings) ≡ held_of test rows (both spans rings)
    free_taken from h =
        held_slots (spans_taken spans from) rings
        ∙ sum_same (within (spans_taken spans from) rings) (within spans rings) 33
        (λ ring l. ap (tally counts) (taken_other spans rings from ring (λ e. omega arith)))
        ∙ sym (held_slots spans rings)

    -- a put to a queue
    pub queue_put : (to slot : ℕ) → to < 33 → length rings ≡ 8960 → room_in spans to ≡ true
        → held_of test rows (both (spans_put spans to) (rings_put spans rings to slot))
        ≡ held_of test rows (both spans rings) + bit (counts slot)
    queue_put to slot h wide room =
        let change =
        sum_change (within spans rings) (within (spans_put spans to) (rings_put spans rings to slot)) 33 to h
        (λ ring apart. ap (tally counts) (put_other spans rings to slot ring apart))
        in
        omega (
          arith,
          held_slots spans rings,
          held_slots (spans_put spans to) (rings_put spans rings to slot),
          put_tally counts spans rings long to slot wide room,
        )

    -- a put to a ring of free slots
    pub free_put : (to slot : ℕ) → 33 ≤ to
        → held_of test rows (both (spans_put spans to) (rings_put spans rings to slot)) ≡ held_of test rows (both spans rings)
    free_put to slot h =
        held_slots (spans_put spans to) (rings_put spans rings to slot)
        ∙ sum_same (within (spans_put spans to) (rings_put spans rings to slot)) (within spans rings) 33
        (λ ring l. ap (tally counts) (put_other spans rings to slot ring (λ e. omega arith)))
        ∙ sym (held_slots spans rings)
