-- What the rings hold together: a take takes one slot off it, a put adds one. Assumes nothing.
use Rattle.std.proofs.Common.{◌≡◌, ℕ, ◌+◌, ◌<◌, ◌≤◌, Bool, true, not, ltb, List, length, get_or, sym, ap, ◌∙◌, arith}
use Rattle.queue_rings.specs.Ring.{count_of, queue, take_of, spans_taken, room_in, spans_put, rings_put}
use Rattle.queue_store.specs.Sound.{bit, tally, sum, held, is}
use Rattle.queue_rings.proofs.Spans.{ring_there, room_ring}
use Rattle.queue_rings.proofs.Queues.{queue_length, taken_queue, taken_other, put_queue, put_other}
use Rattle.queue_store.proofs.Sums.{sum_same, sum_change, sum_part, sum_add, sum_swap}
use Rattle.queue_store.proofs.Tallies.{tally_head, tally_end, tally_both, tally_all, tally_some, tally_below}

module _ (test : ℕ → Bool) (spans rings : List ℕ) (long : length spans ≡ 70) where
  -- a ring without its head
  pub taken_tally : (from : ℕ) → 0 < count_of spans from
      → tally test (queue spans rings from)
      ≡ bit (test (take_of spans rings from).slot) + tally test (queue (spans_taken spans from) rings from)
  taken_tally from some =
      ap (tally test) (taken_queue spans rings from long some)
      ∙ tally_head test (take_of spans rings from).slot (queue (spans_taken spans from) rings from)

  -- after a take the rings hold one slot less
  pub held_taken : (from : ℕ) → 0 < count_of spans from
      → held test (spans_taken spans from) rings + bit (test (take_of spans rings from).slot) ≡ held test spans rings
  unfolding held
  held_taken from some =
      let before : ℕ → ℕ = λ ring. tally test (queue spans rings ring) in
      let after : ℕ → ℕ = λ ring. tally test (queue (spans_taken spans from) rings ring) in
      let change =
      sum_change before after 35 from (ring_there spans from some)
      (λ ring apart. ap (tally test) (taken_other spans rings from ring apart))
      in
      omega (arith, taken_tally from some)

  -- a ring with a slot more
  pub put_tally : (to slot : ℕ) → length rings ≡ 8960 → room_in spans to ≡ true
      → tally test (queue (spans_put spans to) (rings_put spans rings to slot) to) ≡ tally test (queue spans rings to) + bit (test slot)
  put_tally to slot wide room =
      ap (tally test) (put_queue spans rings to slot long wide room) ∙ tally_end test (queue spans rings to) slot

  -- after a put they hold one more
  pub held_put : (to slot : ℕ) → length rings ≡ 8960 → room_in spans to ≡ true
      → held test (spans_put spans to) (rings_put spans rings to slot) ≡ held test spans rings + bit (test slot)
  unfolding held
  held_put to slot wide room =
      let before : ℕ → ℕ = λ ring. tally test (queue spans rings ring) in
      let after : ℕ → ℕ = λ ring. tally test (queue (spans_put spans to) (rings_put spans rings to slot) ring) in
      let change =
      sum_change before after 35 to (room_ring spans to room)
      (λ ring apart. ap (tally test) (put_other spans rings to slot ring apart))
      in
      omega (arith, put_tally to slot wide room)

module _ (spans rings : List ℕ) where
  -- the counts are how many slots there are of any kind
  pub held_all : held (λ slot. true) spans rings ≡ sum (count_of spans) 35
  unfolding held
  held_all =
      sum_same (λ ring. tally (λ slot. true) (queue spans rings ring)) (count_of spans) 35
      (λ ring h. tally_all (queue spans rings ring) ∙ queue_length spans rings ring)

  -- those that pass a test and those that don't are all
  pub held_both : (test : ℕ → Bool)
      → held test spans rings + held (λ slot. not (test slot)) spans rings ≡ sum (count_of spans) 35
  unfolding held
  held_both test =
      let passes : ℕ → ℕ = λ ring. tally test (queue spans rings ring) in
      let fails : ℕ → ℕ = λ ring. tally (λ slot. not (test slot)) (queue spans rings ring) in
      sym (sum_add passes fails 35)
      ∙ sum_same (λ ring. passes ring + fails ring) (count_of spans) 35
      (λ ring h. tally_both test (queue spans rings ring) ∙ queue_length spans rings ring)

  -- the slots below n are those that are one of the numbers below n
  pub held_below : (n : ℕ) → held (λ slot. ltb slot n) spans rings ≡ sum (λ given. held (is given) spans rings) n
  unfolding held
  held_below n =
      sum_same (λ ring. tally (λ slot. ltb slot n) (queue spans rings ring))
      (λ ring. sum (λ given. tally (is given) (queue spans rings ring)) n)
      35
      (λ ring h. tally_below n (queue spans rings ring))
      ∙ sum_swap (λ ring given. tally (is given) (queue spans rings ring)) n 35

  -- a slot that stands in a ring and passes a test is among those held
  pub held_some : (test : ℕ → Bool) (ring place : ℕ) → place < count_of spans ring
      → test (get_or (queue spans rings ring) place 0) ≡ true
      → 1 ≤ held test spans rings
  unfolding held
  held_some test ring place h e =
      let there : place < length (queue spans rings ring) = omega (arith, queue_length spans rings ring) in
      let one = tally_some test (queue spans rings ring) place there e in
      let ring-is : ring < 35 = ring_there spans ring (omega arith) in
      omega (arith, sum_part (λ r. tally test (queue spans rings r)) 35 ring ring-is)
