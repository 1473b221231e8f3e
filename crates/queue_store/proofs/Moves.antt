-- A sound store stays sound: a slot that is taken from one ring and put to any leaves each slot in one place, and the put always
-- finds room. Assumes nothing.
use Rattle.std.proofs.Common.{◌≡◌, ℕ, ◌<◌, ◌≤◌, Bool, true, not, ltb, List, [], ◌∷◌, ◌++◌, length, get_or, sym, refl, ◌∙◌, arith, length-set, ltb-false, ltb-true, eq-eqb}
use Rattle.queue_rings.specs.Ring.{count_of, queue, take_of, spans_taken, room_in, spans_put, rings_put}
use Rattle.queue_rings.specs.Move.{spans_moved, rings_moved}
use Rattle.queue_store.specs.Sound.{bit, sum, held, is, Sound}
use Rattle.queue_rings.proofs.Steps.{no_ring, room_there}
use borrow.Table.Steps.{cases}
use Rattle.queue_rings.proofs.Spans.{taken_length, put_length}
use Rattle.queue_rings.proofs.Queues.{found_some, taken_head, put_queue}
use Rattle.queue_store.proofs.Sums.{sum_part, sum_ones}
use Rattle.queue_store.proofs.Held.{held_taken, held_put, held_all, held_both, held_below, held_some}

-- a put leaves the rings as long as they were
pub rings_length : (spans rings : List ℕ) (ring slot : ℕ) → length (rings_put spans rings ring slot) ≡ length rings
unfolding rings_put
rings_length spans rings ring slot = cases (room_in spans ring) (λ e. simp (e, length-set)) (λ e. simp e)

-- no ring holds more than all together
pub count_part : (spans : List ℕ) (ring : ℕ) → count_of spans ring ≤ sum (count_of spans) 35
count_part spans ring =
    cases (ltb ring 35)
    (λ e. sum_part (count_of spans) 35 ring (ltb-true ring 35 e))
    (λ e. omega (arith, no_ring spans ring (ltb-false ring 35 e)))

module _ (spans rings rows octets : List ℕ) (sound : Sound spans rings rows octets) where
  -- a slot that stands in a ring is one of the 256
  pub slot_below : (ring place : ℕ) → place < count_of spans ring → get_or (queue spans rings ring) place 0 < 256
  slot_below ring place h =
      let small = held_below spans rings 256 ∙ sum_ones (λ given. held (is given) spans rings) 256 sound.once in
      let both = held_both spans rings (λ slot. ltb slot 256) in
      cases (ltb (get_or (queue spans rings ring) place 0) 256)
      (ltb-true (get_or (queue spans rings ring) place 0) 256)
      (λ e.
      let large = held_some spans rings (λ slot. not (ltb slot 256)) ring place h (simp e) in
      absurd (omega (arith, sound.all)))

  module _ (from : ℕ) (found : (take_of spans rings from).found ≡ true) where
    -- after a take the rings hold 255
    pub taken_all : sum (count_of (spans_taken spans from)) 35 ≡ 255
    taken_all =
        omega (
          arith,
          held_taken (λ slot. true) spans rings sound.spans_long from (found_some spans rings from found),
          held_all spans rings,
          held_all (spans_taken spans from) rings,
          sound.all,
        )

    -- so none is full, and a put finds room
    pub taken_room : (to : ℕ) → to < 35 → room_in (spans_taken spans from) to ≡ true
    taken_room to h =
        room_there (spans_taken spans from) to h (omega (arith, count_part (spans_taken spans from) to, taken_all))

    -- the slot is at the end of the ring that it is put to
    pub moved_queue : (to : ℕ) → to < 35
        → queue (spans_put (spans_taken spans from) to) (rings_put (spans_taken spans from) rings to (take_of spans rings from).slot) to
        ≡ queue (spans_taken spans from) rings to ++ ((take_of spans rings from).slot ∷ [])
    moved_queue to h =
        let long = taken_length spans from ∙ sound.spans_long in
        put_queue (spans_taken spans from) rings to (take_of spans rings from).slot long sound.rings_long (taken_room to h)

    -- a take and a put hold what was held
    pub held_moved : (test : ℕ → Bool) (to : ℕ) → to < 35
        → held test (spans_put (spans_taken spans from) to) (rings_put (spans_taken spans from) rings to (take_of spans rings from).slot)
        ≡ held test spans rings
    held_moved test to h =
        let long = taken_length spans from ∙ sound.spans_long in
        held_put test (spans_taken spans from) rings long to (take_of spans rings from).slot sound.rings_long (taken_room to h)
        ∙ held_taken test spans rings sound.spans_long from (found_some spans rings from found)

    -- a take and a put keep the store sound
    pub sound_moved : (to : ℕ) → to < 35
        → Sound (spans_put (spans_taken spans from) to)
        (rings_put (spans_taken spans from) rings to (take_of spans rings from).slot)
        rows
        octets
    sound_moved to h =
        let slot : ℕ = (take_of spans rings from).slot in
        let spans' : List ℕ = spans_put (spans_taken spans from) to in
        let rings' : List ℕ = rings_put (spans_taken spans from) rings to slot in
        let whole : sum (count_of spans') 35 ≡ 256 =
        sym (held_all spans' rings') ∙ held_moved (λ slot. true) to h ∙ held_all spans rings ∙ sound.all
        in
        record {
          spans_long = put_length (spans_taken spans from) to ∙ taken_length spans from ∙ sound.spans_long;
          rings_long = rings_length (spans_taken spans from) rings to slot ∙ sound.rings_long;
          rows_long = sound.rows_long;
          octets_long = sound.octets_long;
          all = whole;
          short = λ ring. omega (arith, count_part spans' ring);
          once = λ given l. held_moved (is given) to h ∙ sound.once given l;
        }

    -- the slot that is taken is one of the 256
    pub taken_below : (take_of spans rings from).slot < 256
    taken_below =
        let some = found_some spans rings from found in
        simp (taken_head spans rings from some) (slot_below from 0 some)

    -- it has left every ring
    pub taken_gone : held (is (take_of spans rings from).slot) (spans_taken spans from) rings ≡ 0
    taken_gone =
        let slot : ℕ = (take_of spans rings from).slot in
        let left = held_taken (is slot) spans rings sound.spans_long from (found_some spans rings from found) in
        let here : bit (is slot slot) ≡ 1 = simp (eq-eqb slot slot refl) in
        omega (arith, sound.once slot taken_below)

    -- so no other slot that stands in a ring is the same
    pub taken_apart : (ring place : ℕ) → place < count_of (spans_taken spans from) ring
        → get_or (queue (spans_taken spans from) rings ring) place 0 ≡ (take_of spans rings from).slot → ⊥
    taken_apart ring place h same =
        let slot : ℕ = (take_of spans rings from).slot in
        let there = eq-eqb (get_or (queue (spans_taken spans from) rings ring) place 0) slot same in
        omega (arith, held_some (spans_taken spans from) rings (is slot) ring place h there, taken_gone)

  -- a move keeps the store sound
  pub sound_move : (from to : ℕ) → to < 35 → Sound (spans_moved spans rings from to) (rings_moved spans rings from to) rows octets
  unfolding spans_moved rings_moved
  sound_move from to h =
      cases (take_of spans rings from).found (λ e. simp e (sound_moved from e to h)) (λ e. simp e sound)
