-- The two kinds of slots: 192 for user messages and 64 for management messages are always in the rings, and moves that suit the slot
-- keep the free ones apart, so that what a kind doesn't hold is free. Assumes nothing.
use Rattle.std.proofs.Common.{◌≡◌, ℕ, ◌+◌, ◌<◌, ◌≤◌, Bool, true, false, eqb, List, length, get_or, sym, ◌∙◌, arith, ltb-false, ltb-true, eqb-true}
use borrow.Author.Tests.{eqb-false, not-true}
use Rattle.queue_rings.specs.Ring.{count_of, queue, take_of, spans_taken, spans_put, rings_put}
use Rattle.queue_rings.specs.Move.{spans_moved, rings_moved}
use Rattle.queue_store.specs.Sound.{tally, sum, held, is, user, management, Sound, Kinds, Suits}
use borrow.Table.Steps.{cases}
use Rattle.queue_rings.proofs.Spans.{taken_length}
use Rattle.queue_rings.proofs.Queues.{queue_length, found_some, taken_head, taken_other, put_other}
use Rattle.queue_store.proofs.Sums.{sum_ones, sum_two}
use Rattle.queue_store.proofs.Tallies.{tally_both, tally_some}
use Rattle.queue_store.proofs.Held.{held_both, held_below, taken_tally, put_tally}
use Rattle.queue_store.proofs.Moves.{taken_room}

module _ (spans rings rows octets : List ℕ) (sound : Sound spans rings rows octets) where
  -- all user slots are in the rings, and all management slots
  pub users : held user spans rings ≡ 192
  users =
      held_below spans rings 192
      ∙ sum_ones (λ given. held (is given) spans rings) 192 (λ given h. sound.once given (omega arith))

  pub managements : held management spans rings ≡ 64
  managements = omega (arith, held_both spans rings user, users, sound.all)

  -- what is free and what the other rings hold are 256 together
  pub free_and_held : sum (count_of spans) 33 + count_of spans 33 + count_of spans 34 ≡ 256
  free_and_held = sym (sum_two (count_of spans) 33) ∙ sound.all

  module _ (kinds : Kinds spans rings) where
    -- what is free of a kind and what the other rings hold of it are all that there are
    pub free_user_lem : sum (λ ring. tally user (queue spans rings ring)) 33 + count_of spans 33 ≡ 192
    unfolding held
    free_user_lem =
        omega (
          arith,
          sum_two (λ ring. tally user (queue spans rings ring)) 33,
          users,
          kinds.free_user,
          kinds.free_management,
          tally_both user (queue spans rings 33),
          queue_length spans rings 33,
        )

    pub free_management_lem : sum (λ ring. tally management (queue spans rings ring)) 33 + count_of spans 34 ≡ 64
    unfolding held
    free_management_lem =
        omega (
          arith,
          sum_two (λ ring. tally management (queue spans rings ring)) 33,
          managements,
          kinds.free_user,
          kinds.free_management,
          tally_both user (queue spans rings 34),
          queue_length spans rings 34,
        )

    -- a slot in a ring of free ones is of the ring's kind
    pub user_slot : (place : ℕ) → place < count_of spans 33 → get_or (queue spans rings 33) place 0 < 192
    user_slot place h =
        let slot : ℕ = get_or (queue spans rings 33) place 0 in
        let there : place < length (queue spans rings 33) = omega (arith, queue_length spans rings 33) in
        cases (user slot) (ltb-true slot 192)
        (λ e. absurd (omega (arith, tally_some management (queue spans rings 33) place there (simp e), kinds.free_user)))

    pub management_slot : (place : ℕ) → place < count_of spans 34 → 192 ≤ get_or (queue spans rings 34) place 0
    management_slot place h =
        let slot : ℕ = get_or (queue spans rings 34) place 0 in
        let there : place < length (queue spans rings 34) = omega (arith, queue_length spans rings 34) in
        cases (user slot)
        (λ e. absurd (omega (arith, tally_some user (queue spans rings 34) place there e, kinds.free_management)))
        (ltb-false slot 192)

    -- and so is one that is taken from it
    pub taken_user : (take_of spans rings 33).found ≡ true → (take_of spans rings 33).slot < 192
    taken_user found =
        let some = found_some spans rings 33 found in
        simp (taken_head spans rings 33 some) (user_slot 0 some)

    pub taken_management : (take_of spans rings 34).found ≡ true → 192 ≤ (take_of spans rings 34).slot
    taken_management found =
        let some = found_some spans rings 34 found in
        simp (taken_head spans rings 34 some) (management_slot 0 some)

  module _ (from : ℕ) (found : (take_of spans rings from).found ≡ true) where
    -- a take leaves no ring more of a kind
    less_taken : (test : ℕ → Bool) (ring : ℕ)
        → tally test (queue (spans_taken spans from) rings ring) ≤ tally test (queue spans rings ring)
    less_taken test ring =
        cases (eqb ring from)
        (λ e.
        let head = taken_tally test spans rings sound.spans_long from (found_some spans rings from found) in
        simp (eqb-true ring from e) (omega arith))
        (λ e. simp (taken_other spans rings from ring (eqb-false ring from e)) (omega arith))

    -- a ring that has none of a kind has none after a slot of another kind is moved to it, or any to another ring
    none_moved : (test : ℕ → Bool) (to ring : ℕ) → to < 35 → (to ≡ ring → test (take_of spans rings from).slot ≡ false)
        → tally test (queue spans rings ring) ≡ 0
        → tally test
        (queue (spans_put (spans_taken spans from) to) (rings_put (spans_taken spans from) rings to (take_of spans rings from).slot) ring)
        ≡ 0
    none_moved test to ring h suits none =
        let slot : ℕ = (take_of spans rings from).slot in
        let long = taken_length spans from ∙ sound.spans_long in
        let room = taken_room spans rings rows octets sound from found to h in
        let less = less_taken test ring in
        cases (eqb ring to)
        (λ e.
        let same : ring ≡ to = eqb-true ring to e in
        let other-kind : test slot ≡ false = suits (sym same) in
        let more = put_tally test (spans_taken spans from) rings long to slot sound.rings_long room in
        simp same (omega (arith, simp other-kind at more, simp same at less, simp same at none)))
        (λ e.
        simp (put_other (spans_taken spans from) rings to slot ring (eqb-false ring to e)) (omega arith))

    -- a take and a put that suit the slot keep the kinds apart
    pub kinds_moved : (to : ℕ) → to < 35 → Suits (take_of spans rings from).slot to → Kinds spans rings
        → Kinds (spans_put (spans_taken spans from) to) (rings_put (spans_taken spans from) rings to (take_of spans rings from).slot)
    kinds_moved to h suits kinds =
        record {
          free_user = none_moved management to 33 h (λ e. simp (suits.to_user e)) kinds.free_user;
          free_management =
              none_moved user to 34 h
              (λ e. not-true (user (take_of spans rings from).slot) (suits.to_management e))
              kinds.free_management;
        }

  -- a move that suits the slot keeps the kinds apart
  pub kinds_move : (from to : ℕ) → to < 35 → Suits (take_of spans rings from).slot to → Kinds spans rings
      → Kinds (spans_moved spans rings from to) (rings_moved spans rings from to)
  unfolding spans_moved rings_moved
  kinds_move from to h suits kinds =
      cases (take_of spans rings from).found (λ e. simp e (kinds_moved from e to h suits kinds)) (λ e. simp e kinds)
