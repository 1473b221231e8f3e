-- Each slot of a sound store is in exactly one place: it stands in some ring, and where it stands in two places they are the same.
-- Assumes nothing.
use Rattle.std.proofs.Common.{◌≡◌, ℕ, ◌<◌, ◌≤◌, eqb, List, get_or, arith, eq-eqb, eqb-true}
use borrow.Author.Tests.{eqb-false}
use Rattle.queue_rings.specs.Ring.{count_of, queue}
use Rattle.queue_store.specs.Sound.{tally, held, is, Sound}
use Rattle.queue_store.specs.Place.{Place}
use borrow.Table.Steps.{cases}
use Rattle.queue_rings.proofs.Spans.{ring_there}
use Rattle.queue_rings.proofs.Queues.{queue_length}
use Rattle.queue_store.proofs.Sums.{sum_part, sum_parts, sum_some}
use Rattle.queue_store.proofs.Tallies.{tally_some, tally_twice, tally_place}
use Rattle.queue_store.proofs.Moves.{slot_below}

module _ (spans rings : List ℕ) (slot : ℕ) where
  -- a place's slot is in the tally of its ring
  in_ring : (p : Place spans rings slot) → 1 ≤ tally (is slot) (queue spans rings p.ring)
  in_ring p =
      tally_some (is slot) (queue spans rings p.ring) p.place (omega (arith, queue_length spans rings p.ring, p.within))
      (eq-eqb (get_or (queue spans rings p.ring) p.place 0) slot p.stands)

  ring_of : (p : Place spans rings slot) → p.ring < 35
  ring_of p = ring_there spans p.ring (omega (arith, p.within))

  -- two places in two rings, or two in one, are twice the slot
  pub two_rings : (p q : Place spans rings slot) → (p.ring ≡ q.ring → ⊥) → 2 ≤ held (is slot) spans rings
  unfolding held
  two_rings p q apart =
      omega (
        arith,
        sum_parts (λ ring. tally (is slot) (queue spans rings ring)) 35 p.ring q.ring (ring_of p) (ring_of q) apart,
        in_ring p,
        in_ring q,
      )

  pub two_places : (p q : Place spans rings slot) → p.ring ≡ q.ring → (p.place ≡ q.place → ⊥) → 2 ≤ held (is slot) spans rings
  unfolding held
  two_places p q same apart =
      let slots : List ℕ = queue spans rings p.ring in
      let long = queue_length spans rings p.ring in
      let far : q.place < count_of spans p.ring = simp same q.within in
      let there : get_or slots q.place 0 ≡ slot = simp same q.stands in
      let twice =
      tally_twice (is slot) slots p.place q.place (omega (arith, p.within)) (omega arith) apart
      (eq-eqb (get_or slots p.place 0) slot p.stands)
      (eq-eqb (get_or slots q.place 0) slot there)
      in
      omega (arith, sum_part (λ ring. tally (is slot) (queue spans rings ring)) 35 p.ring (ring_of p))

  -- a slot that is held stands in a place
  pub some_place : 1 ≤ held (is slot) spans rings → Place spans rings slot
  unfolding held
  some_place h =
      let ring = sum_some (λ ring. tally (is slot) (queue spans rings ring)) 35 h in
      let place = tally_place (is slot) (queue spans rings ring.0) ring.1.1 in
      record {
        ring = ring.0;
        place = place.0;
        within = omega (arith, queue_length spans rings ring.0, place.1.0);
        stands = eqb-true (get_or (queue spans rings ring.0) place.0 0) slot place.1.1;
      }

module _ (spans rings rows octets : List ℕ) (sound : Sound spans rings rows octets) (slot : ℕ) where
  -- each slot is in a place
  pub one_place : slot < 256 → Place spans rings slot
  one_place h = some_place spans rings slot (omega (arith, sound.once slot h))

  -- and in no other
  pub same_place : (p q : Place spans rings slot) → (p.ring ≡ q.ring) × (p.place ≡ q.place)
  same_place p q =
      let small : slot < 256 = simp p.stands at (slot_below spans rings rows octets sound p.ring p.place p.within) in
      let once = sound.once slot small in
      let rings-same : p.ring ≡ q.ring =
      cases (eqb p.ring q.ring) (eqb-true p.ring q.ring)
      (λ e. absurd (omega (arith, two_rings spans rings slot p q (eqb-false p.ring q.ring e))))
      in
      let places_same : p.place ≡ q.place =
      cases (eqb p.place q.place) (eqb-true p.place q.place)
      (λ e. absurd (omega (arith, two_places spans rings slot p q rings-same (eqb-false p.place q.place e))))
      in
      (rings-same, places_same)
