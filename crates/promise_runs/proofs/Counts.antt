-- How many messages the rings hold after the head of one has moved to another: the one has one less, the other one more if there was
-- a head, and the rest are as they were. The store stays sound.
-- Assumes nothing.
use mathlib.Core.Path.{◌≡◌, ap, ◌∙◌}
use mathlib.Core.Bool.{true, false}
use mathlib.Core.List.{List}
use Prim.Native.Nat.{ℕ, ◌+◌, ◌-◌, ◌≤◌, ◌<◌}
use native.Mathlib.Omega.{arith}
use lib.ListN.{length}
use borrow.Table.Steps.{cases}
use Rattle.plan.proofs.Split.{alike}
use Rattle.queue_rings.specs.Ring.{count_of, take_of, spans_taken, spans_put}
use Rattle.queue_rings.specs.Move.{spans_moved}
use Rattle.queue_store.specs.Sound.{Sound}
use Rattle.queue_rings.proofs.Spans.{taken_count, taken_count_other, taken_length, put_count, put_count_other}
use Rattle.queue_rings.proofs.Queues.{found_some, found_none}
use Rattle.queue_store.proofs.Moves.{taken_room, sound_move}
use Rattle.queue_heads.specs.Head.{Queues, moved}

module _
    (queues : Queues)
    (rows octets : List ℕ)
    (sound : Sound queues.spans queues.rings rows octets)
    (from to : ℕ)
    (h : to < 35) where
  abbrev spans : List ℕ
  spans = queues.spans

  abbrev rings : List ℕ
  rings = queues.rings

  abbrev after : List ℕ
  after = (moved queues from to).spans

  -- the store stays sound
  pub move_sound : Sound after (moved queues from to).rings rows octets
  unfolding moved
  move_sound = sound_move spans rings rows octets sound from to h

  -- with no head nothing moves
  move_none : (take_of spans rings from).found ≡ false → (ring : ℕ) → count_of after ring ≡ count_of spans ring
  unfolding moved spans_moved
  move_none none ring = simp none

  move_some : (take_of spans rings from).found ≡ true → (ring : ℕ)
      → count_of after ring ≡ count_of (spans_put (spans_taken spans from) to) ring
  unfolding moved spans_moved
  move_some some ring = simp some

  taken_long : length (spans_taken spans from) ≡ 70
  taken_long = taken_length spans from ∙ sound.spans_long

  -- one that it neither leaves nor comes to has as many
  pub move_other : (ring : ℕ) → (ring ≡ from → ⊥) → (ring ≡ to → ⊥) → count_of after ring ≡ count_of spans ring
  move_other ring apart other =
      cases (take_of spans rings from).found
      (λ some.
      move_some some ring
      ∙ put_count_other (spans_taken spans from) to ring other
      ∙ taken_count_other spans from ring apart)
      (λ none. move_none none ring)

  -- the one that it leaves for another has one less, if it had one
  pub move_from : (from ≡ to → ⊥) → count_of after from ≡ count_of spans from - 1
  move_from apart =
      cases (take_of spans rings from).found
      (λ some.
      move_some some from
      ∙ put_count_other (spans_taken spans from) to from apart
      ∙ taken_count spans from sound.spans_long (found_some spans rings from some))
      (λ none. omega (arith, move_none none from, found_none spans rings from none))

  -- and the other has one more
  pub move_to : (to ≡ from → ⊥) → (take_of spans rings from).found ≡ true → count_of after to ≡ count_of spans to + 1
  move_to apart some =
      let room = taken_room spans rings rows octets sound from some to h in
      move_some some to
      ∙ put_count (spans_taken spans from) to taken_long room
      ∙ ap (λ (n : ℕ). n + 1) (taken_count_other spans from to apart)

  -- so a ring that it doesn't leave has no less
  pub move_no_less : (ring : ℕ) → (ring ≡ from → ⊥) → count_of spans ring ≤ count_of after ring
  move_no_less ring apart =
      alike ring to
      (λ same.
      let apart-to : to ≡ from → ⊥ = λ e. apart (same ∙ e) in
      simp same
      (cases (take_of spans rings from).found
      (λ some. omega (arith, move_to apart-to some))
      (λ none. omega (arith, move_none none to))))
      (λ other. omega (arith, move_other ring apart other))
