-- The queues after a take and after a put: that of the ring loses its head or gains an end, the others are as they were.
-- Assumes nothing.
use mathlib.Core.Path.{◌≡◌, refl, sym, ap, ap₂, ◌∙◌}
use mathlib.Core.Bool.{true, false}
use mathlib.Core.List.{List, [], ◌∷◌, ◌++◌}
use Prim.Native.Nat.{ℕ, suc, ◌+◌, ◌-◌, ◌%◌, ◌<◌}
use native.Mathlib.Nat.{zero-add}
use native.Mathlib.Numerals.{add-one}
use native.Mathlib.Omega.{arith}
use lib.Dec.{ltb}
use lib.ListN.{length, get_or}
use lib.Seq.{get_or-set_same, get_or-set_other}
use borrow.Author.Tests.{lt-ltb, ltb-true, ltb-false}
use Rattle.area_spans.specs.SpanRows.{span_at}
use Rattle.area_spans.specs.declared.Span.{Span}
use Rattle.queue_rings.specs.declared.ring.Taken.{Taken}
use Rattle.queue_rings.specs.Run.{run}
use Rattle.queue_rings.specs.Ring.{cell, count_of, entry, queue, one, at_of, take_of, spans_taken, room_in, spans_put, rings_put}
use Rattle.queue_rings.proofs.Runs.{run_length, run_same, run_end, run_at}
use borrow.Table.Steps.{cases}
use Rattle.queue_rings.proofs.Spans.{taken_same, taken_span, taken_count, put_same, put_span, put_count, room_ring, room_count}

-- a queue has as many slots as its ring counts
pub queue_length : (spans rings : List ℕ) (ring : ℕ) → length (queue spans rings ring) ≡ count_of spans ring
unfolding queue
queue_length spans rings ring = run_length (entry spans rings ring) 0 (count_of spans ring)

-- a ring that holds none has an empty queue
pub queue_none : (spans rings : List ℕ) (ring : ℕ) → count_of spans ring ≡ 0 → queue spans rings ring ≡ []
unfolding queue run
queue_none spans rings ring e = ap (run (entry spans rings ring) 0) e

-- the answer at a place is what stands there in the queue
pub at_queue : (spans rings : List ℕ) (ring place : ℕ) → place < count_of spans ring
    → at_of spans rings ring place ≡ one (get_or (queue spans rings ring) place 0)
unfolding queue at_of
at_queue spans rings ring place h =
    let there = run_at (entry spans rings ring) 0 (count_of spans ring) place h in
    simp (lt-ltb place (count_of spans ring) h, there, zero-add)

-- two rings have the same queue if they have the same row, and the same slots at the places that it counts
pub queue_same : (spans after rings filled : List ℕ) (ring : ℕ) → span_at after ring ≡ span_at spans ring
    → ((i : ℕ) → i < count_of spans ring
    → get_or filled (cell ring (span_at spans ring).head i) 0 ≡ get_or rings (cell ring (span_at spans ring).head i) 0)
    → queue after filled ring ≡ queue spans rings ring
unfolding queue entry count_of
queue_same spans after rings filled ring same slots =
    let count : (span_at after ring).count ≡ (span_at spans ring).count = ap (λ (s : Span). s.count) same in
    ap (run (entry after filled ring) 0) count
    ∙ run_same (entry after filled ring) (entry spans rings ring) 0 0 (span_at spans ring).count
    (λ i h. simp zero-add (ap (λ (s : Span). get_or filled (cell ring s.head i) 0) same ∙ slots i h))

module _ (spans rings : List ℕ) (ring : ℕ) where
  -- a take finds a slot where the ring holds some
  pub found_count : (take_of spans rings ring).found ≡ ltb 0 (count_of spans ring)
  unfolding take_of at_of
  found_count = cases (ltb 0 (count_of spans ring)) (λ e. simp e) (λ e. simp e)

  pub found_some : (take_of spans rings ring).found ≡ true → 0 < count_of spans ring
  found_some h = ltb-true 0 (count_of spans ring) (sym found_count ∙ h)

  -- where it finds none the ring holds none, and stays as it is
  pub found_none : (take_of spans rings ring).found ≡ false → count_of spans ring ≡ 0
  found_none h = omega (arith, ltb-false 0 (count_of spans ring) (sym found_count ∙ h))

  pub taken_none : (take_of spans rings ring).found ≡ false → spans_taken spans ring ≡ spans
  unfolding spans_taken
  taken_none h = simp (sym found_count ∙ h)

  -- what it finds is the head of the queue
  pub taken_head : 0 < count_of spans ring → (take_of spans rings ring).slot ≡ get_or (queue spans rings ring) 0 0
  unfolding take_of
  taken_head h = ap (λ (t : Taken). t.slot) (at_queue spans rings ring 0 h)

  slot_entry : 0 < count_of spans ring → (take_of spans rings ring).slot ≡ entry spans rings ring 0
  unfolding take_of at_of
  slot_entry h = simp (lt-ltb 0 (count_of spans ring) h)

  module _ (long : length spans ≡ 70) (some : 0 < count_of spans ring) where
    -- after a take each slot stands a place nearer
    entry_nearer : (i : ℕ) → entry (spans_taken spans ring) rings ring i ≡ entry spans rings ring (suc i)
    unfolding entry
    entry_nearer i =
        let head = ap (λ (s : Span). s.head) (taken_same spans ring long some) in
        let on : (((span_at spans ring).head + 1) % 256 + i) % 256 ≡ ((span_at spans ring).head + suc i) % 256 = omega arith in
        simp (head, on)

    -- the slot that is taken was the head, and the others are left in their order
    pub taken_queue : queue spans rings ring ≡ (take_of spans rings ring).slot ∷ queue (spans_taken spans ring) rings ring
    unfolding queue run
    taken_queue =
        let n : ℕ = count_of spans ring - 1 in
        let more : count_of spans ring ≡ suc n = omega arith in
        let left =
        ap (run (entry (spans_taken spans ring) rings ring) 0) (taken_count spans ring long some)
        ∙ run_same (entry (spans_taken spans ring) rings ring) (entry spans rings ring) 0 1 n
        (λ i l. entry_nearer (0 + i) ∙ ap (entry spans rings ring) (omega arith))
        in
        ap (run (entry spans rings ring) 0) more ∙ ap₂ ◌∷◌ (sym (slot_entry some)) (sym left)

  -- the other queues are as they were
  pub taken_other : (other : ℕ) → (other ≡ ring → ⊥) → queue (spans_taken spans ring) rings other ≡ queue spans rings other
  taken_other other apart =
      queue_same spans (spans_taken spans ring) rings rings other (taken_span spans ring other apart) (λ i h. refl)

-- places of a ring that it counts are apart, and so are places of two rings
places_apart : (ring head i n : ℕ) → i < n → n < 256 → cell ring head i ≡ cell ring head n → ⊥
places_apart ring head i n h k = omega arith

rings_apart : (ring other head start i n : ℕ) → (other ≡ ring → ⊥) → cell other start i ≡ cell ring head n → ⊥
rings_apart ring other head start i n apart = omega (arith, apart)

cell_within : (ring head i : ℕ) → ring < 35 → cell ring head i < 8960
cell_within ring head i h = omega arith

module _ (spans rings : List ℕ) (ring slot : ℕ) where
  module _ (long : length spans ≡ 70) (wide : length rings ≡ 8960) (room : room_in spans ring ≡ true) where
    put_head : (span_at (spans_put spans ring) ring).head ≡ (span_at spans ring).head
    put_head = ap (λ (s : Span). s.head) (put_same spans ring long room)

    entry_kept : (i : ℕ) → i < count_of spans ring
        → entry (spans_put spans ring) (rings_put spans rings ring slot) ring i ≡ entry spans rings ring i
    unfolding entry rings_put
    entry_kept i h =
        let head : ℕ = (span_at spans ring).head in
        let apart = places_apart ring head i (count_of spans ring) h (room_count spans ring room) in
        simp (put_head, room) (get_or-set_other rings (cell ring head (count_of spans ring)) (cell ring head i) slot 0 apart)

    entry_end : entry (spans_put spans ring) (rings_put spans rings ring slot) ring (count_of spans ring) ≡ slot
    unfolding entry rings_put
    entry_end =
        let head : ℕ = (span_at spans ring).head in
        let within : cell ring head (count_of spans ring) < length rings =
        omega (arith, cell_within ring head (count_of spans ring) (room_ring spans ring room))
        in
        simp (put_head, room) (get_or-set_same rings (cell ring head (count_of spans ring)) slot 0 within)

    -- the slot that is put stands at the end, behind the others
    pub put_queue : queue (spans_put spans ring) (rings_put spans rings ring slot) ring ≡ queue spans rings ring ++ (slot ∷ [])
    unfolding queue
    put_queue =
        let after : ℕ → ℕ = entry (spans_put spans ring) (rings_put spans rings ring slot) ring in
        let kept = run_same after (entry spans rings ring) 0 0 (count_of spans ring) (λ i h. simp zero-add (entry_kept i h)) in
        ap (run after 0) (put_count spans ring long room ∙ add-one (count_of spans ring))
        ∙ run_end after 0 (count_of spans ring)
        ∙ simp (zero-add, kept, entry_end)

  -- the other queues are as they were
  pub put_other : (other : ℕ) → (other ≡ ring → ⊥)
      → queue (spans_put spans ring) (rings_put spans rings ring slot) other ≡ queue spans rings other
  unfolding rings_put
  put_other other apart =
      queue_same spans (spans_put spans ring) rings (rings_put spans rings ring slot) other (put_span spans ring other apart)
      (λ i h.
      cases (room_in spans ring)
      (λ e.
      simp e
      (get_or-set_other rings (cell ring (span_at spans ring).head (count_of spans ring))
      (cell other (span_at spans other).head i)
      slot
      0
      (rings_apart ring other (span_at spans ring).head (span_at spans other).head i (count_of spans ring) apart)))
      (λ e. simp e))
