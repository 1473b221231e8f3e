-- The rows of the rings after a take and after a put: that of the ring has changed, the others are as they were. Assumes nothing.
use mathlib.Core.Path.{◌≡◌, ap}
use mathlib.Core.Bool.{true}
use mathlib.Core.List.{List, [], ◌∷◌}
use Prim.Native.Nat.{ℕ, ◌+◌, ◌-◌, ◌<◌}
use native.Mathlib.Nat.{le_refl}
use native.Mathlib.Omega.{arith}
use lib.Dec.{ltb}
use lib.ListN.{length}
use borrow.Author.Tests.{lt-ltb, ltb-true, ltb-false}
use Rattle.area_spans.specs.SpanRows.{span_at, with_span}
use Rattle.area_spans.specs.declared.Span.{Span}
use Rattle.area_rows.proofs.Laws.{row_same, row_other, row_length}
use Rattle.queue_rings.specs.Ring.{count_of, head_gone, spans_taken, room_in, end_gained, spans_put}
use borrow.Table.Steps.{cases}
use Rattle.queue_rings.proofs.Cases.{only_below}
use Rattle.queue_rings.proofs.Steps.{no_ring, room_past, room_full}

-- a ring that holds some is one of the 35
pub ring_there : (spans : List ℕ) (ring : ℕ) → 0 < count_of spans ring → ring < 35
ring_there spans ring h =
    cases (ltb ring 35) (ltb-true ring 35)
    (λ e.
    let gone = no_ring spans ring (ltb-false ring 35 e) in
    absurd (omega arith))

-- a row that is stored is loaded, the others are as they were
module _ (spans : List ℕ) (ring : ℕ) (span : Span) where
  pub span_same : length spans ≡ 70 → ring < 35 → span_at (with_span spans ring span) ring ≡ span
  span_same long h =
      let words : List ℕ = span.head ∷ span.count ∷ [] in
      let same = row_same 35 2 spans ring words (le_refl 2) h long in
      simp (same 0 (omega arith), same 1 (omega arith))

  pub span_other : (other : ℕ) → (other ≡ ring → ⊥) → span_at (with_span spans ring span) other ≡ span_at spans other
  span_other other apart =
      let words : List ℕ = span.head ∷ span.count ∷ [] in
      let same = row_other 35 2 spans ring words (le_refl 2) other apart in
      simp (same 0 (omega arith), same 1 (omega arith))

  pub span_length : length (with_span spans ring span) ≡ length spans
  span_length = row_length 35 2 spans ring (span.head ∷ span.count ∷ []) (le_refl 2)

module _ (spans : List ℕ) (ring : ℕ) where
  -- the ring's row after a take, with its count
  pub taken_same : length spans ≡ 70 → 0 < count_of spans ring → span_at (spans_taken spans ring) ring ≡ head_gone (span_at spans ring)
  unfolding spans_taken
  taken_same long h =
      simp (lt-ltb 0 (count_of spans ring) h) (span_same spans ring (head_gone (span_at spans ring)) long (ring_there spans ring h))

  -- the others'
  pub taken_span : (other : ℕ) → (other ≡ ring → ⊥) → span_at (spans_taken spans ring) other ≡ span_at spans other
  unfolding spans_taken
  taken_span other apart =
      cases (ltb 0 (count_of spans ring))
      (λ e. simp e (span_other spans ring (head_gone (span_at spans ring)) other apart))
      (λ e. simp e)

  pub taken_count : length spans ≡ 70 → 0 < count_of spans ring → count_of (spans_taken spans ring) ring ≡ count_of spans ring - 1
  unfolding count_of
  taken_count long h = ap (λ (s : Span). s.count) (taken_same long h)

  pub taken_count_other : (other : ℕ) → (other ≡ ring → ⊥) → count_of (spans_taken spans ring) other ≡ count_of spans other
  unfolding count_of
  taken_count_other other apart = ap (λ (s : Span). s.count) (taken_span other apart)

  pub taken_length : length (spans_taken spans ring) ≡ length spans
  unfolding spans_taken
  taken_length =
      cases (ltb 0 (count_of spans ring)) (λ e. simp e (span_length spans ring (head_gone (span_at spans ring)))) (λ e. simp e)

  -- there is room only in one of the 35 rings, and only if it isn't full
  pub room_ring : room_in spans ring ≡ true → ring < 35
  room_ring = only_below ring 35 (room_past spans ring)

  pub room_count : room_in spans ring ≡ true → count_of spans ring < 256
  room_count = only_below (count_of spans ring) 256 (room_full spans ring)

  -- the ring's row after a put, with its count
  pub put_same : length spans ≡ 70 → room_in spans ring ≡ true → span_at (spans_put spans ring) ring ≡ end_gained (span_at spans ring)
  unfolding spans_put
  put_same long room = simp room (span_same spans ring (end_gained (span_at spans ring)) long (room_ring room))

  -- the others'
  pub put_span : (other : ℕ) → (other ≡ ring → ⊥) → span_at (spans_put spans ring) other ≡ span_at spans other
  unfolding spans_put
  put_span other apart =
      cases (room_in spans ring) (λ e. simp e (span_other spans ring (end_gained (span_at spans ring)) other apart)) (λ e. simp e)

  pub put_count : length spans ≡ 70 → room_in spans ring ≡ true → count_of (spans_put spans ring) ring ≡ count_of spans ring + 1
  unfolding count_of
  put_count long room = ap (λ (s : Span). s.count) (put_same long room)

  pub put_count_other : (other : ℕ) → (other ≡ ring → ⊥) → count_of (spans_put spans ring) other ≡ count_of spans other
  unfolding count_of
  put_count_other other apart = ap (λ (s : Span). s.count) (put_span other apart)

  pub put_length : length (spans_put spans ring) ≡ length spans
  unfolding spans_put
  put_length = cases (room_in spans ring) (λ e. simp e (span_length spans ring (end_gained (span_at spans ring)))) (λ e. simp e)
