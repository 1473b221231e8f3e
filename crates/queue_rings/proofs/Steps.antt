-- What the steps of a ring leave, from what the code finds there. Assumes nothing.
use mathlib.Core.Path.{◌≡◌, sym, ap}
use mathlib.Core.Bool.{true, false}
use mathlib.Core.List.{List}
use Prim.Native.Nat.{ℕ, ◌+◌, ◌-◌, ◌%◌, ◌≤◌, ◌<◌}
use native.Mathlib.Nat.{mod-add-mod}
use lib.Dec.{ltb}
use lib.ListN.{get_or, set}
use borrow.Author.Tests.{lt-ltb, le-ltb}
use Rattle.area_spans.specs.SpanRows.{span_at, with_span}
use Rattle.area_spans.specs.declared.Span.{Span}
use Rattle.queue_rings.proofs.Cases.{cond_same}
use Rattle.queue_rings.specs.Ring.{cell, count_of, entry, one, none, at_of, take_of, spans_taken, room_in, end_gained, spans_put, rings_put}

module _ (spans : List ℕ) (ring : ℕ) where
  -- past the last ring nothing is held
  pub no_ring : 35 ≤ ring → count_of spans ring ≡ 0
  unfolding count_of
  no_ring h = simp (le-ltb ring 35 h)

  -- the count of the row that was loaded
  pub loaded : (span : Span) → span ≡ span_at spans ring → span.count ≡ count_of spans ring
  unfolding count_of
  loaded span e = ap (λ (s : Span). s.count) e

  -- a take from an empty ring
  pub take_none : (rings : List ℕ) → count_of spans ring ≤ 0
      → (none ≡ take_of spans rings ring) × (spans ≡ spans_taken spans ring)
  unfolding take_of at_of spans_taken
  take_none rings h =
      let empty = le-ltb 0 (count_of spans ring) h in
      (simp empty, simp empty)

  -- a take from one that holds some
  pub take_one : (rings : List ℕ) (span : Span) → span ≡ span_at spans ring → 0 < count_of spans ring
      → (one (get_or rings (cell ring span.head 0) 0) ≡ take_of spans rings ring)
      × (with_span spans ring (record { head = (span.head % 256 + 1) % 256; count = span.count - 1 }) ≡ spans_taken spans ring)
  unfolding take_of at_of spans_taken entry
  take_one rings span e h =
      let some = lt-ltb 0 (count_of spans ring) h in
      (simp (some, e), simp (some, mod-add-mod, e))

  -- what is past a ring's end isn't found
  pub at_none : (rings : List ℕ) (place : ℕ) → count_of spans ring ≤ place → none ≡ at_of spans rings ring place
  unfolding at_of
  at_none rings place h = simp (le-ltb place (count_of spans ring) h)

  -- what is before it is
  pub at_one : (rings : List ℕ) (place : ℕ) (span : Span) → span ≡ span_at spans ring → place < count_of spans ring
      → one (get_or rings (cell ring span.head place) 0) ≡ at_of spans rings ring place
  unfolding at_of entry
  at_one rings place span e h = simp (lt-ltb place (count_of spans ring) h, e)

  -- a put where there is no room
  pub put_none : (rings : List ℕ) (slot : ℕ) → room_in spans ring ≡ false
      → (false ≡ room_in spans ring) × ((spans ≡ spans_put spans ring) × (rings ≡ rings_put spans rings ring slot))
  unfolding spans_put rings_put
  put_none rings slot full = (sym full, (simp full, simp full))

  -- a put where there is
  pub put_one : (rings : List ℕ) (slot : ℕ) (span : Span) → span ≡ span_at spans ring → room_in spans ring ≡ true
      → (true ≡ room_in spans ring)
      × ((with_span spans ring (end_gained span) ≡ spans_put spans ring)
      × (set rings (cell ring span.head span.count) slot ≡ rings_put spans rings ring slot))
  unfolding spans_put rings_put count_of
  put_one rings slot span e room = (
    sym room,
    (
      simp room (ap (λ (s : Span). with_span spans ring (end_gained s)) e),
      simp room (ap (λ (s : Span). set rings (cell ring s.head s.count) slot) e),
    ),
  )

  -- there is none past the last ring
  pub room_past : 35 ≤ ring → room_in spans ring ≡ false
  unfolding room_in
  room_past h = simp (le-ltb ring 35 h)

  -- nor in a full one
  pub room_full : 256 ≤ count_of spans ring → room_in spans ring ≡ false
  unfolding room_in
  room_full h = simp (le-ltb (count_of spans ring) 256 h) (cond_same (ltb ring 35))

  -- and there is in any other
  pub room_there : ring < 35 → count_of spans ring < 256 → room_in spans ring ≡ true
  unfolding room_in
  room_there h k = simp (lt-ltb ring 35 h, lt-ltb (count_of spans ring) 256 k)
