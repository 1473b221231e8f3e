-- Rings: 35 queues of slots, each with a head, a count and 256 places, of which the first follows on the last.
use Rattle.std.specs.Prelude.{ℕ, ◌+◌, ◌*◌, ◌-◌, ◌%◌, Bool, true, false, cond, List, ltb, get_or, set}
use Rattle.area_spans.specs.SpanRows.{span_at, with_span}
use Rattle.area_spans.specs.declared.Span.{Span}
use Rattle.queue_rings.specs.declared.ring.Taken.{Taken}
use Rattle.queue_rings.specs.Run.{run}

-- where in `rings` a ring's entry stands, counted from its head
abbrev pub cell : ℕ → ℕ → ℕ → ℕ
cell ring head place = 256 * ring + (head + place) % 256

-- how many slots a ring holds; of a ring that there is not, none
unfoldable pub count_of : List ℕ → ℕ → ℕ
count_of spans ring = (span_at spans ring).count

-- the slot at a place of a ring, counted from its head
unfoldable pub entry : List ℕ → List ℕ → ℕ → ℕ → ℕ
entry spans rings ring place = get_or rings (cell ring (span_at spans ring).head place) 0

-- the slots of a ring, from its head to its end
unfoldable pub queue : List ℕ → List ℕ → ℕ → List ℕ
queue spans rings ring = run (entry spans rings ring) 0 (count_of spans ring)

-- the answer where a slot was found, and where there is none
abbrev pub one : ℕ → Taken
one slot = record { found = true; slot = slot }

abbrev pub none : Taken
none = record { found = false; slot = 0 }

-- the answer at a place of a ring: past its end there is none
unfoldable pub at_of : List ℕ → List ℕ → ℕ → ℕ → Taken
at_of spans rings ring place = cond (ltb place (count_of spans ring)) (one (entry spans rings ring place)) none

-- the answer of a take: the head of the ring
unfoldable pub take_of : List ℕ → List ℕ → ℕ → Taken
take_of spans rings ring = at_of spans rings ring 0

-- a ring's row with the next entry for its head
abbrev pub head_gone : Span → Span
head_gone span = record { head = (span.head + 1) % 256; count = span.count - 1 }

-- the spans after a take; an empty ring stays as it is
unfoldable pub spans_taken : List ℕ → ℕ → List ℕ
spans_taken spans ring = cond (ltb 0 (count_of spans ring)) (with_span spans ring (head_gone (span_at spans ring))) spans

-- whether a ring has room for a slot more
unfoldable pub room_in : List ℕ → ℕ → Bool
room_in spans ring = cond (ltb ring 35) (ltb (count_of spans ring) 256) false

-- a ring's row with an entry more at its end
abbrev pub end_gained : Span → Span
end_gained span = record { head = span.head; count = span.count + 1 }

-- the spans after a put; a full ring stays as it is
unfoldable pub spans_put : List ℕ → ℕ → List ℕ
spans_put spans ring = cond (room_in spans ring) (with_span spans ring (end_gained (span_at spans ring))) spans

-- the rings after a put: the slot stands behind the ring's last
unfoldable pub rings_put : List ℕ → List ℕ → ℕ → ℕ → List ℕ
rings_put spans rings ring slot =
    cond (room_in spans ring) (set rings (cell ring (span_at spans ring).head (count_of spans ring)) slot) rings
