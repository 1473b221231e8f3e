-- A move: the head of a ring goes to the end of a ring. From an empty ring nothing is moved.
use Rattle.std.specs.Prelude.{ℕ, cond, List}
use Rattle.queue_rings.specs.Ring.{take_of, spans_taken, spans_put, rings_put}

-- the spans after a move
unfoldable pub spans_moved : List ℕ → List ℕ → ℕ → ℕ → List ℕ
spans_moved spans rings from to = cond (take_of spans rings from).found (spans_put (spans_taken spans from) to) spans

-- the rings after a move
unfoldable pub rings_moved : List ℕ → List ℕ → ℕ → ℕ → List ℕ
rings_moved spans rings from to =
    cond (take_of spans rings from).found
    (rings_put (spans_taken spans from) rings to (take_of spans rings from).slot)
    rings
