-- The head of a ring: moved to the end of another, or given up.
use Rattle.std.specs.Prelude.{ℕ, zero, suc, cond, List, ltb}
use Rattle.constants.specs.Constants.{free_user_ring, free_management_ring}
use Rattle.queue_rings.specs.declared.ring.Taken.{Taken}
use Rattle.queue_rings.specs.Ring.{take_of}
use Rattle.queue_rings.specs.Move.{spans_moved, rings_moved}

-- all queues: the rings with their heads and counts
pub record Queues : Type 0 where
  pub spans : List ℕ
  pub rings : List ℕ

abbrev pub both : List ℕ → List ℕ → Queues
both spans rings = record { spans = spans; rings = rings }

-- those lent to a call, as they stand before it and after it
abbrev pub queues_before : List ℕ → List ℕ → Queues
queues_before spans rings = both spans rings

abbrev pub queues_after : List ℕ → List ℕ → Queues
queues_after spans rings = both spans rings

-- the head of a ring, if it has one
unfoldable pub head_of : Queues → ℕ → Taken
head_of queues ring = take_of queues.spans queues.rings ring

-- the head of a ring goes to the end of a ring
unfoldable pub moved : Queues → ℕ → ℕ → Queues
moved queues from to =
    both (spans_moved queues.spans queues.rings from to) (rings_moved queues.spans queues.rings from to)

-- "room given up is used again" (R19): the ring of free slots that a slot goes back to
abbrev pub free_ring : ℕ → ℕ
free_ring slot = cond (ltb slot 192) free_user_ring free_management_ring

-- the head of a ring is given up
unfoldable pub freed : Queues → ℕ → Queues
freed queues ring = moved queues ring (free_ring (head_of queues ring).slot)

-- a step done so many times
unfoldable pub repeat : {A : Type 0} → (A → A) → ℕ → A → A
repeat step zero state = state
repeat step (suc more) state = repeat step more (step state)
