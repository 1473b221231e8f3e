-- A place: where a slot stands in a ring, counted from its head.
use Rattle.std.specs.Prelude.{◌≡◌, ℕ, ◌<◌, List, slice_index_or}
use Rattle.queue_rings.specs.Ring.{count_of, queue}

pub record Place (spans rings : List ℕ) (slot : ℕ) : Type 0 where
  pub ring : ℕ
  pub place : ℕ
  pub within : place < count_of spans ring
  pub stands : slice_index_or (queue spans rings ring) place 0 ≡ slot
