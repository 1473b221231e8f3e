-- The messages held apart: "X's new user messages are held apart until it ends, then move" (R151, R152).
use Rattle.std.specs.Prelude.{ℕ, List}
use Rattle.constants.specs.Constants.{apart_ring}
use Rattle.replies.specs.Areas.{Areas}
use Rattle.queue_heads.specs.Head.{both}
use Rattle.queue_moving.specs.Move.{point_of}
use Rattle.promise_leaving.specs.Going.{going, slots_of}

-- all of them, first to last
abbrev pub held_apart : Areas → List ℕ
held_apart a = slots_of (both a.spans a.rings) apart_ring

-- those for X, in order
abbrev pub let_go : Areas → ℕ → List ℕ
let_go a x = going (point_of a.rows) x (held_apart a)
