-- "Held apart until it ends, then move" (R151, R152): what the end of T6 does with the messages held apart.
use Rattle.std.specs.Prelude.{ℕ, cond, List, eqb}
use Rattle.plan.specs.declared.data.Plan.{Plan}
use Rattle.queue_rings.specs.Ring.{count_of}
use Rattle.queue_heads.specs.Head.{head_of, moved, repeat}
use Rattle.queue_retiring.specs.Leave.{State}
use Rattle.queue_moving.specs.Move.{point_of, moved_one, apart}

-- "held apart until it ends, then move" (R151, R152): the first of those held apart moves if it is for the point, else it goes behind the others
unfoldable pub released_one : Plan → List ℕ → List ℕ → List ℕ → ℕ → State → State
released_one plan links marks rows point now =
    cond (eqb (point_of rows (head_of now.queues apart).slot) point)
    (moved_one plan links marks rows apart now)
    (record { queues = moved now.queues apart apart; log = now.log })

-- each is looked at once, so that the others keep their order
unfoldable pub released : Plan → List ℕ → List ℕ → List ℕ → ℕ → State → State
released plan links marks rows point now =
    repeat (released_one plan links marks rows point) (count_of now.queues.spans apart) now
