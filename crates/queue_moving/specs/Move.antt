-- "To move is to queue each message, in order and with its arrival number, by the rule above, management messages by theirs; one
-- with no route is dropped, reason 1." (R134, R135, R136, R137)
use Rattle.std.specs.Prelude.{ℕ, ◌%◌, cond, List, ltb}
use Rattle.constants.specs.Constants.{apart_ring}
use Rattle.plan.specs.declared.data.Plan.{Plan}
use Rattle.area_slots.specs.SlotRows.{slot_at}
use Rattle.queue_rings.specs.Ring.{count_of}
use Rattle.route_serving.specs.declared.Need.{Need}
use Rattle.route_choice.specs.Which.{none}
use Rattle.route_ways.specs.Way.{for_users, for_management, way_of}
use Rattle.queue_heads.specs.Head.{head_of, moved, repeat}
use Rattle.queue_retiring.specs.Leave.{State, dropped_one}

-- the point that the message in a slot goes to
abbrev pub point_of : List ℕ → ℕ → ℕ
point_of rows slot = (slot_at rows slot).point % 16384

-- its SLS, or SLC
abbrev pub sls_of : List ℕ → ℕ → ℕ
sls_of rows slot = (slot_at rows slot).sls % 16

-- what it needs of a link: slots below 192 hold user messages
abbrev pub need_of : ℕ → Need
need_of slot = cond (ltb slot 192) for_users (for_management none)

-- the link that it goes to now
unfoldable pub goes_to : Plan → List ℕ → List ℕ → List ℕ → ℕ → ℕ
goes_to plan links marks rows slot = way_of plan links marks (need_of slot) (point_of rows slot) (sls_of rows slot)

-- the first message of a ring moves, or is dropped
unfoldable pub moved_one : Plan → List ℕ → List ℕ → List ℕ → ℕ → State → State
moved_one plan links marks rows ring now =
    let head = head_of now.queues ring in
    let link = goes_to plan links marks rows head.slot in
    cond head.found
    (cond (ltb link none)
    (record { queues = moved now.queues ring link; log = now.log })
    (dropped_one rows ring 1 now))
    now

-- all messages of a ring move, "in order" (R134)
unfoldable pub moved_all : Plan → List ℕ → List ℕ → List ℕ → ℕ → State → State
moved_all plan links marks rows ring now =
    repeat (moved_one plan links marks rows ring) (count_of now.queues.spans ring) now

-- the ring of the messages held apart (R151)
abbrev pub apart : ℕ
apart = apart_ring
