-- A new message joins its queue: "One that does nothing meets demand 3 with no messages, so it is demand 2's queueing that stops it." (R214)
use Rattle.std.specs.Prelude.{ℕ, ◌+◌, ◌<◌, ◌≡◌, true, cond, ◌&&◌, List, [], ◌∷◌, ◌++◌, eqb}
use Rattle.constants.specs.Constants.{apart_ring, t6}
use Rattle.plan.specs.declared.data.Plan.{Plan}
use Rattle.plan.specs.Find.{place_of}
use Rattle.area_flags.specs.Flags.{flag_at}
use Rattle.wire.specs.declared.header.Label.{Label}
use Rattle.replies.specs.Areas.{Areas}
use Rattle.route_ways.specs.Way.{for_users, way_of}
use Rattle.queue_store.specs.Sound.{bit}
use Rattle.queue_joining.specs.Queue.{next_of}
use Rattle.management_making.specs.Make.{path_of}
use Rattle.passing_passage.specs.Passage.{prohibited_to}
use Rattle.discrimination.specs.declared.Came.{Came}
use Rattle.discrimination.specs.declared.Came.TheVariants.{Malformed}
use Rattle.discrimination.specs.Discrimination.{from_link, from_host}
use Rattle.node.specs.View.{View, Comes, Fails, Sends, Acknowledges, Arrives, HandedOver, Overdue, Expires}
use Rattle.promise_accounts.specs.Gone.{queue_of}
use Rattle.promise_table.specs.Received.{makes_tfp}

-- what the message of an event is to this node: one from the host, or one that comes over a link (R1)
unfoldable pub came_by : Plan → List ℕ → View → Came
came_by plan message HandedOver = from_host plan message
came_by plan message (Arrives link fsn) = from_link plan message
came_by plan message (Comes link) = Malformed
came_by plan message (Fails link) = Malformed
came_by plan message (Sends link) = Malformed
came_by plan message (Acknowledges link b) = Malformed
came_by plan message (Overdue link timer) = Malformed
came_by plan message Expires = Malformed

-- the queue that a new message joins: that of the link that the rule gives for its destination and SLS, and while T6 runs "X's new user
-- messages are held apart until it ends" (R142, R151)
unfoldable pub joins_at : Plan → Areas → Label → ℕ
joins_at plan a label =
    cond (flag_at a.marks (place_of plan label.dpc) t6)
    apart_ring
    (way_of plan a.links a.marks for_users label.dpc label.sls)

-- what is new at the end of a queue: the message, by the next arrival number, on the queue that it joins, and nothing on any other
unfoldable pub joins : Plan → Label → Areas → ℕ → List ℕ
joins plan label a ring = cond (eqb ring (joins_at plan a label)) (next_of a.arrivals ∷ []) []

-- a message with a label is queued (R20, R114, R214)
pub record Joins (plan : Plan) (label : Label) (before after : Areas) : Type 0 where
  -- it joins the queue of one of 32 links, or those held apart
  pub somewhere : joins_at plan before label < 33
  -- it stands at the end of that queue, and every other is as it was
  pub queues : (ring : ℕ) → ring < 33 → queue_of after ring ≡ queue_of before ring ++ joins plan label before ring
  -- "gets an arrival number counted up from 0" (R20): the next number is one more
  pub counted : next_of after.arrivals ≡ next_of before.arrivals + 1

-- what is new where a message from a link gets reply 9: "A message from a link with reply 9 makes a TFP to that link's adjacent point, unless
-- T8 runs for the configured destination" (R70, R71), by the next number on the path that the rule gives it
unfoldable pub joins_tfp : Plan → ℕ → ℕ → Areas → ℕ → List ℕ
joins_tfp plan link x a ring =
    cond (makes_tfp plan a link x && eqb ring (path_of plan a.links a.marks (prohibited_to plan link x))) (next_of a.arrivals ∷ []) []

-- a TFP about X joins, where one is due
pub record TFPJoins (plan : Plan) (link x : ℕ) (before after : Areas) : Type 0 where
  -- one that is due joins the queue of one of 32 links
  pub finds_path : makes_tfp plan before link x ≡ true → path_of plan before.links before.marks (prohibited_to plan link x) < 32
  pub queues : (ring : ℕ) → ring < 33 → queue_of after ring ≡ queue_of before ring ++ joins_tfp plan link x before ring
  pub counted : next_of after.arrivals ≡ next_of before.arrivals + bit (makes_tfp plan before link x)

-- no queue changes, and no number is used up
pub record NoneJoins (before after : Areas) : Type 0 where
  pub queues_same : (ring : ℕ) → ring < 33 → queue_of after ring ≡ queue_of before ring
  pub number_same : next_of after.arrivals ≡ next_of before.arrivals
