-- "management messages the node makes use open links only, by the same rule for their DPC, with the SLC as SLS (0 for TFP, TFA,
-- RST). With no such path the message isn't made." (R84, R85, R86, R87, R88)
use Rattle.std.specs.Prelude.{ℕ, Bool, cond, ◌&&◌, List, eqb, ltb, Result}
use Rattle.plan.specs.declared.data.Plan.{Plan}
use Rattle.replies.specs.declared.Refusal.{Refusal}
use Rattle.replies.specs.Reply.{decided}
use Rattle.replies.specs.Areas.{Areas, areas}
use Rattle.route_choice.specs.Which.{none}
use Rattle.route_ways.specs.Way.{for_management, way_of}
use Rattle.queue_joining.specs.Queue.{management_reply, with_management}
pub use Rattle.queue_joining.specs.Queue.{Held, held, held_before, held_after}
use Rattle.management_making.specs.declared.Draft.{Draft}

-- the path: an open link by the rule, and never the one link
unfoldable pub path_of : Plan → List ℕ → List ℕ → Draft → ℕ
path_of plan links marks draft = way_of plan links marks (for_management draft.never) draft.point draft.slc

abbrev pub has_path : Plan → List ℕ → List ℕ → Draft → Bool
has_path plan links marks draft = ltb (path_of plan links marks draft) none

-- 8 or 10 where it has a path and finds no place or number
unfoldable pub reply_of : Plan → List ℕ → List ℕ → List ℕ → List ℕ → Draft → ℕ
reply_of plan links marks spans arrivals draft = cond (has_path plan links marks draft) (management_reply spans arrivals) 0

unfoldable pub is_made : Plan → List ℕ → List ℕ → List ℕ → List ℕ → Draft → Bool
is_made plan links marks spans arrivals draft = has_path plan links marks draft && eqb (management_reply spans arrivals) 0

-- whether it was made, where that isn't refused
abbrev pub outcome : Plan → List ℕ → List ℕ → List ℕ → List ℕ → Draft → Result Bool Refusal
outcome plan links marks spans arrivals draft =
    decided (reply_of plan links marks spans arrivals draft) (is_made plan links marks spans arrivals draft)

-- what is held then: the message stands at the end of its path's queue
unfoldable pub made : Plan → List ℕ → List ℕ → Draft → Held → Held
made plan links marks draft now =
    cond (has_path plan links marks draft)
    (with_management (path_of plan links marks draft) draft.message draft.point draft.slc now)
    now

-- of all areas, those that hold messages
abbrev pub held_in : Areas → Held
held_in a = held a.spans a.rings a.rows a.arrivals

abbrev pub with_held : Areas → Held → Areas
with_held a now =
    areas a.links a.marks now.queues.spans now.queues.rings now.rows now.arrivals a.reports

-- the areas after a message is made, and the reply to that
abbrev pub with_made : Plan → Draft → Areas → Areas
with_made plan draft a = with_held a (made plan a.links a.marks draft (held_in a))

abbrev pub makes_reply : Plan → Draft → Areas → ℕ
makes_reply plan draft a = reply_of plan a.links a.marks a.spans a.arrivals draft
