-- A message from the host.
use Rattle.std.specs.Prelude.{ℕ, Bool, cond, ◌||◌, List, eqb, length}
use Rattle.plan.specs.declared.data.Plan.{Plan}
use Rattle.wire.specs.declared.header.Label.{Label}
use Rattle.replies.specs.Reply.{done}
use Rattle.replies.specs.Areas.{Areas, Outcome, outcome, refused, judged}
use Rattle.discrimination.specs.declared.Came.{Came}
use Rattle.discrimination.specs.declared.Came.TheVariants.{Malformed, Foreign, Delivered, Managed, Passed}
use Rattle.discrimination.specs.Sorted.{of_passed}
use Rattle.discrimination.specs.Discrimination.{from_host}
use Rattle.passing_passage.specs.Passage.{unreachable, place_reply, queued, octets_queued}

-- "DPC not configured or inaccessible; from the host also our own DPC" (R53, R54)
unfoldable pub refuses : Plan → Areas → Label → Bool
refuses plan a label = eqb label.dpc plan.code || unreachable plan a label

-- a message with a label: 9, 7, 10, or queued
unfoldable pub offered : Plan → Label → ℕ → Areas → Outcome
offered plan label size a =
    cond (refuses plan a label) (refused 9 a) (judged (place_reply a) (outcome (done 0) (queued plan a label size)) a)

-- by what it is: 3, 4, or what it is offered for (R49, R51)
unfoldable pub from_host_by : Plan → Came → ℕ → Areas → Outcome
from_host_by plan Malformed size a = refused 3 a
from_host_by plan Foreign size a = refused 4 a
from_host_by plan Delivered size a = refused 3 a
from_host_by plan (Managed order) size a = refused 3 a
from_host_by plan (Passed label) size a = offered plan label size a

-- 2 without a node
unfoldable pub sent : Plan → List ℕ → Areas → Outcome
sent plan message a = cond plan.given (from_host_by plan (from_host plan message) (length message) a) (refused 2 a)

-- the octets after it
unfoldable pub octets_offered : Plan → Label → Areas → List ℕ → List ℕ → List ℕ
octets_offered plan label a octets message = cond (refuses plan a label) octets (octets_queued a octets message)

unfoldable pub octets_by : Plan → Came → Areas → List ℕ → List ℕ → List ℕ
octets_by plan came a octets message = of_passed octets (λ (label : Label). octets_offered plan label a octets message) came

unfoldable pub octets_sent : Plan → List ℕ → Areas → List ℕ → List ℕ
octets_sent plan message a octets = cond plan.given (octets_by plan (from_host plan message) a octets message) octets
