-- A message that came over a link: where its reply (`receiving_acceptance`) is 0, what becomes of it is by what it is, and then it is taken
-- by its reply.
use Rattle.std.specs.Prelude.{ℕ, true, List, length}
use Rattle.plan.specs.declared.data.Plan.{Plan}
use Rattle.replies.specs.declared.Answer.{Answer}
use Rattle.replies.specs.Reply.{plain, if_done}
use Rattle.replies.specs.Areas.{Areas, Outcome, outcome, judged}
use Rattle.discrimination.specs.declared.Came.{Came}
use Rattle.discrimination.specs.declared.Came.TheVariants.{Malformed, Foreign, Delivered, Managed, Passed}
use Rattle.discrimination.specs.Discrimination.{from_link}
use Rattle.numbers.specs.Taken.{taken_by}
use Rattle.passing.specs.Pass.{passed, octets_passed}
use Rattle.managing.specs.Managed.{managed}
pub use Rattle.receiving_acceptance.specs.Acceptance.{refusals_of}
unfoldable pub use Rattle.receiving_acceptance.specs.Acceptance.{reply_of}

-- delivered: "the host gets the part of its own octets after the label" (R40)
abbrev pub delivery : Answer
delivery = record { reply = 0; fsn = 0; octets = 0; reports = 0; delivers = true }

-- by what the message is (R1, R39, R49)
unfoldable pub received_by : Plan → ℕ → ℕ → ℕ → Came → Areas → Outcome
received_by plan link fsn size Malformed a = outcome (plain 3) a
received_by plan link fsn size Foreign a = outcome (plain 4) a
received_by plan link fsn size Delivered a = outcome delivery a
received_by plan link fsn size (Managed order) a = managed plan link fsn order.point order.slc order.message a
received_by plan link fsn size (Passed label) a = passed plan link label size a

-- a message received over a link with a number: what becomes of it, and then it is taken (R62)
unfoldable pub received : Plan → ℕ → ℕ → List ℕ → Areas → Outcome
received plan link fsn message a =
    judged (reply_of plan a.links link fsn a.reports)
    (taken_by link fsn (received_by plan link fsn (length message) (from_link plan message) a))
    a

-- the octets after it: only a message for another point is written
unfoldable pub octets_by : Plan → Came → Areas → List ℕ → List ℕ → List ℕ
octets_by plan Malformed a octets message = octets
octets_by plan Foreign a octets message = octets
octets_by plan Delivered a octets message = octets
octets_by plan (Managed order) a octets message = octets
octets_by plan (Passed label) a octets message = octets_passed plan label a octets message

unfoldable pub octets_received : Plan → ℕ → ℕ → List ℕ → Areas → List ℕ → List ℕ
octets_received plan link fsn message a octets =
    if_done (reply_of plan a.links link fsn a.reports) (octets_by plan (from_link plan message) a octets message) octets
