-- A management message for us: what each of the nine does.
use Rattle.std.specs.Prelude.{ℕ, true, false, List}
use Rattle.plan.specs.declared.data.Plan.{Plan}
use Rattle.wire_messages.specs.declared.management.Message.{Message}
use Rattle.wire_messages.specs.declared.management.Message.TheVariants.{COO, COA, CBD, CBA, ECO, ECA, TFP, TFA, RST}
use Rattle.replies.specs.Areas.{Areas, Outcome}
use Rattle.management_steps.specs.declared.Step.{Step}
use Rattle.management_steps.specs.Step.{nothing}
use Rattle.management_asking.specs.Ask.{ask_coo, ask_coa, ask_eco, ask_eca}
use Rattle.management_requests.specs.Request.{ask_cbd, ask_rst}
use Rattle.management_orders.specs.Carry.{carried}
use Rattle.changeback_waiting.specs.Wait.{answered_by}
use Rattle.rerouting.specs.Transfer.{transferred}
use Rattle.managing.specs.declared.Effect.{Effect}
use Rattle.managing.specs.declared.Effect.TheVariants.{Carries, Answers, Transfers}

-- what a message from a point, with an SLC, does
unfoldable pub asked : Plan → List ℕ → List ℕ → ℕ → ℕ → ℕ → ℕ → Message → Effect
asked plan links marks arriving fsn point slc (COO f) = Carries (ask_coo plan links arriving fsn point slc f)
asked plan links marks arriving fsn point slc (COA f) = Carries (ask_coa plan links point slc f)
asked plan links marks arriving fsn point slc (CBD code) = Carries (ask_cbd plan point slc code)
asked plan links marks arriving fsn point slc (CBA code) = Answers code
asked plan links marks arriving fsn point slc ECO = Carries (ask_eco plan links point slc)
asked plan links marks arriving fsn point slc ECA = Carries (ask_eca plan links point slc)
asked plan links marks arriving fsn point slc (TFP x) = Transfers (record { x = x; prohibits = true })
asked plan links marks arriving fsn point slc (TFA x) = Transfers (record { x = x; prohibits = false })
asked plan links marks arriving fsn point slc (RST x) = Carries (ask_rst plan links marks point x)

-- the step of it, and nothing where it has none
abbrev pub step_of : Effect → Step
step_of (Carries step) = step
step_of (Answers code) = nothing
step_of (Transfers about) = nothing

abbrev pub step_asked : Plan → List ℕ → List ℕ → ℕ → ℕ → ℕ → ℕ → Message → Step
step_asked plan links marks arriving fsn point slc message = step_of (asked plan links marks arriving fsn point slc message)

-- what is done of it
abbrev pub managed_by : Plan → ℕ → ℕ → Effect → Areas → Outcome
managed_by plan point slc (Carries step) a = carried plan step a
managed_by plan point slc (Answers code) a = answered_by plan point slc code a
managed_by plan point slc (Transfers about) a = transferred plan point about.x about.prohibits a

-- what a message does, having come over a link with a number (R2)
unfoldable pub managed : Plan → ℕ → ℕ → ℕ → ℕ → Message → Areas → Outcome
managed plan arriving fsn point slc message a =
    managed_by plan point slc (asked plan a.links a.marks arriving fsn point slc message) a
