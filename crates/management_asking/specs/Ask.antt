-- What a changeover message asks. "A link is named by the message's OPC, as adjacent point, and its SLC" (R117).
use Rattle.std.specs.Prelude.{ℕ, cond, List, eqb, ltb}
use Rattle.constants.specs.Constants.{no_link}
use Rattle.plan.specs.declared.data.Plan.{Plan}
use Rattle.area_links.specs.LinkRecords.{record_at}
use Rattle.lookup.specs.Lookup.{link_named}
use Rattle.wire_messages.specs.declared.management.Message.TheVariants.{COA, ECA}
use Rattle.management_making.specs.declared.Draft.{Draft}
use Rattle.changeover_cuts.specs.Cuts.{cut_at, cut_unknown}
use Rattle.management_steps.specs.declared.Step.{Step}
use Rattle.management_steps.specs.Step.{nothing, draft, order_step, ack_step}

-- "that link's last received FSN, a message just taken included" (R112, R113)
unfoldable pub last_received : List ℕ → ℕ → ℕ → ℕ → ℕ
last_received links arriving fsn link = cond (eqb link arriving) fsn (record_at links link).received

-- "COO is answered with COA" (R123), "ECO is answered with ECA" (R128): neither uses the link (R132)
unfoldable pub emergency_of : ℕ → ℕ → ℕ → Draft
emergency_of point slc link = draft ECA point slc link

-- COO with number F (R119)
unfoldable pub ask_coo : Plan → List ℕ → ℕ → ℕ → ℕ → ℕ → ℕ → Step
ask_coo plan links arriving fsn point slc f =
    let link = link_named plan point slc in
    let known = record_at links link in
    cond (ltb link no_link)
    (order_step known link (draft (COA (last_received links arriving fsn link)) point slc link) (emergency_of point slc link) (cut_at known f))
    nothing

-- ECO: "reason 2 remains only for ECO and ECA" (R236)
unfoldable pub ask_eco : Plan → List ℕ → ℕ → ℕ → Step
ask_eco plan links point slc =
    let link = link_named plan point slc in
    let known = record_at links link in
    cond (ltb link no_link)
    (order_step known link (emergency_of point slc link) (emergency_of point slc link) (cut_unknown known))
    nothing

-- COA with number F
unfoldable pub ask_coa : Plan → List ℕ → ℕ → ℕ → ℕ → Step
ask_coa plan links point slc f =
    let link = link_named plan point slc in
    ack_step link (record_at links link) (cut_at (record_at links link) f)

-- ECA
unfoldable pub ask_eca : Plan → List ℕ → ℕ → ℕ → Step
ask_eca plan links point slc =
    let link = link_named plan point slc in
    ack_step link (record_at links link) (cut_unknown (record_at links link))
