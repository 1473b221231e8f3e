-- What a management message asks of the node, as a value: an answer, and that a link goes out.
use Rattle.std.specs.Prelude.{ℕ, true, false, cond, ◌&&◌, eqb, ltb}
use Rattle.constants.specs.Constants.{no_link, state_out, state_waiting}
use Rattle.area_links.specs.declared.LinkRecord.{LinkRecord}
use Rattle.wire_messages.specs.declared.management.Message.{Message}
use Rattle.wire_messages.specs.declared.management.Message.TheVariants.{ECO}
use Rattle.management_making.specs.declared.Draft.{Draft}
use Rattle.changeover_cuts.specs.declared.Cut.{Cut}
use Rattle.changeover_cuts.specs.Cuts.{cut_none}
use Rattle.management_steps.specs.declared.Step.{Step}

-- no message: some message, which is never made, and no link
abbrev pub no_draft : Draft
no_draft = record { message = ECO; point = 0; slc = 0; never = no_link }

-- row 11: "management message that names nothing, or fits no state" (R56)
abbrev pub nothing : Step
nothing = record { reply = 11; answers = false; draft = no_draft; ends = false; link = no_link; parts = cut_none }

-- an answer alone
abbrev pub answer : Draft → Step
answer draft = record { reply = 0; answers = true; draft = draft; ends = false; link = no_link; parts = cut_none }

-- an answer, and a link goes out
abbrev pub answer_and_end : Draft → ℕ → Cut → Step
answer_and_end draft link parts =
    record { reply = 0; answers = true; draft = draft; ends = true; link = link; parts = parts }

-- a link goes out, with no answer
abbrev pub end : ℕ → Cut → Step
end link parts = record { reply = 0; answers = false; draft = no_draft; ends = true; link = link; parts = parts }

-- an answer goes back to the point that asked, with its SLC: the message, point, SLC, and the link that it never uses
abbrev pub draft : Message → ℕ → ℕ → ℕ → Draft
draft message point slc never = record { message = message; point = point; slc = slc; never = never }

-- a COO or ECO on the link that it names: "On an out link either gets ECA only" (R130, R200); on a waiting link "COA or ECA, then as
-- its failure" (R129); on an open or changing link it ends the changeover (R122)
unfoldable pub order_step : LinkRecord → ℕ → Draft → Draft → Cut → Step
order_step known link own emergency parts =
    cond (eqb known.state state_out) (answer emergency)
    (answer_and_end own link (cond (eqb known.state state_waiting) cut_none parts))

-- "COA and ECA count only while T2 runs" (R120)
unfoldable pub ack_step : ℕ → LinkRecord → Cut → Step
ack_step link known parts = cond (ltb link no_link && eqb known.timer 2) (end link parts) nothing
