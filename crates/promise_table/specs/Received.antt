-- When each row of the table applies to a message from a link, by what the message is.
use Rattle.std.specs.Prelude.{ℕ, Bool, true, false, not, ◌&&◌, ◌||◌}
use Rattle.plan.specs.declared.data.Plan.{Plan}
use Rattle.wire.specs.declared.header.Label.{Label}
use Rattle.wire_messages.specs.declared.management.Message.{Message}
use Rattle.wire_messages.specs.declared.management.Message.TheVariants.{COO, COA, CBD, CBA, ECO, ECA, TFP, TFA, RST}
use Rattle.replies.specs.Areas.{Areas}
use Rattle.discrimination.specs.declared.Order.{Order}
use Rattle.discrimination.specs.declared.Came.{Came}
use Rattle.discrimination.specs.declared.Came.TheVariants.{Malformed, Foreign, Delivered, Managed, Passed}
use Rattle.discrimination.specs.Sorted.{of_managed, of_passed}
use Rattle.management_making.specs.declared.Draft.{Draft}
use Rattle.management_making.specs.Make.{has_path}
use Rattle.queue_joining.specs.Queue.{no_management_place, no_number}
use Rattle.management_steps.specs.declared.Step.{Step}
use Rattle.passing_passage.specs.Passage.{unreachable, tells, prohibited_to}
use Rattle.managing.specs.Managed.{step_asked}
use Rattle.promise_table.specs.NamesNothing.{order_names_nothing, acknowledgement_names_nothing, declaration_names_nothing, answer_names_nothing, prohibition_names_nothing, allowance_names_nothing, test_names_nothing}

-- row 3: "message malformed" (R49, R209)
abbrev pub is_malformed : Came → Bool
is_malformed Malformed = true
is_malformed Foreign = false
is_malformed Delivered = false
is_malformed (Managed order) = false
is_malformed (Passed label) = false

-- row 4: "NI isn't ours" (R50)
abbrev pub is_foreign : Came → Bool
is_foreign Malformed = false
is_foreign Foreign = true
is_foreign Delivered = false
is_foreign (Managed order) = false
is_foreign (Passed label) = false

-- a path for a message that the node is to make
abbrev pub path_for : Plan → Areas → Draft → Bool
path_for plan a draft = has_path plan a.links a.marks draft

-- whether a TFP is to be made: there is a path for it, and T8 isn't running for the configured destination (R71)
abbrev pub makes_tfp : Plan → Areas → ℕ → ℕ → Bool
makes_tfp plan a link x = tells plan a.marks x && path_for plan a (prohibited_to plan link x)

-- no place or no number for a management message
abbrev pub lacking : Areas → Bool
lacking a = no_management_place a.spans || no_number a.arrivals

-- row 9: "DPC not configured or inaccessible" (R53), unless "its TFP finds no place or number" (R61)
unfoldable pub is_unreachable : Plan → Areas → ℕ → Came → Bool
is_unreachable plan a link came =
    of_passed false (λ (label : Label). unreachable plan a label && not (makes_tfp plan a link label.dpc && lacking a)) came

-- row 11: "management message that names nothing, or fits no state" (R56)
unfoldable pub names_nothing : Plan → Areas → ℕ → ℕ → Message → Bool
names_nothing plan a point slc (COO f) = order_names_nothing plan point slc
names_nothing plan a point slc (COA f) = acknowledgement_names_nothing plan a.links point slc
names_nothing plan a point slc (CBD code) = declaration_names_nothing plan point slc
names_nothing plan a point slc (CBA code) = answer_names_nothing plan a.links point slc code
names_nothing plan a point slc ECO = order_names_nothing plan point slc
names_nothing plan a point slc ECA = acknowledgement_names_nothing plan a.links point slc
names_nothing plan a point slc (TFP x) = prohibition_names_nothing plan a.marks point x
names_nothing plan a point slc (TFA x) = allowance_names_nothing plan a.marks point x
names_nothing plan a point slc (RST x) = test_names_nothing plan a.links a.marks point x

unfoldable pub is_pointless : Plan → Areas → Came → Bool
is_pointless plan a came =
    of_managed false (λ (order : Order). names_nothing plan a order.point order.slc order.message) came

-- row 7: a message for another point needs a place (R57)
unfoldable pub needs_user : Plan → Areas → Came → Bool
needs_user plan a came = of_passed false (λ (label : Label). not (unreachable plan a label)) came

-- rows 8 and 10: an answer that has a path, or a TFP
abbrev pub answer_needs : Plan → Areas → Step → Bool
answer_needs plan a step = step.answers && path_for plan a step.draft

-- whether the event needs a management place, by what the message is (R58)
unfoldable pub needs_management : Plan → Areas → ℕ → ℕ → Came → Bool
needs_management plan a link fsn came =
    of_managed (of_passed false (λ (label : Label). unreachable plan a label && makes_tfp plan a link label.dpc) came)
    (λ (order : Order).
    answer_needs plan a (step_asked plan a.links a.marks link fsn order.point order.slc order.message))
    came
