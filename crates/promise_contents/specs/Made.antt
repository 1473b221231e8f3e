-- "management messages the node makes" (R84): what each call can write into a free slot, and the octets that leave of a message that it made.
use Rattle.std.specs.Prelude.{ℕ, ◌≤◌, ◌<◌, ◌≡◌, cond, List, ◌++◌, length, drop, Some}
use Rattle.constants.specs.Constants.{no_link}
use Rattle.plan.specs.declared.data.Plan.{Plan}
use Rattle.area_slots.specs.declared.Slot.{Slot}
use Rattle.queue_slots.specs.Message.{management_row}
use Rattle.wire.specs.declared.header.Label.{Label}
use Rattle.wire.specs.Header.{read_header}
use Rattle.wire_messages.specs.declared.management.Message.TheVariants.{CBD}
use Rattle.wire_messages.specs.Management.{heading_of, field_of, read_message}
use Rattle.wire_writing.specs.Writing.{octets_of, FieldInRange}
use Rattle.lookup.specs.Lookup.{slc_of, adjacent_of}
use Rattle.replies.specs.Areas.{Areas}
use Rattle.management_making.specs.declared.Draft.{Draft}
use Rattle.management_steps.specs.declared.Step.{Step}
use Rattle.managing.specs.Managed.{step_asked}
use Rattle.changeover_failure.specs.Failure.{order_of}
use Rattle.changeback_pairs.specs.declared.Sources.{Sources}
use Rattle.changeback_service.specs.InService.{sources_in}
use Rattle.rerouting_expiry.specs.Expiry.{test_of}
use Rattle.passing_passage.specs.Passage.{unreachable, prohibited_to}
use Rattle.discrimination.specs.declared.Came.{Came}
use Rattle.discrimination.specs.declared.Came.TheVariants.{Malformed, Foreign, Delivered, Managed, Passed}
use Rattle.discrimination.specs.Discrimination.{from_link}
use Rattle.node.specs.declared.call.Event.{Event}
use Rattle.node.specs.declared.call.Event.TheVariants.{IntoService, Failure, Send, Acknowledgement, Received, FromHost, T1, T2, T3, T4, T6, T8, T10}
use Rattle.node.specs.Memory.{Result}

-- what a call can write into a free slot
pub data New : Type 0 where
  -- nothing
  Nothing : New
  -- a user message of so many octets
  User : ℕ → New
  -- a message that the node makes
  Made : Draft → New

-- "a CBD is put at the end of M's queue, the code being M's link number" (R93, R94)
abbrev pub declaration_by : Plan → ℕ → Sources → Draft
declaration_by plan link from =
    record { message = CBD from.own; point = adjacent_of plan link; slc = slc_of plan link; never = no_link }

abbrev pub declaration_of : Plan → Areas → ℕ → Draft
declaration_of plan a link = declaration_by plan link (sources_in plan a.links a.marks link)

-- the answer of a step, if it has one: "COO is answered with COA" (R123), "ECO is answered with ECA" (R128), "CBD is answered with CBA"
-- (R156), RST "is answered with TFA" (R154)
abbrev pub answer_in : Step → New
answer_in step = cond step.answers (Made step.draft) Nothing

-- of a message from a link, by what it is: for our management the answer, for another point itself, or the TFP of row 9 (R70)
unfoldable pub new_by : Plan → ℕ → ℕ → ℕ → Came → Areas → New
new_by plan arriving fsn size Malformed a = Nothing
new_by plan arriving fsn size Foreign a = Nothing
new_by plan arriving fsn size Delivered a = Nothing
new_by plan arriving fsn size (Managed order) a =
    answer_in (step_asked plan a.links a.marks arriving fsn order.point order.slc order.message)
new_by plan arriving fsn size (Passed label) a =
    cond (unreachable plan a label) (Made (prohibited_to plan arriving label.dpc)) (User size)

-- of every event: a COO with a failure (R111), a CBD with a link that comes into service (R93), "T10's expiry sends RST" (R146)
unfoldable pub new_of : Plan → Event → List ℕ → Areas → New
new_of plan (IntoService link) message a = Made (declaration_of plan a link)
new_of plan (Failure link) message a = Made (order_of plan a.links link)
new_of plan (Send link) message a = Nothing
new_of plan (Acknowledgement link b) message a = Nothing
new_of plan (Received link fsn) message a = new_by plan link fsn (length message) (from_link plan message) a
new_of plan FromHost message a = User (length message)
new_of plan (T1 link) message a = Nothing
new_of plan (T2 link) message a = Nothing
new_of plan (T3 link) message a = Nothing
new_of plan (T4 link) message a = Nothing
new_of plan (T6 x) message a = Nothing
new_of plan (T8 x) message a = Nothing
new_of plan (T10 x set) message a = Made (test_of plan x set)

-- a slot holds what is new, with an arrival number: a user message of 5 to 273 octets (R26) in a user slot, without a heading octet, or a management
-- message in a management slot, as its heading octet and its field
unfoldable pub Written : New → ℕ → ℕ → Slot → Type 0
Written Nothing number slot row = ⊥
Written (User size) number slot row =
    (slot < 192) × (5 ≤ size) × (size ≤ 273) × (row.field ≡ size) × (row.arrival ≡ number) × (row.heading ≡ 0)
Written (Made draft) number slot row =
    (192 ≤ slot) × (row ≡ management_row number (heading_of draft.message) draft.point draft.slc (field_of draft.message))

-- the octets of a message that the node makes: SI 0 and our NI, the DPC is the point that it goes to, the OPC is ours, and the SLC stands in the
-- place of the SLS (R27, R29, R30), then heading and field by the table (R31, R32, R33, R34, R35)
abbrev pub label_to : Plan → ℕ → ℕ → Label
label_to plan point slc = record { dpc = point; opc = plan.code; sls = slc }

abbrev pub octets_made : Plan → Draft → List ℕ
octets_made plan draft = octets_of plan.ni (label_to plan draft.point draft.slc) draft.message

-- its numbers are in their ranges: "Point codes 0 to 16383, SLS and SLC 0 to 15, FSN 0 to 127" (R14, R15, R16), a code is a whole octet
pub record DraftInRange (draft : Draft) : Type 0 where
  pub field_fits : FieldInRange draft.message
  pub point_fits : draft.point < 16384
  pub slc_fits : draft.slc < 16

-- another point reads of its octets SI 0, our NI, that label, and that message
pub record Understood (plan : Plan) (draft : Draft) : Type 0 where
  pub header_read :
      read_header (octets_made plan draft) ≡ Some (record { si = 0; ni = plan.ni; label = label_to plan draft.point draft.slc })
  pub message_read : read_message (octets_made plan draft) ≡ Some draft.message

-- a call writes octets at the start of the lent output, as many as it answers, and the rest stays: "unchanged but for what reply 0 writes at their
-- start" (R69)
pub record Writes (call : Result) (lent octets : List ℕ) : Type 0 where
  pub many : call.answer.octets ≡ length octets
  pub these : call.after.out ≡ octets ++ drop (length octets) lent

-- "A message is the SIO and then the SIF: 5 to 273 octets" (R26): a call writes one
pub record WritesMessage (call : Result) (lent : List ℕ) : Type 0 where
  pub octets : List ℕ
  pub least : 5 ≤ length octets
  pub most : length octets ≤ 273
  pub writes : Writes call lent octets
