-- Which calls queue a new message: "Each queued message, of both kinds, gets an arrival number counted up from 0" (R20).
use Rattle.std.specs.Prelude.{ℕ, ◌+◌, ◌≤◌, ◌<◌, ◌≡◌, Bool, true, false, cond, not, ◌&&◌, List, eqb}
use Rattle.constants.specs.Constants.{state_waiting, free_user_ring, free_management_ring}
use Rattle.plan.specs.declared.data.Plan.{Plan}
use Rattle.area_slots.specs.SlotRows.{slot_at}
use Rattle.queue_rings.specs.Ring.{queue}
use Rattle.queue_store.specs.Sound.{bit, tally, is}
use Rattle.replies.specs.Areas.{Areas}
use Rattle.queue_heads.specs.Head.{both, head_of}
use Rattle.queue_joining.specs.Queue.{next_of}
use Rattle.management_making.specs.declared.Draft.{Draft}
use Rattle.management_making.specs.Make.{is_made}
use Rattle.management_steps.specs.declared.Step.{Step}
use Rattle.managing.specs.Managed.{step_asked}
use Rattle.changeover_failure.specs.Failure.{state_at, order_of}
use Rattle.changeover_failure.specs.Failure as Failure
use Rattle.changeback_service.specs.InService.{declares, sources_in}
use Rattle.changeback.specs.Service as Service
use Rattle.rerouting_expiry.specs.Expiry.{reply_t10, test_of}
use Rattle.passing_passage.specs.Passage.{unreachable, place_reply, prohibited_to, tells}
use Rattle.passing_offering.specs.Host.{sent}
use Rattle.receiving.specs.Receive as Receive
use Rattle.discrimination.specs.declared.Came.{Came}
use Rattle.discrimination.specs.declared.Came.TheVariants.{Malformed, Foreign, Delivered, Managed, Passed}
use Rattle.discrimination.specs.Discrimination.{from_link}
use Rattle.node.specs.declared.call.Event.{Event}
use Rattle.node.specs.declared.call.Event.TheVariants.{IntoService, Failure, Send, Acknowledgement, Received, FromHost, T1, T2, T3, T4, T6, T8, T10}
use Rattle.promise_contents.specs.Made.{New, Nothing, User, Made, Written}

-- a message that the node makes, where it has a path, a place and a number: "With no such path the message isn't made." (R88)
abbrev pub makes : Plan → Draft → Areas → Bool
makes plan draft a = is_made plan a.links a.marks a.spans a.arrivals draft

-- the answer of a step, if it has one
abbrev pub gives_answer : Plan → Step → Areas → Bool
gives_answer plan step a = eqb step.reply 0 && (step.answers && makes plan step.draft a)

-- a message from a link, by what it is: its answer, its TFP "unless T8 runs for the configured destination" (R71), or itself
unfoldable pub gives_by : Plan → ℕ → ℕ → Came → Areas → Bool
gives_by plan arriving fsn Malformed a = false
gives_by plan arriving fsn Foreign a = false
gives_by plan arriving fsn Delivered a = false
gives_by plan arriving fsn (Managed order) a =
    gives_answer plan (step_asked plan a.links a.marks arriving fsn order.point order.slc order.message) a
gives_by plan arriving fsn (Passed label) a =
    cond (unreachable plan a label)
    (tells plan a.marks label.dpc && makes plan (prohibited_to plan arriving label.dpc) a)
    (eqb (place_reply a) 0)

-- every event
unfoldable pub gives : Plan → Event → List ℕ → Areas → Bool
gives plan (IntoService link) message a =
    eqb (Service.reply_of plan a link) 0 && declares (sources_in plan a.links a.marks link)
gives plan (Failure link) message a =
    eqb (Failure.reply_of plan a.links link a.reports) 0
    && (not (eqb (state_at a.links link) state_waiting) && makes plan (order_of plan a.links link) a)
gives plan (Send link) message a = false
gives plan (Acknowledgement link b) message a = false
gives plan (Received link fsn) message a =
    eqb (Receive.reply_of plan a.links link fsn a.reports) 0 && gives_by plan link fsn (from_link plan message) a
gives plan FromHost message a = eqb (sent plan message a).answer.reply 0
gives plan (T1 link) message a = false
gives plan (T2 link) message a = false
gives plan (T3 link) message a = false
gives plan (T4 link) message a = false
gives plan (T6 x) message a = false
gives plan (T8 x) message a = false
gives plan (T10 x set) message a = eqb (reply_t10 plan a.marks x set) 0 && makes plan (test_of plan x set) a

-- the slot that a new message takes: the first free one of its kind
abbrev pub slot_for : New → Areas → ℕ
slot_for Nothing a = 0
slot_for (User size) a = (head_of (both a.spans a.rings) free_user_ring).slot
slot_for (Made draft) a = (head_of (both a.spans a.rings) free_management_ring).slot

-- a slot stands in the queue of a link, or among those held apart
pub record InQueue (spans rings : List ℕ) (slot : ℕ) : Type 0 where
  pub ring : ℕ
  pub within : ring < 33
  pub stands : 1 ≤ tally (is slot) (queue spans rings ring)

-- one number more is given where a message is queued, and the message is held with it, in a queue; else none
abbrev pub Gains : New → Bool → Areas → Areas → Type 0
Gains new given before after =
    (next_of after.arrivals ≡ next_of before.arrivals + bit given)
    × (given ≡ true
    → Written new (next_of before.arrivals) (slot_for new before) (slot_at after.rows (slot_for new before))
    × InQueue after.spans after.rings (slot_for new before))
