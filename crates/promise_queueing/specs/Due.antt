-- Which message each event asks the node to make, and exactly when it is made: "a COO and T2, or T1 with no path, free place or number" (R111),
-- "With no such path the message isn't made." (R88)
use Rattle.std.specs.Prelude.{ℕ, ◌≡◌, ◌⊎◌, Bool, true, cond, not, ◌&&◌, ◌||◌, List, eqb, ltb, leb}
use Rattle.constants.specs.Constants.{no_link, state_out, state_open, t8}
use Rattle.plan.specs.declared.data.Plan.{Plan}
use Rattle.plan.specs.Find.{place_of, is_found}
use Rattle.area_flags.specs.Flags.{flag_at}
use Rattle.area_links.specs.LinkRecords.{record_at}
use Rattle.wire_messages.specs.declared.management.Message.{Message}
use Rattle.wire_messages.specs.declared.management.Message.TheVariants.{COO, COA, CBD, CBA, ECO, ECA, TFP, TFA, RST}
use Rattle.plan.specs.Data.{set_at}
use Rattle.lookup.specs.Lookup.{link_named, slc_of, adjacent_of}
use Rattle.replies.specs.Areas.{Areas}
use Rattle.queue_joining.specs.Queue.{next_of}
use Rattle.management_asking.specs.Ask.{last_received}
use Rattle.changeback_pairs.specs.declared.Sources.{Sources}
use Rattle.changeback_service.specs.InService.{declares, sources_in}
use Rattle.passing_passage.specs.Passage.{unreachable}
use Rattle.discrimination.specs.declared.Came.{Came}
use Rattle.discrimination.specs.declared.Came.TheVariants.{Malformed, Foreign, Delivered, Managed, Passed}
use Rattle.discrimination.specs.Discrimination.{from_link}
use Rattle.node.specs.declared.call.Event.{Event}
use Rattle.node.specs.declared.call.Event.TheVariants.{IntoService, Failure, Send, Acknowledgement, Received, FromHost, T1, T2, T3, T4, T6, T8, T10}
use Rattle.promise_contents.specs.Made.{New, Nothing, User, Made}
use Rattle.promise_contents.specs.Given.{Gains}
use Rattle.promise_queueing.specs.Holding.{managements_held}
use Rattle.promise_queueing.specs.Making.{open_path, path_by}

-- what an event asks the node to make
pub data Due : Type 0 where
  -- nothing
  NoneDue : Due
  -- a message, to a point, with an SLC
  IsDue : Message → ℕ → ℕ → Due

-- the answer to a management message, to the point that it came from with its SLC: "COO is answered with COA" (R123), "ECO is answered with ECA" (R128),
-- "On an out link either gets ECA only" (R130), "CBD is answered with CBA, same code, in any state" (R156, R157), RST "is answered with TFA" (R154)
unfoldable pub answer_due : Plan → Areas → ℕ → ℕ → ℕ → ℕ → Message → Due
answer_due plan a arriving fsn point slc (COO f) =
    let link = link_named plan point slc in
    cond (eqb (record_at a.links link).state state_out)
    (IsDue ECA point slc)
    (IsDue (COA (last_received a.links arriving fsn link)) point slc)
answer_due plan a arriving fsn point slc ECO = IsDue ECA point slc
answer_due plan a arriving fsn point slc (CBD code) = IsDue (CBA code) point slc
answer_due plan a arriving fsn point slc (RST x) = IsDue (TFA x) point 0
answer_due plan a arriving fsn point slc (COA f) = NoneDue
answer_due plan a arriving fsn point slc ECA = NoneDue
answer_due plan a arriving fsn point slc (CBA code) = NoneDue
answer_due plan a arriving fsn point slc (TFP x) = NoneDue
answer_due plan a arriving fsn point slc (TFA x) = NoneDue

-- T8 doesn't run for X, and X is configured: "An unconfigured DPC makes none." (R71, R73)
abbrev pub tells_of : Plan → Areas → ℕ → Bool
tells_of plan a x = is_found plan x && not (flag_at a.marks (place_of plan x) t8)

-- of a message from a link, by what it is: "A message from a link with reply 9 makes a TFP to that link's adjacent point" (R70)
unfoldable pub due_by : Plan → Areas → ℕ → ℕ → Came → Due
due_by plan a arriving fsn Malformed = NoneDue
due_by plan a arriving fsn Foreign = NoneDue
due_by plan a arriving fsn Delivered = NoneDue
due_by plan a arriving fsn (Managed order) = answer_due plan a arriving fsn order.point order.slc order.message
due_by plan a arriving fsn (Passed label) =
    cond (unreachable plan a label && tells_of plan a label.dpc) (IsDue (TFP label.dpc) (adjacent_of plan arriving) 0) NoneDue

-- with a link that comes into service a CBD, where some pair comes to it from another of its own set, of which `DeclaresTo` speaks (R93)
abbrev pub declaration_due : Plan → ℕ → Sources → Due
declaration_due plan link from = cond (declares from) (IsDue (CBD from.own) (adjacent_of plan link) (slc_of plan link)) NoneDue

-- of every event: with the failure "of an open link .. a COO" (R111), which carries "that link's last received FSN" (R112); "T10's expiry sends RST" (R146)
unfoldable pub due_of : Plan → Event → List ℕ → Areas → Due
due_of plan (IntoService link) message a = declaration_due plan link (sources_in plan a.links a.marks link)
due_of plan (Failure link) message a =
    cond (eqb (record_at a.links link).state state_open)
    (IsDue (COO (record_at a.links link).received) (adjacent_of plan link) (slc_of plan link))
    NoneDue
due_of plan (Received link fsn) message a = due_by plan a link fsn (from_link plan message)
due_of plan (T10 x set) message a = IsDue (RST x) (set_at plan set).adjacent 0
due_of plan (Send link) message a = NoneDue
due_of plan (Acknowledgement link b) message a = NoneDue
due_of plan FromHost message a = NoneDue
due_of plan (T1 link) message a = NoneDue
due_of plan (T2 link) message a = NoneDue
due_of plan (T3 link) message a = NoneDue
due_of plan (T4 link) message a = NoneDue
due_of plan (T6 x) message a = NoneDue
due_of plan (T8 x) message a = NoneDue

-- the event isn't refused, but perhaps because its message finds no place or number: 0, 9, and 8 or 10 (R58, R59, R61)
abbrev pub is_met : ℕ → Bool
is_met reply = eqb reply 0 || (eqb reply 9 || (eqb reply 8 || eqb reply 10))

-- the path of a message that is due, over the links that the call leaves (R84)
unfoldable pub path_due : Plan → Areas → Areas → Due → ℕ
path_due plan before after NoneDue = no_link
path_due plan before after (IsDue message point slc) = path_by (open_path plan after.links before.marks) message point slc

-- "With no such path the message isn't made." (R88)
abbrev pub has_open_path : Plan → Due → Areas → Areas → Bool
has_open_path plan due before after = ltb (path_due plan before after due) no_link

-- a free place, for fewer than 64 management messages are held (R18), and a number, for "the last is 2^63 - 1" (R21)
unfoldable pub has_room : Areas → Bool
has_room a = ltb (managements_held a) 64 && leb (next_of a.arrivals) 9223372036854775807

-- whether it is made: the event isn't refused, and there are a path, a place and a number (R88, R111)
unfoldable pub is_made_now : Plan → Due → ℕ → Areas → Areas → Bool
is_made_now plan due reply before after = is_met reply && (has_open_path plan due before after && has_room before)

-- what is made of what is due: it, or nothing
abbrev pub if_made : Due → Bool → Due
if_made due made = cond made due NoneDue

-- what a call makes: its new message, if that is one of the node's own and is given
unfoldable pub made_in : New → Bool → Due
made_in Nothing given = NoneDue
made_in (User size) given = NoneDue
made_in (Made draft) given = if_made (IsDue draft.message draft.point draft.slc) given

-- the node makes none: no number is given, or a user message has it
abbrev pub OnlyUsers : Areas → Areas → Type 0
OnlyUsers before after =
    (next_of after.arrivals ≡ next_of before.arrivals) ⊎ ((size : ℕ) × Gains (User size) true before after)
