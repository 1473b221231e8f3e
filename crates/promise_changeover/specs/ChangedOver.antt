-- Demand 3 of a call that takes a link out: "after a changeover with a number in range exactly the messages after it leave that link, once, in
-- order" (D3). Messages are named by their arrival numbers, and a queue by them, first to last.
use Rattle.std.specs.Prelude.{ℕ, ◌+◌, ◌%◌, ◌≤◌, ◌<◌, ◌≡◌, ◌⊎◌, true, List, [], ◌++◌, map, length, take, drop}
use Rattle.counting.specs.Counting.{onward, in_range}
use Rattle.constants.specs.Constants.{apart_ring, state_out}
use Rattle.plan.specs.declared.data.Plan.{Plan}
use Rattle.plan.specs.Find.{given}
use Rattle.area_links.specs.LinkRecords.{record_at}
use Rattle.queue_store.specs.Sound.{sum, tally, is}
use Rattle.wire_messages.specs.declared.management.Message.{Message}
use Rattle.wire_messages.specs.declared.management.Message.TheVariants.{COO, COA, ECO, ECA}
use Rattle.replies.specs.Areas.{Areas}
use Rattle.lookup.specs.Lookup.{link_named}
use Rattle.discrimination.specs.declared.Order.{Order}
use Rattle.discrimination.specs.declared.Came.TheVariants.{Managed}
use Rattle.discrimination.specs.Discrimination.{from_link}
use Rattle.route_access.specs.Change.{is_accessible}
use Rattle.queue_heads.specs.Head.{both}
use Rattle.queue_joining.specs.Queue.{next_of}
use Rattle.queue_moving.specs.Move.{goes_to}
use Rattle.changeover_ending.specs.End.{links_out}
use Rattle.node.specs.declared.call.Event.TheVariants.{Received}
use Rattle.node.specs.View.{view_of}
use Rattle.node.specs.Memory.{Memory, Result}
use Rattle.promise_runs.specs.Run.{Call, lent}
use Rattle.promise_ledger.specs.Held.{arrival_of, put_on}
use Rattle.promise_ledger.specs.Reported.{Report, report}
use Rattle.promise_leaving.specs.Going.{stranded, slots_of, rest, gained, changes}
use Rattle.promise_accounts.specs.Gone.{queue_of, told_by}
use Rattle.promise_accounts.specs.Ending.{Ending, ending_of, answered_on}

-- what a call finds, with the areas lent to it, and how it takes a link out
abbrev pub found : Call → Memory → Areas
found call m = (lent call m).areas

abbrev pub ending_by : Plan → Call → Memory → Ending
ending_by plan call m = ending_of plan (found call m) call.message (view_of call.event)

-- the queue of the link that goes out, in three: "messages up to F are retired" (R125), "sent ones dropped" (R127), and the rest leaves
abbrev pub retiring : Areas → Ending → List ℕ
retiring a ending = take ending.parts.retired (queue_of a ending.link)

abbrev pub dropping : Areas → Ending → List ℕ
dropping a ending = take ending.parts.dropped (drop ending.parts.retired (queue_of a ending.link))

abbrev pub leaving : Areas → Ending → List ℕ
leaving a ending = drop (ending.parts.retired + ending.parts.dropped) (queue_of a ending.link)

-- the slots of the link's queue when the answer stands
abbrev pub slots_then : Ending → List ℕ
slots_then ending = slots_of (both ending.from.spans ending.from.rings) ending.link

-- the link that the rule gives the message in a slot, with the link out: "by the rule above, management messages by theirs" (R133, R136)
abbrev pub goes_by : Plan → Ending → ℕ → ℕ
goes_by plan ending slot =
    goes_to plan (links_out ending.from.links ending.link) ending.from.marks ending.from.rows slot

-- those that leave for a link, "in order and with its arrival number" (R134, R135), and "one with no route" (R137)
abbrev pub moved_to : Plan → Ending → ℕ → List ℕ
moved_to plan ending other = gained (goes_by plan ending) ending.from.rows ending.parts (slots_then ending) other

abbrev pub unrouted : Plan → Ending → List ℕ
unrouted plan ending = map (arrival_of ending.from.rows) (stranded (goes_by plan ending) (rest ending.parts (slots_then ending)))

-- what the call puts on a link's queue: the answer first, since it is "queued before anything moves" (R124), then those that moved there
abbrev pub joining : Plan → Areas → Ending → ℕ → List ℕ
joining plan a ending other = answered_on a ending other ++ moved_to plan ending other

-- the drops of some messages for a reason: "drops in queue order (arrival number, reason)" (R138)
abbrev pub drops_with : ℕ → List ℕ → List Report
drops_with reason numbers = map (report reason) numbers

-- "then pause or resume, by code, of each destination whose access changed" (R139)
abbrev pub changes_by : Plan → Ending → List Report
changes_by plan ending =
    changes plan (is_accessible plan ending.from.links ending.from.marks)
    (is_accessible plan (links_out ending.from.links ending.link) ending.from.marks)
    0
    (given plan)

-- what becomes of the link's queue by a call that finds `a`, ends so, retires these numbers, and gives `r` (D3)
pub record ChangedOver (plan : Plan) (a : Areas) (ending : Ending) (retired : List ℕ) (r : Result) : Type 0 where
  -- it was retired, dropped and leaving messages, in this order, as many as the event says
  pub in_three : queue_of a ending.link ≡ retiring a ending ++ (dropping a ending ++ leaving a ending)
  pub retired_are : retired ≡ retiring a ending
  pub retired_many : length (retiring a ending) ≡ ending.parts.retired
  pub dropped_many : length (dropping a ending) ≡ ending.parts.dropped
  -- those that leave stand in these slots, in order
  pub leaving_are : leaving a ending ≡ map (arrival_of ending.from.rows) (rest ending.parts (slots_then ending))
  -- the link is out, and its queue is empty
  pub goes_out : (record_at r.after.areas.links ending.link).state ≡ state_out
  pub emptied : queue_of r.after.areas ending.link ≡ []
  -- every other link's queue has what it had, and behind it what joins it; those held apart are as they were
  pub joined : (other : ℕ) → other < 32 → (other ≡ ending.link → ⊥)
      → queue_of r.after.areas other ≡ queue_of a other ++ joining plan a ending other
  pub apart : queue_of r.after.areas apart_ring ≡ queue_of a apart_ring
  -- so a host reads what joined it from the queue before and the queue after
  pub put : (other : ℕ) → other < 32 → (other ≡ ending.link → ⊥)
      → put_on (queue_of a other) (queue_of r.after.areas other) ≡ joining plan a ending other
  -- the reports: the drops, "sent ones" with "reason 2" (R127), and nothing else but the changes of access; as many as the answer counts (R219)
  pub told : told_by r
      ≡ (drops_with 2 (dropping a ending) ++ drops_with 1 (unrouted plan ending)) ++ changes_by plan ending
  pub counted : length (told_by r) ≡ r.answer.reports
  -- "once" (D3): each message that leaves is on one of the 32 links, or reported with reason 1, as often as it stood in the queue
  pub each_once : (number : ℕ)
      → tally (is number) (leaving a ending)
      ≡ sum (λ other. tally (is number) (moved_to plan ending other)) 32 + tally (is number) (unrouted plan ending)
  -- as a host reads it from the queues, of every number but the answer's
  pub read_once : (number : ℕ) → (next_of a.arrivals ≡ number → ⊥)
      → tally (is number) (leaving a ending)
      ≡ sum (λ other. tally (is number) (put_on (queue_of a other) (queue_of r.after.areas other))) 32
      + tally (is number) (unrouted plan ending)
  -- where no number is twice; and none comes back
  pub not_twice : (number : ℕ) → tally (is number) (queue_of a ending.link) ≤ 1
  pub none_back : moved_to plan ending ending.link ≡ []

-- "COO or COA with number F" (R119), and "ECO, ECA" (R127), which bring none
abbrev pub WithNumber : ℕ → Message → Type 0
WithNumber f message = (message ≡ COO f) ⊎ (message ≡ COA f)

abbrev pub WithoutNumber : Message → Type 0
WithoutNumber message = (message ≡ ECO) ⊎ (message ≡ ECA)

-- such a message, received, of the link that it names: "by the message's OPC, as adjacent point, and its SLC" (R117)
pub record Brings (plan : Plan) (call : Call) (link : ℕ) (Says : Message → Type 0) : Type 0 where
  pub arriving : ℕ
  pub fsn : ℕ
  pub order : Order
  pub received : call.event ≡ Received arriving fsn
  pub read : from_link plan call.message ≡ Managed order
  pub says : Says order.message
  pub names : link_named plan order.point order.slc ≡ link

-- a link is in service: "A link is out, waiting, open or changing." (R74)
abbrev pub InService : Areas → ℕ → Type 0
InService a link = (record_at a.links link).state ≡ state_out → ⊥

-- it is, and "F in range" (R125) of its numbers
pub record Meets (a : Areas) (link f : ℕ) : Type 0 where
  pub in_service : InService a link
  pub is_in_range : in_range 128 (record_at a.links link).acknowledged (record_at a.links link).sent f ≡ true

-- then that link goes out, and "messages up to F are retired and the rest move" (R125)
pub record AfterNumber (a : Areas) (ending : Ending) (link f : ℕ) : Type 0 where
  pub ends : ending.ends ≡ true
  pub that_link : ending.link ≡ link
  -- F is the number of the last retired, which was sent: as many on from the last acknowledged as are retired (R103)
  pub up_to : onward 128 (record_at a.links link).acknowledged (length (retiring a ending)) ≡ f % 128
  pub all_sent : length (retiring a ending) ≤ (record_at a.links link).sent
  -- none is dropped for it: behind those retired all leave
  pub none_dropped : dropping a ending ≡ []
  pub rest_leaves : queue_of a link ≡ retiring a ending ++ leaving a ending

-- "ECO, ECA ..: sent ones dropped, reason 2; unsent ones move" (R127, R236)
pub record SentDropped (a : Areas) (ending : Ending) (link : ℕ) : Type 0 where
  pub ends : ending.ends ≡ true
  pub that_link : ending.link ≡ link
  pub none_retired : retiring a ending ≡ []
  pub sent_are : dropping a ending ≡ take (record_at a.links link).sent (queue_of a link)
  pub unsent_leave : leaving a ending ≡ drop (record_at a.links link).sent (queue_of a link)
