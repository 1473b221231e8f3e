-- Over any run of calls from any configuration: no call but the end of a T6 takes a message from those held apart, or puts one before another.
-- Assumes nothing.
use mathlib.Core.Path.{◌≡◌, refl, sym, ap, ap₂, ◌∙◌}
use mathlib.Core.Bool.{false, true≢false}
use mathlib.Core.List.{List, [], ◌∷◌, map, append-nil}
use Prim.Native.Nat.{ℕ}
use native.Mathlib.Omega.{arith}
use lib.Dec.{eqb}
use lib.ListN.{length}
use Rattle.constants.specs.Constants.{apart_ring}
use Rattle.plan.specs.declared.data.Plan.{Plan}
use Rattle.plan.proofs.Split.{both_false}
use Rattle.area_slots.specs.declared.Slot.{Slot}
use Rattle.area_slots.specs.SlotRows.{slot_at}
use Rattle.wire.specs.declared.header.Label.{Label}
use Rattle.replies.specs.Reply.{plain, done}
use Rattle.replies.specs.Areas.{Areas, Outcome, outcome, judged, refused, with_links, with_marks}
use Rattle.queue_heads.specs.Head.{both}
use Rattle.numbers.specs.Numbers.{is_taken}
use Rattle.numbers.specs.Taken.{with_taken, taken_by}
use Rattle.management_making.specs.Make.{with_made, makes_reply}
use Rattle.discrimination.specs.declared.Came.{Came}
use Rattle.discrimination.specs.declared.Came.TheVariants.{Malformed, Foreign, Delivered, Managed, Passed}
use Rattle.discrimination.specs.Discrimination.{from_link, from_host}
use Rattle.passing_passage.specs.Passage.{unreachable, ring_of, place_reply, queued, prohibited_to, tells}
use Rattle.passing.specs.Pass.{marks_told, not_reached, passed}
use Rattle.passing_offering.specs.Host.{refuses, offered, from_host_by, sent}
use Rattle.receiving.specs.Receive.{reply_of, received_by, received}
use Rattle.managing.specs.Managed.{managed}
use Rattle.changeover.specs.Fail.{failed}
use Rattle.changeover_overdue.specs.Expire as Change
use Rattle.changeback.specs.Service.{into_service}
use Rattle.changeback_waiting.specs.Wait as Wait
use Rattle.sending.specs.Send as Send
use Rattle.acknowledging.specs.Acknowledge as Acknowledge
use Rattle.rerouting_expiry.specs.Expiry.{expired_t8}
use Rattle.rerouting.specs.Timer.{expired_t10}
use Rattle.plan_configuration.specs.Configure.{configured}
use Rattle.node.specs.declared.call.Event.{Event}
use Rattle.node.specs.declared.call.Event.TheVariants.{IntoService, Failure, Send, Acknowledgement, Received, FromHost, T1, T2, T3, T4, T6, T8, T10}
use Rattle.node.specs.Memory.{Memory}
use Rattle.node.specs.Call.{sends, acknowledges, wait_ends, t8_ends, receives, takes_over, call_of}
use Rattle.promise_runs.specs.Run.{Call, lent, called, ran, fresh, Whole}
use Rattle.promise_runs.proofs.KeepsCalls.{RegularAt}
use Rattle.promise_runs.proofs.Reached.{configured_regular}
use Rattle.promise_runs.proofs.Outcomes.{RegularIn, by_test}
use Rattle.promise_ledger.specs.Held.{arrival_of, numbers}
use Rattle.promise_ledger.proofs.Behind.{user_joined}
use Rattle.promise_accounts.specs.Gone.{queue_of}
use Rattle.promise_contents.proofs.FreeQueued.{ring_within}
use Rattle.promise_leaving.specs.Apart.{held_apart}
use Rattle.promise_apart.specs.WhileT6.{Each, is_t6, StayApart}
use Rattle.promise_apart.proofs.Steady.{Steady, steady_none}
use Rattle.promise_apart.proofs.Joining.{told_steady}
use Rattle.promise_apart.proofs.Receiving.{steady_links, managed_steady}
use Rattle.promise_apart.proofs.Calls.{timer_steady, failure_steady, service_steady, acknowledged_steady, t8_steady, t10_steady}

-- slots with the same rows have the same numbers
same_numbers : (before after slots : List ℕ) → Each (λ (slot : ℕ). slot_at after slot ≡ slot_at before slot) slots
    → map (arrival_of after) slots ≡ map (arrival_of before) slots
unfolding Each
same_numbers before after [] all = refl
same_numbers before after (slot ∷ slots) all =
    ap₂ (λ (n : ℕ) (l : List ℕ). n ∷ l) (ap (λ (s : Slot). s.arrival) all.0) (same_numbers before after slots all.1)

-- what is left as it is
steady_stay : (a b : Areas) → Steady a b → StayApart a b
unfolding numbers
steady_stay a b steady = record {
  new = [];
  behind =
      ap (map (arrival_of b.rows)) steady.slots
      ∙ same_numbers a.rows b.rows (held_apart a) steady.rows
      ∙ sym (append-nil (queue_of a apart_ring));
}

module _ (plan : Plan) (a : Areas) (octets : List ℕ) (regular : RegularIn a octets) where
  abbrev StayBy : Outcome → Type 0
  StayBy o = StayApart a o.after

  none_stay : StayApart a a
  none_stay = steady_stay a a (steady_none a)

  -- a message for another point that has a way: queued, or refused
  queued_stay : (label : Label) (size : ℕ) → unreachable plan a label ≡ false → StayApart a (queued plan a label size)
  unfolding queued
  queued_stay label size reached =
      let joins =
      user_joined a.rows octets (both a.spans a.rings) regular.store a.arrivals (ring_of plan a label)
      (ring_within plan a label reached)
      label.dpc
      label.sls
      size
      apart_ring
      (omega arith)
      in
      record { new = joins.0; behind = joins.1 }

  place_stay : (label : Label) (size : ℕ) → unreachable plan a label ≡ false
      → StayBy (judged (place_reply a) (outcome (done 0) (queued plan a label size)) a)
  place_stay label size reached =
      by_test StayBy (eqb (place_reply a) 0) (outcome (done 0) (queued plan a label size)) (refused (place_reply a) a)
      (λ e. queued_stay label size reached)
      (λ e. none_stay)

  -- one that has none
  not_reached_stay : (arriving x : ℕ) → StayBy (not_reached plan arriving x a)
  unfolding not_reached
  not_reached_stay arriving x =
      let draft = prohibited_to plan arriving x in
      let then : Areas = with_marks (with_made plan draft a) (marks_told plan a arriving x) in
      by_test StayBy (tells plan a.marks x) (judged (makes_reply plan draft a) (outcome (plain 9) then) a) (outcome (plain 9) a)
      (λ e.
      by_test StayBy (eqb (makes_reply plan draft a) 0) (outcome (plain 9) then) (refused (makes_reply plan draft a) a)
      (λ made. steady_stay a then (told_steady plan a octets regular arriving x))
      (λ not. none_stay))
      (λ e. none_stay)

  -- from a link, by what it is
  came_stay : (arriving fsn size : ℕ) (came : Came) → StayBy (received_by plan arriving fsn size came a)
  unfolding received_by passed
  came_stay arriving fsn size Malformed = none_stay
  came_stay arriving fsn size Foreign = none_stay
  came_stay arriving fsn size Delivered = none_stay
  came_stay arriving fsn size (Managed order) =
      steady_stay a (managed plan arriving fsn order.point order.slc order.message a).after
      (managed_steady plan a octets regular arriving fsn order.point order.slc order.message)
  came_stay arriving fsn size (Passed label) =
      by_test StayBy (unreachable plan a label) (not_reached plan arriving label.dpc a)
      (judged (place_reply a) (outcome (done 0) (queued plan a label size)) a)
      (λ e. not_reached_stay arriving label.dpc)
      (place_stay label size)

  received_stay : (arriving fsn : ℕ) (message : List ℕ) → StayBy (received plan arriving fsn message a)
  unfolding received
  received_stay arriving fsn message =
      let reply = reply_of plan a.links arriving fsn a.reports in
      let became : Outcome = received_by plan arriving fsn (length message) (from_link plan message) a in
      let stay = came_stay arriving fsn (length message) (from_link plan message) in
      by_test StayBy (eqb reply 0) (taken_by arriving fsn became) (refused reply a)
      (λ e.
      by_test (StayApart a) (is_taken became.answer.reply) (with_taken arriving fsn became.after) became.after
      (λ taken. record { new = stay.new; behind = stay.behind })
      (λ not. stay))
      (λ e. none_stay)

  -- from the host
  host_stay : (size : ℕ) (came : Came) → StayBy (from_host_by plan came size a)
  unfolding from_host_by offered refuses
  host_stay size Malformed = none_stay
  host_stay size Foreign = none_stay
  host_stay size Delivered = none_stay
  host_stay size (Managed order) = none_stay
  host_stay size (Passed label) =
      by_test StayBy (refuses plan a label) (refused 9 a) (judged (place_reply a) (outcome (done 0) (queued plan a label size)) a)
      (λ e. none_stay)
      (λ e. place_stay label size (both_false (eqb label.dpc plan.code) (unreachable plan a label) e).1)

  sent_stay : (message : List ℕ) → StayBy (sent plan message a)
  unfolding sent
  sent_stay message =
      by_test StayBy plan.given (from_host_by plan (from_host plan message) (length message) a) (refused 2 a)
      (λ e. host_stay (length message) (from_host plan message))
      (λ e. none_stay)

module _ (plan : Plan) (message : List ℕ) (m : Memory) (regular : RegularAt m) where
  abbrev a : Areas
  a = m.areas

  -- every event but T6's
  call_stay : (event : Event) → is_t6 event ≡ false → StayApart a (call_of plan event message m).after.areas
  unfolding call_of sends acknowledges wait_ends t8_ends receives takes_over is_t6
  call_stay (IntoService link) other = steady_stay a (into_service plan a link).after (service_steady plan a m.octets regular link)
  call_stay (Failure link) other = steady_stay a (failed plan a link).after (failure_steady plan a m.octets regular link)
  call_stay (Send link) other =
      let links = Send.links_after plan a.links a.spans link (length m.out) in
      steady_stay a (with_links a links) (steady_links a a (steady_none a) links)
  call_stay (Acknowledgement link b) other =
      steady_stay a _ (acknowledged_steady plan a m.octets regular link b (Acknowledge.links_after plan a.links link b))
  call_stay (Received link fsn) other = received_stay plan a m.octets regular link fsn message
  call_stay FromHost other = sent_stay plan a m.octets regular message
  call_stay (T1 link) other = steady_stay a (Change.expired plan a link 1).after (timer_steady plan a m.octets regular link 1)
  call_stay (T2 link) other = steady_stay a (Change.expired plan a link 2).after (timer_steady plan a m.octets regular link 2)
  call_stay (T3 link) other =
      steady_stay a (with_links a (Wait.expired plan a.links link 3)) (steady_links a a (steady_none a) (Wait.expired plan a.links link 3))
  call_stay (T4 link) other =
      steady_stay a (with_links a (Wait.expired plan a.links link 4)) (steady_links a a (steady_none a) (Wait.expired plan a.links link 4))
  call_stay (T6 x) other = absurd (true≢false other)
  call_stay (T8 x) other = steady_stay a (with_marks a (expired_t8 plan a.marks x)) (t8_steady plan a m.octets regular x)
  call_stay (T10 x set) other = steady_stay a (expired_t10 plan a x set).after (t10_steady plan a m.octets regular x set)

-- at any time
pub stay_apart : (m : Memory) → Whole m → (text : List ℕ) (earlier : List Call) (call : Call)
    → let plan = (configured text).plan in
    let before = ran plan earlier (fresh m) in
    is_t6 call.event ≡ false → StayApart before.areas (called plan call before).areas
unfolding called
stay_apart m whole text earlier call other =
    let plan = (configured text).plan in
    let before : Memory = ran plan earlier (fresh m) in
    let stay = call_stay plan call.message (lent call before) (configured_regular text m whole earlier) call.event other in
    record { new = stay.new; behind = stay.behind }
