-- Every call: a slot has the row that it had and is free if it was, or the one message that the event can bring is written there, with the next
-- number.
-- Assumes nothing.
use mathlib.Core.Path.{◌≡◌, refl}
use mathlib.Core.Logic.{inl}
use mathlib.Core.Bool.{false, not, ◌||◌}
use mathlib.Core.List.{List, []}
use Prim.Native.Nat.{ℕ, ◌<◌}
use native.Mathlib.Omega.{arith}
use lib.Dec.{eqb, leb}
use borrow.Author.Tests.{ltb-true}
use Rattle.plan.specs.declared.data.Plan.{Plan}
use Rattle.plan.specs.Find.{place_of}
use Rattle.area_flags.specs.Flags.{with_flag}
use Rattle.area_links.specs.LinkRecords.{record_at}
use Rattle.queue_store.specs.Sound.{Kinds}
use Rattle.reports.specs.Report.{short}
use Rattle.replies.specs.Areas.{Areas, Outcome}
use Rattle.lookup.specs.Lookup.{is_link}
use Rattle.queue_heads.specs.Head.{Queues}
use Rattle.queue_retiring.specs.Leave.{State, state, retired}
use Rattle.queue_joining.specs.Queue.{next_of}
use Rattle.numbers.specs.Numbers.{up_to}
use Rattle.management_making.specs.Make.{Held, held_in, makes_reply}
use Rattle.changeover_cuts.specs.Cuts.{cut_none}
use Rattle.changeover_ending.specs.End.{out_of_service}
use Rattle.changeover_failure.specs.Failure.{state_at, order_of}
use Rattle.changeover.specs.Fail.{open_failed, failed}
use Rattle.changeover_failure.specs.Failure as Failure
use Rattle.changeover_failure.specs.Overdue as Overdue
use Rattle.changeover_overdue.specs.Expire as Change
use Rattle.changeback_pairs.specs.declared.Sources.{Sources}
use Rattle.changeback_service.specs.InService.{declares, sources_in}
use Rattle.changeback.specs.Service.{declared, into_service}
use Rattle.changeback.specs.Service as Service
use Rattle.constants.specs.Constants.{t6}
use Rattle.queue_moving.specs.Move.{apart}
use Rattle.rerouting.specs.Timer.{reply_t6, expired_t6, expired_t10}
use Rattle.rerouting_expiry.specs.Expiry.{reply_t10, test_of}
use Rattle.acknowledging.specs.Acknowledge.{out_of_range, link_open}
use Rattle.acknowledging.specs.Acknowledge as Acknowledge
use Rattle.node.specs.declared.call.Event.{Event}
use Rattle.node.specs.declared.call.Event.TheVariants.{IntoService, Failure, Send, Acknowledgement, Received, FromHost, T1, T2, T3, T4, T6, T8, T10}
use Rattle.node.specs.Memory.{Memory}
use Rattle.node.specs.Call.{sends, acknowledges, wait_ends, t8_ends, receives, takes_over, call_of}
use Rattle.promise_runs.proofs.Outcomes.{RegularIn, by_test, if_done_lem, rows_passed, link_within}
use Rattle.promise_contents.specs.Made.{New, Nothing, Made, declaration_by, declaration_of, new_of}
use Rattle.promise_contents.proofs.FreeMoving.{freer_retired, freer_released}
use Rattle.promise_contents.proofs.FreeEvents.{queues_in, StaysAt, Stays, stays_none, judged_stays, stays_freer, out_stays}
use Rattle.promise_contents.proofs.FreeQueued.{management_stays, made_stays}
use Rattle.promise_contents.proofs.FreeOrders.{StaysBy}
use Rattle.promise_contents.proofs.FreeReceiving.{received_stays, sent_stays}

module _ (plan : Plan) (a : Areas) (octets : List ℕ) (regular : RegularIn a octets) (kinds : Kinds a.spans a.rings) where
  abbrev By : New → Outcome → Type 0
  By = StaysBy plan a octets regular kinds

  -- the failure of a link
  open_stays : (link : ℕ) → By (Made (order_of plan a.links link)) (open_failed plan a link)
  unfolding open_failed
  open_stays link = made_stays a octets regular kinds plan (order_of plan a.links link)

  -- an open one, or one that waits
  failure_stays : (link : ℕ) → By (Made (order_of plan a.links link)) (failed plan a link)
  unfolding failed Failure.reply_of
  failure_stays link =
      let new = Made (order_of plan a.links link) in
      judged_stays new a (Failure.reply_of plan a.links link a.reports) _
      (λ done.
      let waits = eqb (state_at a.links link) 1 in
      let opened = eqb (state_at a.links link) 2 in
      let passed = rows_passed (leb 32 link || short a.reports) (not (is_link plan link)) (not (opened || waits)) [] done in
      by_test (By new) waits (out_of_service plan a link cut_none) (open_failed plan a link)
      (λ e.
      out_stays new a a octets (stays_none new a) regular plan link (omega (arith, link_within link (short a.reports) passed.0))
      cut_none)
      (λ e. open_stays link))

  -- T1, or T2, expires
  change_stays : (link timer : ℕ) → By Nothing (Change.expired plan a link timer)
  unfolding Change.expired Overdue.reply_of
  change_stays link timer =
      let known = record_at a.links link in
      let odd = not (eqb timer 1 || eqb timer 2) in
      judged_stays Nothing a (Overdue.reply_of plan a.links link timer a.reports) _
      (λ done.
      let passed = rows_passed (leb 32 link || (odd || short a.reports)) (not (is_link plan link)) (not (eqb known.timer timer)) [] done in
      out_stays Nothing a a octets (stays_none Nothing a) regular plan link
      (omega (arith, link_within link (odd || short a.reports) passed.0))
      cut_none)

  -- a link comes into service
  declared_stays : (link : ℕ) (from : Sources) (slot : ℕ) → slot < 256
      → let then = declared plan link from (held_in a) in
      StaysAt (Made (declaration_by plan link from)) (next_of a.arrivals) (queues_in a) then.queues a.rows then.rows slot
  unfolding declared
  declared_stays link from slot h =
      let draft = declaration_by plan link from in
      by_test (λ (then : Held). StaysAt (Made draft) (next_of a.arrivals) (queues_in a) then.queues a.rows then.rows slot)
      (declares from)
      _
      (held_in a)
      (λ e.
      let there = ltb-true from.own 32 e in
      management_stays a.rows octets (queues_in a) regular.store kinds a.arrivals from.own (omega arith) draft slot h)
      (λ e. inl (refl, omega arith))

  -- with the link in service
  service_stays : (link : ℕ) → By (Made (declaration_of plan a link)) (into_service plan a link)
  unfolding into_service
  service_stays link =
      judged_stays (Made (declaration_of plan a link)) a (Service.reply_of plan a link) _
      (λ done. declared_stays link (sources_in plan a.links a.marks link))

  -- T6 expires
  t6_stays : (x : ℕ) → By Nothing (expired_t6 plan a x)
  unfolding expired_t6
  t6_stays x =
      let marks = with_flag a.marks (place_of plan x) t6 false in
      let now : State = state a.spans a.rings a.reports 0 in
      judged_stays Nothing a (reply_t6 plan a.marks x a.reports) _
      (λ done.
      stays_freer apart Nothing (next_of a.arrivals) (queues_in a) (queues_in a) _ a.rows a.rows octets
      (freer_released a.rows octets plan a.links marks x now regular.store)
      (stays_none Nothing a))

  -- T10 expires
  t10_stays : (x set : ℕ) → By (Made (test_of plan x set)) (expired_t10 plan a x set)
  unfolding expired_t10
  t10_stays x set =
      let draft = test_of plan x set in
      judged_stays (Made draft) a (reply_t10 plan a.marks x set) _
      (λ done. judged_stays (Made draft) a (makes_reply plan draft a) _ (λ made. made_stays a octets regular kinds plan draft))

  -- an acknowledgement
  within : (link b : ℕ) → Acknowledge.reply_of plan a.links link b ≡ 0 → link < 32
  unfolding Acknowledge.reply_of
  within link b done =
      let passed = rows_passed (out_of_range link b) (not (is_link plan link)) (not (link_open a.links link)) _ done in
      link_within link (leb 128 b) passed.0

  -- what it retires is given up
  acknowledged_stays : (link b slot : ℕ) → slot < 256
      → StaysAt Nothing (next_of a.arrivals) (queues_in a) (Acknowledge.queues_after plan a.links (queues_in a) link b) a.rows a.rows slot
  unfolding Acknowledge.queues_after
  acknowledged_stays link b slot h =
      let many = up_to (record_at a.links link) b in
      if_done_lem (λ (q : Queues). StaysAt Nothing (next_of a.arrivals) (queues_in a) q a.rows a.rows slot) (Acknowledge.reply_of plan a.links link b)
      (retired link many (queues_in a))
      (queues_in a)
      (λ done.
      let ring : link < 33 = omega (arith, within link b done) in
      inl (refl, (freer_retired a.rows octets link ring many (queues_in a) regular.store).free slot))
      (inl (refl, omega arith))

module _ (plan : Plan) (message : List ℕ) (m : Memory) (regular : RegularIn m.areas m.octets)
    (kinds : Kinds m.areas.spans m.areas.rings) where
  -- every event
  pub call_stays : (event : Event) → Stays (new_of plan event message m.areas) m.areas (call_of plan event message m).after.areas
  unfolding call_of new_of sends acknowledges wait_ends t8_ends receives takes_over
  call_stays (IntoService link) = service_stays plan m.areas m.octets regular kinds link
  call_stays (Failure link) = failure_stays plan m.areas m.octets regular kinds link
  call_stays (Send link) = stays_none Nothing m.areas
  call_stays (Acknowledgement link b) = acknowledged_stays plan m.areas m.octets regular kinds link b
  call_stays (Received link fsn) = received_stays plan m.areas m.octets regular kinds message link fsn
  call_stays FromHost = sent_stays plan m.areas m.octets regular kinds message
  call_stays (T1 link) = change_stays plan m.areas m.octets regular kinds link 1
  call_stays (T2 link) = change_stays plan m.areas m.octets regular kinds link 2
  call_stays (T3 link) = stays_none Nothing m.areas
  call_stays (T4 link) = stays_none Nothing m.areas
  call_stays (T6 x) = t6_stays plan m.areas m.octets regular kinds x
  call_stays (T8 x) = stays_none Nothing m.areas
  call_stays (T10 x set) = t10_stays plan m.areas m.octets regular kinds x set
