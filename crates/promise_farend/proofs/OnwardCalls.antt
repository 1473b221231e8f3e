-- Every call lets the queue and the numbers of every link go on but those of one: the link that it takes out, or that is sent on,
-- acknowledged or brought into service.
-- Assumes nothing.
use mathlib.Core.Path.{◌≡◌, refl, sym, ap, ◌∙◌}
use mathlib.Core.Bool.{Bool, true, false, cond, not, ◌||◌, or-false}
use mathlib.Core.List.{List, [], append-nil}
use Prim.Native.Nat.{ℕ, ◌<◌}
use native.Mathlib.Omega.{arith}
use lib.Dec.{eqb, leb}
use lib.ListN.{length}
use borrow.Author.Tests.{ltb-true, ltb-false, eqb-true, not-false}
use Rattle.plan.specs.declared.data.Plan.{Plan}
use Rattle.plan.specs.Find.{place_of}
use Rattle.plan.proofs.Split.{both_false}
use Rattle.area_links.specs.declared.LinkRecord.{LinkRecord}
use Rattle.area_flags.specs.Flags.{with_flag}
use Rattle.area_numbers.specs.LinkWords.{with_acknowledged, with_sent}
use Rattle.area_links.specs.LinkRecords.{record_at, with_record}
use Rattle.reports.specs.Report.{short, room}
use Rattle.wire_messages.specs.declared.management.Message.TheVariants.{CBD}
use Rattle.wire_messages.specs.Management.{heading_of}
use Rattle.replies.specs.Reply.{first}
use Rattle.replies.specs.Areas.{Areas, areas, Outcome, refused, with_links}
use Rattle.lookup.specs.Lookup.{is_link, slc_of, adjacent_of}
use Rattle.queue_heads.specs.Head.{Queues, both}
use Rattle.queue_retiring.specs.Leave.{State, state, retired}
use Rattle.numbers.specs.Numbers.{one_more, up_to, left_sent}
use Rattle.management_making.specs.Make.{Held, held_in, with_held, with_made, makes_reply}
use Rattle.changeover_cuts.specs.Cuts.{cut_none}
use Rattle.changeover_ending.specs.End.{out_of_service}
use Rattle.changeover_failure.specs.Failure.{state_at, order_of, changing}
use Rattle.changeover.specs.Fail.{timer_of, open_failed, failed}
use Rattle.changeover_failure.specs.Failure as Failure
use Rattle.changeover_failure.specs.Overdue as Overdue
use Rattle.changeover_overdue.specs.Expire as Change
use Rattle.changeback_pairs.specs.declared.Sources.{Sources}
use Rattle.changeback_service.specs.InService.{declares, comes_as, sources_in, links_in}
use Rattle.changeback.specs.Service.{declared, into_service}
use Rattle.changeback.specs.Service as Service
use Rattle.changeback_opening.specs.Opening.{stopped}
use Rattle.changeback_waiting.specs.Wait as Wait
use Rattle.constants.specs.Constants.{t6}
use Rattle.rerouting.specs.Timer.{reply_t6, expired_t6, expired_t10}
use Rattle.rerouting_expiry.specs.Expiry.{reply_t10, test_of}
use Rattle.rerouting_expiry.specs.Expiry as Expiry
use Rattle.sending.specs.Send as Send
use Rattle.acknowledging.specs.Acknowledge as Acknowledge
use Rattle.node.specs.declared.call.Event.{Event}
use Rattle.node.specs.declared.call.Event.TheVariants.{IntoService, Failure, Send, Acknowledgement, Received, FromHost, T1, T2, T3, T4, T6, T8, T10}
use Rattle.node.specs.View.{View, Comes, Fails, Sends, Acknowledges, Arrives, HandedOver, Overdue, Expires, view_of}
use Rattle.node.specs.Memory.{Memory}
use Rattle.node.specs.Call.{sends, acknowledges, wait_ends, t8_ends, receives, takes_over, call_of}
use Rattle.promise_runs.proofs.Records.{record_rewritten, sent_rewritten, acknowledged_rewritten}
use Rattle.promise_runs.proofs.Outcomes.{RegularIn, by_test, if_done_lem, if_both_done, rows_passed, link_within}
use Rattle.promise_accounts.specs.Gone.{queue_of}
use Rattle.promise_accounts.specs.Ending.{ending_by_timer, ending_by_failure, ending_of}
use Rattle.promise_accounts.proofs.EvenMaking.{joined}
use Rattle.promise_farend.proofs.Onward.{same_if, same_self, Onward, onward_none, onward_stored}
use Rattle.promise_farend.proofs.OnwardMade.{joined_onward, made_onward, out_onward, released_grows}
use Rattle.promise_farend.proofs.Tests.{by_done, two_tests}
use Rattle.promise_farend.proofs.Retired.{others_left}
use Rattle.promise_farend.proofs.OnwardPassing.{sent_onward}
use Rattle.promise_farend.proofs.OnwardReceiving.{but_of, stopped_same, received_onward}

module _ (plan : Plan) (a : Areas) (octets : List ℕ) (regular : RegularIn a octets) where
  -- the link that an event is about
  module _ (link : ℕ) where
    abbrev known : LinkRecord
    known = record_at a.links link

    -- T1, or T2, expires
    timer_onward : (timer : ℕ) → Onward (but_of (ending_by_timer plan a link timer)) a (Change.expired plan a link timer).after
    unfolding ending_by_timer Change.expired Overdue.reply_of
    timer_onward timer =
        let odd = not (eqb timer 1 || eqb timer 2) in
        let reply = Overdue.reply_of plan a.links link timer a.reports in
        by_done (λ (ends : Bool) (o : Outcome). Onward (cond ends link 32) a o.after) reply
        (out_of_service plan a link cut_none)
        (refused reply a)
        (λ done.
        let passed = rows_passed (leb 32 link || (odd || short a.reports)) (not (is_link plan link)) (not (eqb known.timer timer)) [] done in
        out_onward a octets regular plan link (link_within link (odd || short a.reports) passed.0)
        (both_false odd (short a.reports) (both_false (leb 32 link) (odd || short a.reports) passed.0).1).1
        cut_none)
        (onward_none 32 a)

    -- an open link fails
    open_onward : known.state ≡ 2 → Onward 32 a (open_failed plan a link).after
    unfolding open_failed
    open_onward is =
        onward_stored 32 a (with_made plan (order_of plan a.links link) a) regular.links_long
        (made_onward a octets regular plan (order_of plan a.links link))
        (record_rewritten a.links link (changing known (timer_of plan a link)))
        (record { acknowledged_same = refl; sent_same = refl; still_out = λ out. absurd (omega (arith, is)); still_in = λ out. absurd (omega (arith, out)) })

    failure_onward : Onward (but_of (ending_by_failure plan a link)) a (failed plan a link).after
    unfolding ending_by_failure failed Failure.reply_of
    failure_onward =
        let reply = Failure.reply_of plan a.links link a.reports in
        let waits = eqb (state_at a.links link) 1 in
        let opened = eqb (state_at a.links link) 2 in
        two_tests (λ (ends : Bool) (o : Outcome). Onward (cond ends link 32) a o.after) reply waits (out_of_service plan a link cut_none)
        (open_failed plan a link)
        (refused reply a)
        (λ done e.
        let passed = rows_passed (leb 32 link || short a.reports) (not (is_link plan link)) (not (opened || waits)) [] done in
        out_onward a octets regular plan link (link_within link (short a.reports) passed.0)
        (both_false (leb 32 link) (short a.reports) passed.0).1
        cut_none)
        (λ done e.
        let passed = rows_passed (leb 32 link || short a.reports) (not (is_link plan link)) (not (opened || waits)) [] done in
        let is : opened ≡ true = sym (or-false opened) ∙ ap (λ (t : Bool). opened || t) (sym e) ∙ not-false (opened || waits) passed.2 in
        open_onward (eqb-true (state_at a.links link) 2 is))
        (onward_none 32 a)

    -- a link comes into service
    service_onward : Onward link a (into_service plan a link).after
    unfolding into_service links_in declared
    service_onward =
        let from : Sources = sources_in plan a.links a.marks link in
        let there : Onward 32 a (with_held a (declared plan link from (held_in a))) =
        by_test (λ (now : Held). Onward 32 a (with_held a now)) (declares from)
        (joined a octets regular from.own (heading_of (CBD from.own)) (adjacent_of plan link) (slc_of plan link) from.own)
        (held_in a)
        (λ e.
        let h = ltb-true from.own 32 e in
        joined_onward a octets regular from.own (omega arith) (heading_of (CBD from.own)) (adjacent_of plan link) (slc_of plan link) from.own)
        (λ e. record { queues = (onward_none 32 a).queues; records = (onward_none 32 a).records })
        in
        if_done_lem (λ (o : Outcome). Onward link a o.after) (Service.reply_of plan a link) _ _
        (λ done.
        record {
          queues = λ other h apart. there.queues other h (λ e. omega arith);
          records = λ other h apart. same_if _ _ ((record_rewritten a.links link (comes_as from)).others other apart);
        })
        (onward_none link a)

    -- T3, or T4, expires
    wait_onward : (timer : ℕ) → Onward 32 a (with_links a (Wait.expired plan a.links link timer))
    unfolding Wait.expired
    wait_onward timer =
        if_done_lem (λ (l : List ℕ). Onward 32 a (with_links a l)) (Wait.reply_of plan a.links link timer)
        (with_record a.links link (stopped known timer))
        a.links
        (λ done.
        onward_stored 32 a a regular.links_long (onward_none 32 a) (record_rewritten a.links link (stopped known timer))
        (stopped_same known timer))
        (record { queues = (onward_none 32 a).queues; records = (onward_none 32 a).records })

    -- a send
    send_onward : (room : ℕ) → Onward link a (with_links a (Send.links_after plan a.links a.spans link room))
    unfolding Send.links_after
    send_onward room =
        if_done_lem (λ (l : List ℕ). Onward link a (with_links a l)) (Send.reply_of plan a.links a.spans link room)
        (with_sent a.links link (one_more known))
        a.links
        (λ done.
        record {
          queues = (onward_none link a).queues;
          records = λ other h apart. same_if _ _ ((sent_rewritten a.links link (one_more known)).others other apart);
        })
        (record { queues = (onward_none link a).queues; records = (onward_none link a).records })

    -- one that is done is of a link that there is
    within : (b : ℕ) → Acknowledge.reply_of plan a.links link b ≡ 0 → link < 32
    unfolding Acknowledge.reply_of
    within b done =
        let passed =
        rows_passed (Acknowledge.out_of_range link b) (not (is_link plan link)) (not (Acknowledge.link_open a.links link)) _ done
        in
        link_within link (leb 128 b) passed.0

    -- an acknowledgement
    acknowledged_onward : (b : ℕ)
        → Onward link a
        (areas (Acknowledge.links_after plan a.links link b) a.marks
        (Acknowledge.queues_after plan a.links (both a.spans a.rings) link b).spans
        (Acknowledge.queues_after plan a.links (both a.spans a.rings) link b).rings
        a.rows
        a.arrivals
        a.reports)
    unfolding Acknowledge.queues_after Acknowledge.links_after
    acknowledged_onward b =
        if_both_done
        (λ (l : List ℕ) (q : Queues). Onward link a (areas l a.marks q.spans q.rings a.rows a.arrivals a.reports))
        (Acknowledge.reply_of plan a.links link b)
        (with_acknowledged (with_sent a.links link (left_sent known b)) link b)
        a.links
        (retired link (up_to known b) (both a.spans a.rings))
        (both a.spans a.rings)
        (λ done.
        record {
          queues =
              λ other h apart.
              let here : link < 33 = omega (arith, within b done) in
              let same =
              others_left a.rows octets link here (up_to known b) (both a.spans a.rings) regular.store other (omega arith) apart
              in
              ([], same ∙ sym (append-nil (queue_of a other)));
          records = λ other h apart. same_if _ _ ((acknowledged_rewritten a.links link b (left_sent known b)).others other apart);
        })
        (record { queues = (onward_none link a).queues; records = (onward_none link a).records })

  -- T6 expires
  t6_onward : (x : ℕ) → Onward 32 a (expired_t6 plan a x).after
  unfolding expired_t6 reply_t6 Expiry.reply_of first
  t6_onward x =
      let marks = with_flag a.marks (place_of plan x) t6 false in
      if_done_lem (λ (o : Outcome). Onward 32 a o.after) (reply_t6 plan a.marks x a.reports) _ _
      (λ done.
      let wide : short a.reports ≡ false =
      by_test (λ (n : ℕ). n ≡ 0 → short a.reports ≡ false) (short a.reports) 1 (Expiry.reply_of plan a.marks x t6)
      (λ e none. absurd (omega arith))
      (λ e none. e)
      done
      in
      let now : State = state a.spans a.rings a.reports 0 in
      let grows =
      released_grows a.rows octets plan a.links marks x now
      (record { sound = regular.store; spare = omega (arith, regular.store.short 32, ltb-false (room a.reports) 512 wide) })
      in
      record { queues = λ link h apart. grows link h; records = λ link h apart. same_self (record_at a.links link) })
      (onward_none 32 a)

  -- T10 expires
  t10_onward : (x set : ℕ) → Onward 32 a (expired_t10 plan a x set).after
  unfolding expired_t10
  t10_onward x set =
      let draft = test_of plan x set in
      if_done_lem (λ (o : Outcome). Onward 32 a o.after) (reply_t10 plan a.marks x set) _ _
      (λ done.
      if_done_lem (λ (o : Outcome). Onward 32 a o.after) (makes_reply plan draft a) _ _ (λ made. made_onward a octets regular plan draft)
      (onward_none 32 a))
      (onward_none 32 a)

-- the link that a call is about: the one that it brings in, sends on or acknowledges, or takes out; 32 where there is none
unfoldable pub own_of : Plan → Areas → List ℕ → View → ℕ
own_of plan a message (Comes link) = link
own_of plan a message (Sends link) = link
own_of plan a message (Acknowledges link b) = link
own_of plan a message (Fails link) = but_of (ending_of plan a message (Fails link))
own_of plan a message (Arrives link fsn) = but_of (ending_of plan a message (Arrives link fsn))
own_of plan a message (Overdue link timer) = but_of (ending_of plan a message (Overdue link timer))
own_of plan a message HandedOver = 32
own_of plan a message Expires = 32

module _ (plan : Plan) (message : List ℕ) (m : Memory) (regular : RegularIn m.areas m.octets) where
  pub call_onward : (event : Event) → Onward (own_of plan m.areas message (view_of event)) m.areas (call_of plan event message m).after.areas
  unfolding own_of ending_of call_of sends acknowledges wait_ends t8_ends receives takes_over
  call_onward (IntoService link) = service_onward plan m.areas m.octets regular link
  call_onward (Send link) = send_onward plan m.areas m.octets regular link (length m.out)
  call_onward (Acknowledgement link b) = acknowledged_onward plan m.areas m.octets regular link b
  call_onward (Failure link) = failure_onward plan m.areas m.octets regular link
  call_onward (Received link fsn) = received_onward plan m.areas m.octets regular link fsn message
  call_onward (T1 link) = timer_onward plan m.areas m.octets regular link 1
  call_onward (T2 link) = timer_onward plan m.areas m.octets regular link 2
  call_onward FromHost = sent_onward plan m.areas m.octets regular message
  call_onward (T3 link) = wait_onward plan m.areas m.octets regular link 3
  call_onward (T4 link) = wait_onward plan m.areas m.octets regular link 4
  call_onward (T6 x) = t6_onward plan m.areas m.octets regular x
  call_onward (T8 x) = record { queues = (onward_none 32 m.areas).queues; records = (onward_none 32 m.areas).records }
  call_onward (T10 x set) = t10_onward plan m.areas m.octets regular x set
