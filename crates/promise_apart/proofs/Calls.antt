-- Every call leaves each message held apart waiting for its T6: what it adds waits, and what waits for a T6 that ends has left.
-- Assumes nothing.
use mathlib.Core.Path.{◌≡◌, refl, sym, ap, ◌∙◌, subst}
use mathlib.Core.Bool.{true, false, not, ◌||◌, and-eq-true_iff}
use mathlib.Core.List.{List, []}
use Prim.Native.Nat.{ℕ, ◌<◌}
use native.Mathlib.Omega.{arith}
use lib.Dec.{eqb, ltb, leb}
use lib.ListN.{length}
use borrow.Author.Tests.{ltb-true, eqb-true, eqb-false, not-false}
use Rattle.constants.specs.Constants.{t6, t8}
use Rattle.plan.specs.declared.data.Plan.{Plan}
use Rattle.plan.specs.Find.{place_of, is_found, code_at, given}
use Rattle.area_flags.specs.Flags.{flag_at, with_flag}
use Rattle.area_links.specs.LinkRecords.{record_at}
use Rattle.queue_store.specs.Sound.{Kinds}
use Rattle.reports.specs.Report.{short}
use Rattle.replies.specs.Reply.{done}
use Rattle.replies.proofs.Rows.{none_applies}
use Rattle.replies.specs.Areas.{Areas, areas, Outcome, outcome, refused, with_links, with_marks}
use Rattle.lookup.specs.Lookup.{is_link, slc_of, adjacent_of}
use Rattle.queue_heads.specs.Head.{Queues, both}
use Rattle.queue_retiring.specs.Leave.{State, state, retired}
use Rattle.queue_moving.specs.Move.{point_of}
use Rattle.numbers.specs.Numbers.{up_to}
use Rattle.management_making.specs.Make.{Held, held_in, with_held, with_made, makes_reply}
use Rattle.changeover_cuts.specs.Cuts.{cut_none}
use Rattle.changeover_ending.specs.End.{out_of_service}
use Rattle.changeover_failure.specs.Failure.{state_at, order_of}
use Rattle.changeover_failure.specs.Failure as Failure
use Rattle.changeover_failure.specs.Overdue as Overdue
use Rattle.changeover.specs.Fail.{open_failed, failed}
use Rattle.changeover_overdue.specs.Expire as Change
use Rattle.changeback_pairs.specs.declared.Sources.{Sources}
use Rattle.changeback_service.specs.InService.{declares, sources_in}
use Rattle.changeback.specs.Service.{declared, into_service}
use Rattle.changeback.specs.Service as Service
use Rattle.changeback_waiting.specs.Wait as Wait
use Rattle.sending.specs.Send as Send
use Rattle.acknowledging.specs.Acknowledge as Acknowledge
use Rattle.rerouting_releasing.specs.Release.{released}
use Rattle.rerouting_expiry.specs.Expiry.{is_destination, expired_t8, reply_t10, test_of}
use Rattle.rerouting_expiry.specs.Expiry as Expiry
use Rattle.rerouting.specs.Timer.{reply_t6, expired_t6, expired_t10}
use Rattle.node.specs.declared.call.Event.{Event}
use Rattle.node.specs.declared.call.Event.TheVariants.{IntoService, Failure, Send, Acknowledgement, Received, FromHost, T1, T2, T3, T4, T6, T8, T10}
use Rattle.node.specs.Memory.{Memory}
use Rattle.node.specs.Call.{sends, acknowledges, wait_ends, t8_ends, receives, takes_over, call_of}
use Rattle.promise_runs.proofs.KeepsCalls.{RegularAt}
use Rattle.promise_runs.proofs.Outcomes.{RegularIn, by_test, if_done_lem, rows_passed, link_within}
use Rattle.promise_accounts.proofs.EvenMaking.{joined}
use Rattle.promise_leaving.specs.Apart.{held_apart}
use Rattle.promise_apart.specs.WhileT6.{Each, Waits}
use Rattle.promise_apart.proofs.Flags.{flag_other}
use Rattle.promise_apart.proofs.T6Ends.{all_looked}
use Rattle.promise_apart.proofs.Each.{each_other}
use Rattle.promise_apart.proofs.Steady.{Steady, same_rows, steady_none, steady_waits, out_steady, retired_stay, joined_steady, made_steady}
use Rattle.promise_apart.proofs.Joining.{sent_waits}
use Rattle.promise_apart.proofs.Receiving.{steady_links, received_waits}

-- two configured destinations at one place are one
same_code : (plan : Plan) (x y : ℕ) → is_found plan x ≡ true → is_found plan y ≡ true → place_of plan x ≡ place_of plan y → x ≡ y
same_code plan x y one two same =
    let code : ℕ → ℕ = λ p. code_at plan.destinations (place_of plan p) in
    let first = (and-eq-true_iff (ltb (place_of plan x) (given plan)) (eqb (code x) x)).0 one in
    let next = (and-eq-true_iff (ltb (place_of plan y) (given plan)) (eqb (code y) y)).0 two in
    sym (eqb-true (code x) x first.1) ∙ ap (code_at plan.destinations) same ∙ eqb-true (code y) y next.1

module _ (plan : Plan) (a : Areas) (octets : List ℕ) (regular : RegularIn a octets) where
  abbrev SteadyBy : Outcome → Type 0
  SteadyBy o = Steady a o.after

  -- the link that an event is about
  module _ (link : ℕ) where
    -- T1, or T2, expires
    pub timer_steady : (timer : ℕ) → SteadyBy (Change.expired plan a link timer)
    unfolding Change.expired Overdue.reply_of
    timer_steady timer =
        let known = record_at a.links link in
        let odd = not (eqb timer 1 || eqb timer 2) in
        let reply = Overdue.reply_of plan a.links link timer a.reports in
        if_done_lem SteadyBy reply (out_of_service plan a link cut_none) (refused reply a)
        (λ done.
        let passed = rows_passed (leb 32 link || (odd || short a.reports)) (not (is_link plan link)) (not (eqb known.timer timer)) [] done in
        out_steady link (link_within link (odd || short a.reports) passed.0) plan a cut_none)
        (steady_none a)

    -- a link fails
    pub failure_steady : SteadyBy (failed plan a link)
    unfolding failed open_failed Failure.reply_of
    failure_steady =
        let reply = Failure.reply_of plan a.links link a.reports in
        let waits = eqb (state_at a.links link) 1 in
        let opened = eqb (state_at a.links link) 2 in
        if_done_lem SteadyBy reply _ (refused reply a)
        (λ done.
        let passed = rows_passed (leb 32 link || short a.reports) (not (is_link plan link)) (not (opened || waits)) [] done in
        by_test SteadyBy waits (out_of_service plan a link cut_none) (open_failed plan a link)
        (λ e. out_steady link (link_within link (short a.reports) passed.0) plan a cut_none)
        (λ e.
        steady_links a (with_made plan (order_of plan a.links link) a) (made_steady a octets regular plan (order_of plan a.links link)) _))
        (steady_none a)

    -- a link comes into service
    pub service_steady : SteadyBy (into_service plan a link)
    unfolding into_service declared
    service_steady =
        let from : Sources = sources_in plan a.links a.marks link in
        let there : Steady a (with_held a (declared plan link from (held_in a))) =
        by_test (λ (now : Held). Steady a (with_held a now)) (declares from)
        (joined a octets regular from.own 0x51 (adjacent_of plan link) (slc_of plan link) from.own)
        (held_in a)
        (λ e. joined_steady a octets regular from.own (ltb-true from.own 32 e) 0x51 (adjacent_of plan link) (slc_of plan link) from.own)
        (λ e. record { slots = refl; rows = same_rows a.rows (held_apart a); flags = λ destination runs. runs })
        in
        if_done_lem SteadyBy (Service.reply_of plan a link) _ (refused (Service.reply_of plan a link) a)
        (λ done. record { slots = there.slots; rows = there.rows; flags = λ destination runs. runs })
        (steady_none a)

    -- an acknowledgement that is done is of a link that there is
    within : (b : ℕ) → Acknowledge.reply_of plan a.links link b ≡ 0 → link < 32
    unfolding Acknowledge.reply_of
    within b done =
        let passed =
        rows_passed (Acknowledge.out_of_range link b) (not (is_link plan link)) (not (Acknowledge.link_open a.links link)) _ done
        in
        link_within link (leb 128 b) passed.0

    pub acknowledged_steady : (b : ℕ) (links : List ℕ)
        → let queues = Acknowledge.queues_after plan a.links (both a.spans a.rings) link b in
        Steady a (areas links a.marks queues.spans queues.rings a.rows a.arrivals a.reports)
    unfolding Acknowledge.queues_after
    acknowledged_steady b links =
        let queues = both a.spans a.rings in
        if_done_lem (λ (q : Queues). Steady a (areas links a.marks q.spans q.rings a.rows a.arrivals a.reports))
        (Acknowledge.reply_of plan a.links link b)
        (retired link (up_to (record_at a.links link) b) queues)
        queues
        (λ done.
        record {
          slots = retired_stay link (within b done) (up_to (record_at a.links link) b) queues;
          rows = same_rows a.rows (held_apart a);
          flags = λ destination runs. runs;
        })
        (record { slots = refl; rows = same_rows a.rows (held_apart a); flags = λ destination runs. runs })

  -- T8 expires: T6 runs on
  pub t8_steady : (x : ℕ) → Steady a (with_marks a (expired_t8 plan a.marks x))
  unfolding expired_t8
  t8_steady x = record {
    slots = refl;
    rows = same_rows a.rows (held_apart a);
    flags =
        λ destination runs.
        if_done_lem (λ (marks : List ℕ). flag_at marks destination t6 ≡ true) (Expiry.reply_of plan a.marks x t8)
        (with_flag a.marks (place_of plan x) t8 false)
        a.marks
        (λ done. flag_other a.marks (place_of plan x) t8 false destination t6 (λ same there. omega arith) ∙ runs)
        runs;
  }

  -- T10 expires
  pub t10_steady : (x set : ℕ) → SteadyBy (expired_t10 plan a x set)
  unfolding expired_t10
  t10_steady x set =
      let draft = test_of plan x set in
      if_done_lem SteadyBy (reply_t10 plan a.marks x set) _ (refused (reply_t10 plan a.marks x set) a)
      (λ runs.
      if_done_lem SteadyBy (makes_reply plan draft a) (outcome (done 0) (with_made plan draft a)) (refused (makes_reply plan draft a) a)
      (λ made. made_steady a octets regular plan draft)
      (steady_none a))
      (steady_none a)

  module _ (all : Each (Waits plan a) (held_apart a)) where
    -- T6 of X expires: those that wait for another wait on
    module _ (x : ℕ) (ends : reply_t6 plan a.marks x a.reports ≡ 0) where
      abbrev marks : List ℕ
      marks = with_flag a.marks (place_of plan x) t6 false

      abbrev then : State
      then = released plan a.links marks a.rows x (state a.spans a.rings a.reports 0)

      abbrev after : Areas
      after = areas a.links marks then.queues.spans then.queues.rings a.rows a.arrivals then.log.area

      -- X is configured
      x_there : is_found plan x ≡ true
      unfolding reply_t6 is_destination
      x_there =
          let wide = none_applies 0 (short a.reports) _ ends in
          let low = none_applies 0 (leb 16384 x) _ wide.1 in
          let there = none_applies 1 (not (is_destination plan x)) _ low.1 in
          ((and-eq-true_iff plan.given (is_found plan x)).0 (not-false (is_destination plan x) there.0)).1

      waits_still : (slot : ℕ) → eqb (point_of a.rows slot) x ≡ false → Waits plan a slot → Waits plan after slot
      waits_still slot other waits = record {
        user = waits.user;
        configured = waits.configured;
        runs =
            flag_other a.marks (place_of plan x) t6 false (place_of plan (point_of a.rows slot)) t6
            (λ same there. eqb-false (point_of a.rows slot) x other (same_code plan (point_of a.rows slot) x waits.configured x_there there))
            ∙ waits.runs;
      }

      ended_waits : Each (Waits plan after) (held_apart after)
      ended_waits =
          subst (Each (Waits plan after)) (sym (all_looked plan a octets regular x ends).stays)
          (each_other (Waits plan a) (Waits plan after) a.rows x waits_still (held_apart a) all)

    t6_waits : (x : ℕ) → Each (Waits plan (expired_t6 plan a x).after) (held_apart (expired_t6 plan a x).after)
    unfolding expired_t6
    t6_waits x =
        let reply = reply_t6 plan a.marks x a.reports in
        if_done_lem (λ (o : Outcome). Each (Waits plan o.after) (held_apart o.after)) reply _ (refused reply a) (ended_waits x) all

module _
    (plan : Plan)
    (message : List ℕ)
    (m : Memory)
    (regular : RegularAt m)
    (kinds : Kinds m.areas.spans m.areas.rings)
    (all : Each (Waits plan m.areas) (held_apart m.areas)) where
  abbrev a : Areas
  a = m.areas

  -- those held apart wait on where they are left
  on : (b : Areas) → Steady a b → Each (Waits plan b) (held_apart b)
  on b steady = steady_waits plan a b steady all

  -- every event
  pub call_waits : (event : Event)
      → Each (Waits plan (call_of plan event message m).after.areas) (held_apart (call_of plan event message m).after.areas)
  unfolding call_of sends acknowledges wait_ends t8_ends receives takes_over
  call_waits (IntoService link) = on (into_service plan a link).after (service_steady plan a m.octets regular link)
  call_waits (Failure link) = on (failed plan a link).after (failure_steady plan a m.octets regular link)
  call_waits (Send link) =
      let links = Send.links_after plan a.links a.spans link (length m.out) in
      on (with_links a links) (steady_links a a (steady_none a) links)
  call_waits (Acknowledgement link b) =
      on _ (acknowledged_steady plan a m.octets regular link b (Acknowledge.links_after plan a.links link b))
  call_waits (Received link fsn) = received_waits plan a m.octets regular kinds all message link fsn
  call_waits FromHost = sent_waits plan a m.octets regular kinds all message
  call_waits (T1 link) = on (Change.expired plan a link 1).after (timer_steady plan a m.octets regular link 1)
  call_waits (T2 link) = on (Change.expired plan a link 2).after (timer_steady plan a m.octets regular link 2)
  call_waits (T3 link) =
      on (with_links a (Wait.expired plan a.links link 3)) (steady_links a a (steady_none a) (Wait.expired plan a.links link 3))
  call_waits (T4 link) =
      on (with_links a (Wait.expired plan a.links link 4)) (steady_links a a (steady_none a) (Wait.expired plan a.links link 4))
  call_waits (T6 x) = t6_waits plan a m.octets regular all x
  call_waits (T8 x) = on (with_marks a (expired_t8 plan a.marks x)) (t8_steady plan a m.octets regular x)
  call_waits (T10 x set) = on (expired_t10 plan a x set).after (t10_steady plan a m.octets regular x set)
