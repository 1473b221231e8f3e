-- After every call the history of a link in service is in order: what the call put on it is what is new behind its queue.
-- Assumes nothing.
use mathlib.Core.Path.{◌≡◌, refl, sym, ap, ◌∙◌, subst}
use mathlib.Core.Bool.{cond, not, ◌&&◌, ◌||◌}
use mathlib.Core.List.{List, [], map, append-nil}
use Prim.Native.Nat.{ℕ, ◌+◌, ◌≤◌, ◌<◌}
use native.Mathlib.Omega.{arith}
use lib.Dec.{eqb, leb, ltb, lit<}
use lib.ListN.{length, get_or, take, length-map, get_or-map}
use borrow.Author.Tests.{eqb-true, eq-eqb, leb-false}
use Rattle.plan.specs.declared.data.Plan.{Plan}
use Rattle.plan.specs.Sound as Plan
use Rattle.plan.proofs.Split.{both_false}
use Rattle.counting.specs.Counting.{onward}
use Rattle.counting.proofs.Laws.{onward_more}
use Rattle.route_round.proofs.Lists.{there_alone}
use Rattle.area_links.specs.declared.LinkRecord.{LinkRecord}
use Rattle.area_numbers.specs.LinkWords.{with_acknowledged, with_sent}
use Rattle.area_links.specs.LinkRecords.{record_at}
use Rattle.queue_rings.specs.declared.ring.Taken.{Taken}
use Rattle.queue_rings.specs.Ring.{count_of, queue}
use Rattle.queue_rings.proofs.Queues.{queue_none, queue_length, at_queue}
use Rattle.queue_store.specs.Sound.{tally, is}
use Rattle.replies.specs.declared.Answer.{Answer}
use Rattle.replies.specs.Reply.{plain}
use Rattle.replies.specs.Areas.{Areas, areas, Outcome, refused, with_links}
use Rattle.lookup.specs.Lookup.{is_link}
use Rattle.queue_heads.specs.Head.{Queues, both}
use Rattle.queue_retiring.specs.Leave.{retired}
use Rattle.numbers.specs.Numbers.{one_more, up_to, left_sent}
use Rattle.changeback.specs.Service.{into_service}
use Rattle.changeback.specs.Service as Service
use Rattle.sending.specs.Send as Send
use Rattle.sending.proofs.Window.{one_more_sent}
use Rattle.acknowledging.specs.Acknowledge as Acknowledge
use Rattle.node.specs.declared.call.Event.{Event}
use Rattle.node.specs.declared.call.Event.TheVariants.{IntoService, Send, Acknowledgement}
use Rattle.node.specs.View.{View, Comes, Sends, Acknowledges, view_of}
use Rattle.node.specs.Memory.{Memory}
use Rattle.node.specs.Call.{sends, acknowledges, call_of}
use Rattle.promise_runs.proofs.ByState.{out_is}
use Rattle.promise_runs.proofs.Records.{sent_rewritten, acknowledged_rewritten}
use Rattle.promise_runs.proofs.Outcomes.{RegularIn, by_test, both_by_test, rows_passed}
use Rattle.promise_runs.proofs.KeepsCalls.{RegularAt}
use Rattle.promise_runs.proofs.KeepsService.{was_out, first_done}
use Rattle.promise_ledger.specs.Held.{arrival_of, numbers, put_on}
use Rattle.promise_accounts.specs.Gone.{queue_of, up_to_b}
use Rattle.promise_farend.specs.History.{Sending, History, begun, sending_of, with_queued, with_sending, event_by, put_by, number_after, Serving, InOrder}
use Rattle.promise_farend.specs.History as History
use Rattle.promise_farend.proofs.OnwardCalls.{own_of, call_onward}
use Rattle.promise_farend.proofs.ByLink.{by_link}
use Rattle.promise_farend.proofs.Retired.{own_left}
use Rattle.promise_farend.proofs.PutOn.{put_behind, put_left, put_same, put_first}
use Rattle.promise_farend.proofs.Served.{queue_counts}
use Rattle.promise_farend.proofs.ServedCalls.{InService, other_event, goes_out, state_stays}
use Rattle.promise_farend.proofs.InOrder.{begun_in_order, queued_in_order, sent_in_order, acknowledged_in_order}

-- a link that is in service has its history in order
abbrev pub Ordered : Areas → ℕ → History → Type 0
Ordered a link s = ((record_at a.links link).state ≡ 0 → ⊥) → InOrder a link s

-- nothing is twice in its queue
abbrev pub NoneTwice : Areas → ℕ → Type 0
NoneTwice a link = (number : ℕ) → tally (is number) (queue_of a link) ≤ 1

-- a link that is out has nothing queued
pub out_empty : (a : Areas) (octets : List ℕ) → RegularIn a octets → (link : ℕ) → link < 32 → (record_at a.links link).state ≡ 0
    → queue_of a link ≡ []
unfolding numbers
out_empty a octets regular link h out =
    let none = (out_is (record_at a.links link) (count_of a.spans link) out (regular.each_link link h)).empty in
    simp (queue_none a.spans a.rings link none)

-- what stands at a place that there is, one by one
get_d_mapped : (f : ℕ → ℕ) (l : List ℕ) (i : ℕ) → i < length l → get_or (map f l) i 0 ≡ f (get_or l i 0)
get_d_mapped f l i h = there_alone (map f l) i 0 (f 0) (omega (arith, length-map l f)) ∙ get_or-map f l i 0

-- nothing more is queued
still : (a b : Areas) (link : ℕ) (s : History) → queue_of b link ≡ queue_of a link → InOrder a link s
    → InOrder b link (with_queued s (put_on (queue_of a link) (queue_of b link)))
still a b link s same order =
    queued_in_order a link s order b [] _ (same ∙ sym (append-nil (queue_of a link)))
    (ap (put_on (queue_of a link)) same ∙ put_same (queue_of a link))

module _ (plan : Plan) (sound : Plan.Sound plan) (message : List ℕ) (m : Memory) (regular : RegularAt m) (link : ℕ) (h : link < 32) (s : History)
    (serving : InService m.areas link s) (before : Ordered m.areas link s) where
  abbrev a : Areas
  a = m.areas

  abbrev known : LinkRecord
  known = record_at a.links link

  -- by an event and what it leaves
  abbrev Goes : View → Event → Type 0
  Goes view event =
      let r = call_of plan event message m in
      NoneTwice r.after.areas link
      → Ordered r.after.areas link (with_queued (event_by plan a link r s view) (put_by a link r))

  -- an event on another link lets this one's queue go on
  elsewhere : (event : Event) → (own_of plan a message (view_of event) ≡ link → ⊥) → Goes (view_of event) event
  elsewhere event apart once up =
      let r = call_of plan event message m in
      let onward = call_onward plan message m regular event in
      let behind = onward.queues link h (λ e. apart (sym e)) in
      let same = onward.records link h (λ e. apart (sym e)) in
      let put : put_by a link r ≡ behind.0 =
      ap (put_on (queue_of a link)) behind.1
      ∙ put_behind (queue_of a link) behind.0
      (λ n. omega (arith, once n, ap (tally (is n)) behind.1))
      in
      subst (λ (now : History). InOrder r.after.areas link (with_queued now (put_by a link r)))
      (sym (other_event plan message m regular link h s serving (view_of event) r apart))
      (queued_in_order a link s (before (λ out. up (same.still_out out))) r.after.areas behind.0 _ behind.1 put)

  -- the link comes into service
  into_service_lem : Goes (Comes link) (IntoService link)
  unfolding call_of into_service event_by
  into_service_lem =
      let reply = Service.reply_of plan a link in
      let here = eq-eqb link link refl in
      by_test
      (λ (o : Outcome).
      NoneTwice o.after link
      → Ordered o.after link
      (with_queued (cond (eqb link link && eqb o.answer.reply 0) begun s) (put_on (queue_of a link) (queue_of o.after link))))
      (eqb reply 0)
      _
      (refused reply a)
      (λ done once up.
      let out = (was_out plan sound a m.octets regular link (first_done plan sound a m.octets regular link (eqb-true reply 0 done))).1 in
      simp here (begun_in_order _ link _ (put_first (queue_of a link) _ (out_empty a m.octets regular link h out) once)))
      (λ refuses once up. simp (here, refuses) (still a a link s refl (before up)))

  -- a message is sent on it: the first unsent one, with the next number
  abbrev sending : Sending
  sending = sending_of a link (call_of plan (Send link) message m)

  module _ (done : Send.reply_of plan a.links a.spans link (length m.out) ≡ 0) where
    some_unsent : known.sent < count_of a.spans link
    unfolding Send.reply_of
    some_unsent =
        let few = leb (count_of a.spans link) known.sent in
        let passed =
        rows_passed (leb 32 link || ltb (length m.out) 273) (not (is_link plan link))
        (not (eqb known.state 2) || (few || leb 127 known.sent))
        []
        done
        in
        leb-false (count_of a.spans link) known.sent
        (both_false few (leb 127 known.sent) (both_false (not (eqb known.state 2)) (few || leb 127 known.sent) passed.2).1).0

    sends_first : sending.arrival ≡ get_or (queue_of a link) known.sent 0
    unfolding Send.first_unsent numbers
    sends_first =
        let slots : List ℕ = queue a.spans a.rings link in
        ap (λ (t : Taken). arrival_of a.rows t.slot) (at_queue a.spans a.rings link known.sent some_unsent)
        ∙ sym (get_d_mapped (arrival_of a.rows) slots known.sent (omega (arith, some_unsent, queue_length a.spans a.rings link)))

    sends_next : Serving a link s → sending.fsn ≡ number_after (length s.sent + 1)
    unfolding call_of sends Send.answer_of
    sends_next now =
        let one = one_more_sent plan a.links a.spans link (length m.out) done in
        let count : length s.sent + 1 ≡ length s.acknowledged + one_more known = omega (arith, one, now.sent_is) in
        simp (eq-eqb (Send.reply_of plan a.links a.spans link (length m.out)) 0 done)
        (ap (λ (n : ℕ). onward 128 n (one_more known)) now.acknowledged_is
        ∙ sym (onward_more 128 (lit< tt) 127 (length s.acknowledged) (one_more known))
        ∙ ap number_after (sym count))

  send_on : Goes (Sends link) (Send link)
  unfolding call_of sends event_by Send.answer_of Send.links_after
  send_on =
      let reply = Send.reply_of plan a.links a.spans link (length m.out) in
      let more = one_more known in
      let rewritten = sent_rewritten a.links link more in
      let here = eq-eqb link link refl in
      both_by_test
      (λ (answer : Answer) (links : List ℕ).
      NoneTwice a link
      → Ordered (with_links a links) link
      (with_queued (cond (eqb link link && eqb answer.reply 0) (with_sending s sending) s) (put_on (queue_of a link) (queue_of a link))))
      (eqb reply 0)
      _
      (plain reply)
      (with_sent a.links link more)
      a.links
      (λ e once up.
      let done = eqb-true reply 0 e in
      let in_service : known.state ≡ 0 → ⊥ = λ out. up (state_stays plan message m regular link h s serving rewritten refl out) in
      let now = serving in_service in
      simp here
      (still a _ link (with_sending s sending) refl
      (sent_in_order a link s (before in_service) now sending
      (omega (arith, some_unsent done, queue_counts plan a m.octets regular link h))
      (sends_first done)
      (sends_next done now))))
      (λ refuses once up. simp (here, refuses) (still a _ link s refl (before up)))

  -- messages are acknowledged on it
  acknowledge_on : (b : ℕ) → Goes (Acknowledges link b) (Acknowledgement link b)
  unfolding call_of acknowledges event_by Acknowledge.links_after Acknowledge.queues_after up_to_b
  acknowledge_on b =
      let reply = Acknowledge.reply_of plan a.links link b in
      let here = eq-eqb link link refl in
      let held = both a.spans a.rings in
      let left = left_sent known b in
      let many = up_to known b in
      let rewritten = acknowledged_rewritten a.links link b left in
      both_by_test
      (λ (links : List ℕ) (queues : Queues).
      let after = areas links a.marks queues.spans queues.rings a.rows a.arrivals a.reports in
      NoneTwice after link
      → Ordered after link
      (with_queued (cond (eqb link link && eqb reply 0) (History.with_acknowledged s (up_to_b plan a link b)) s)
      (put_on (queue_of a link) (queue_of after link))))
      (eqb reply 0)
      (with_acknowledged (with_sent a.links link left) link b)
      a.links
      (retired link many held)
      held
      (λ e once up.
      let in_service : known.state ≡ 0 → ⊥ = λ out. up (state_stays plan message m regular link h s serving rewritten refl out) in
      let gone = own_left a.rows m.octets link (omega arith) many held regular.store in
      let now : Queues = retired link many held in
      let after : Areas =
      areas (with_acknowledged (with_sent a.links link left) link b) a.marks now.spans now.rings a.rows a.arrivals a.reports
      in
      let none : put_on (queue_of a link) (queue_of after link) ≡ [] =
      ap (put_on (queue_of a link)) gone ∙ put_left many (queue_of a link)
      in
      let order = acknowledged_in_order a link s (before in_service) after many (take many (queue_of a link)) refl gone in
      simp (here, e) (queued_in_order after link _ order after [] _ (sym (append-nil _)) none))
      (λ e once up. simp (here, e) (still a _ link s refl (before up)))

  -- every event
  pub call_in_order : (event : Event) → Goes (view_of event) event
  call_in_order =
      by_link plan a message link h Goes
      (record {
        comes = into_service_lem;
        sends = send_on;
        acknowledges = acknowledge_on;
        ends = λ event own once up. absurd (up (goes_out plan message m regular link h s serving event own));
        others = elsewhere;
      })
