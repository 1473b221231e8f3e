-- After every call, and every run of calls, what was done over a link in service agrees with its own numbers.
-- Assumes nothing.
use mathlib.Core.Path.{◌≡◌, refl, sym, ap, ◌∙◌, subst}
use mathlib.Core.Bool.{Bool, cond, ◌&&◌}
use mathlib.Core.List.{List, [], ◌∷◌}
use Prim.Native.Nat.{ℕ, ◌%◌, ◌<◌}
use native.Mathlib.Omega.{arith}
use lib.Dec.{eqb}
use lib.ListN.{length}
use borrow.Author.Tests.{eqb-true, eq-eqb, ne_eqb}
use borrow.Table.Steps.{cases}
use Rattle.plan.specs.declared.data.Plan.{Plan}
use Rattle.plan.specs.Sound as Plan
use Rattle.area_links.specs.declared.LinkRecord.{LinkRecord}
use Rattle.area_numbers.specs.LinkWords.{with_acknowledged, with_sent}
use Rattle.area_links.specs.LinkRecords.{record_at}
use Rattle.replies.specs.declared.Answer.{Answer}
use Rattle.replies.specs.Reply.{plain}
use Rattle.replies.specs.Areas.{Areas, areas, Outcome, refused, with_links}
use Rattle.queue_heads.specs.Head.{both}
use Rattle.numbers.specs.Numbers.{one_more, left_sent}
use Rattle.changeback_service.specs.InService.{comes_as, sources_in, links_in}
use Rattle.changeback.specs.Service.{into_service}
use Rattle.changeback.specs.Service as Service
use Rattle.sending.specs.Send as Send
use Rattle.acknowledging.specs.Acknowledge as Acknowledge
use Rattle.node.specs.declared.call.Event.{Event}
use Rattle.node.specs.declared.call.Event.TheVariants.{IntoService, Send, Acknowledgement}
use Rattle.node.specs.View.{View, Comes, Fails, Sends, Acknowledges, Arrives, HandedOver, Overdue, Expires, view_of}
use Rattle.node.specs.Memory.{Memory, Result}
use Rattle.node.specs.Call.{sends, acknowledges, call_of}
use Rattle.promise_runs.specs.Run.{Call, lent, called, ran}
use Rattle.promise_runs.proofs.Records.{Rewritten, record_rewritten, sent_rewritten, acknowledged_rewritten}
use Rattle.promise_runs.proofs.Outcomes.{by_test, both_by_test}
use Rattle.promise_runs.proofs.KeepsCalls.{RegularAt, call_regular}
use Rattle.promise_accounts.specs.Gone.{up_to_b}
use Rattle.promise_accounts.specs.Ending.{Ending, ending_of}
use Rattle.promise_accounts.proofs.Endings.{ending_exactly}
use Rattle.promise_farend.specs.History.{Sending, History, begun, sending_of, with_sending, is_done, event_by, history_by, Serving, history_in}
use Rattle.promise_farend.specs.History as History
use Rattle.promise_farend.proofs.Tests.{by_done}
use Rattle.promise_farend.proofs.OnwardReceiving.{but_of}
use Rattle.promise_farend.proofs.OnwardCalls.{own_of, call_onward}
use Rattle.promise_farend.proofs.ByLink.{by_link}
use Rattle.promise_farend.proofs.Served.{acknowledged_serving, sent_serving, begun_serving, same_serving}

-- a link that is in service is served as it says
abbrev pub InService : Areas → ℕ → History → Type 0
InService a link s = ((record_at a.links link).state ≡ 0 → ⊥) → Serving a link s

module _ (plan : Plan) (message : List ℕ) (m : Memory) (regular : RegularAt m) (link : ℕ) (h : link < 32) (s : History)
    (before : InService m.areas link s) where
  abbrev a : Areas
  a = m.areas

  -- by an event and what it leaves
  abbrev Goes : View → Event → Type 0
  Goes view event =
      let r = call_of plan event message m in
      InService r.after.areas link (event_by plan a link r s view)

  -- an event on another link does nothing over this one
  pub other_event : (view : View) (r : Result) → (own_of plan a message view ≡ link → ⊥) → event_by plan a link r s view ≡ s
  unfolding event_by own_of
  other_event (Comes other) r apart = ap (λ (t : Bool). cond (t && is_done r) begun s) (ne_eqb other link apart)
  other_event (Sends other) r apart =
      ap (λ (t : Bool). cond (t && is_done r) (with_sending s (sending_of a link r)) s) (ne_eqb other link apart)
  other_event (Acknowledges other b) r apart =
      ap (λ (t : Bool). cond (t && is_done r) (History.with_acknowledged s (up_to_b plan a link b)) s) (ne_eqb other link apart)
  other_event (Fails other) r apart = refl
  other_event (Arrives other fsn) r apart = refl
  other_event HandedOver r apart = refl
  other_event (Overdue other timer) r apart = refl
  other_event Expires r apart = refl

  elsewhere : (event : Event) → (own_of plan a message (view_of event) ≡ link → ⊥) → Goes (view_of event) event
  elsewhere event apart up =
      let r = call_of plan event message m in
      let same = (call_onward plan message m regular event).records link h (λ e. apart (sym e)) in
      subst (λ (now : History). Serving r.after.areas link now) (sym (other_event (view_of event) r apart))
      (same_serving a r.after.areas link s same (before (λ out. up (same.still_out out))))

  -- an event that takes the link out leaves it out
  pub goes_out : (event : Event) → but_of (ending_of plan a message (view_of event)) ≡ link
      → (record_at (call_of plan event message m).after.areas.links link).state ≡ 0
  goes_out event own =
      let ending : Ending = ending_of plan a message (view_of event) in
      cases ending.ends
      (λ ends.
      let here : ending.link ≡ link = sym (ap (λ (t : Bool). cond t ending.link 32) ends) ∙ own in
      ap (λ (l : ℕ). (record_at (call_of plan event message m).after.areas.links l).state) (sym here)
      ∙ (ending_exactly plan message m regular event ends).goes_out)
      (λ stays.
      let none : 32 ≡ link = sym (ap (λ (t : Bool). cond t ending.link 32) stays) ∙ own in
      absurd (omega arith))

  -- the link comes into service
  into_service_lem : Goes (Comes link) (IntoService link)
  unfolding call_of into_service event_by links_in
  into_service_lem =
      let reply = Service.reply_of plan a link in
      let here = eq-eqb link link refl in
      by_test (λ (o : Outcome). InService o.after link (cond (eqb link link && eqb o.answer.reply 0) begun s)) (eqb reply 0) _ (refused reply a)
      (λ done up.
      let from = sources_in plan a.links a.marks link in
      simp here (begun_serving plan a m.octets regular link h from _ (record_rewritten a.links link (comes_as from))))
      (λ refuses up. simp (here, refuses) (before up))

  -- a record that is stored with its state is out where it was
  pub state_stays : {new : LinkRecord} {after : List ℕ} → Rewritten a.links link new after → new.state ≡ (record_at a.links link).state
      → (record_at a.links link).state ≡ 0
      → (record_at after link).state ≡ 0
  state_stays rewritten same out =
      ap (λ (k : LinkRecord). k.state) (rewritten.there regular.links_long h)
      ∙ ap (λ (n : ℕ). n % 4) (same ∙ out)

  -- a message is sent on it
  abbrev sending : Sending
  sending = sending_of a link (call_of plan (Send link) message m)

  send_on : Goes (Sends link) (Send link)
  unfolding call_of sends event_by Send.answer_of Send.links_after
  send_on =
      let reply = Send.reply_of plan a.links a.spans link (length m.out) in
      let more = one_more (record_at a.links link) in
      let rewritten = sent_rewritten a.links link more in
      let here = eq-eqb link link refl in
      both_by_test
      (λ (answer : Answer) (links : List ℕ).
      InService (with_links a links) link (cond (eqb link link && eqb answer.reply 0) (with_sending s sending) s))
      (eqb reply 0)
      _
      (plain reply)
      (with_sent a.links link more)
      a.links
      (λ done up.
      simp here
      (sent_serving plan a m.octets regular link h a.spans (length m.out) (eqb-true reply 0 done) s
      (before (λ out. up (state_stays rewritten refl out)))
      _
      rewritten
      sending))
      (λ refuses up. simp (here, refuses) (before up))

  -- messages are acknowledged on it
  module _ (b : ℕ) where
    acknowledge_on : Goes (Acknowledges link b) (Acknowledgement link b)
    unfolding call_of acknowledges event_by Acknowledge.links_after
    acknowledge_on =
        let reply = Acknowledge.reply_of plan a.links link b in
        let here = eq-eqb link link refl in
        let queues = Acknowledge.queues_after plan a.links (both a.spans a.rings) link b in
        let left = left_sent (record_at a.links link) b in
        let rewritten = acknowledged_rewritten a.links link b left in
        by_done
        (λ (done : Bool) (links : List ℕ).
        InService (areas links a.marks queues.spans queues.rings a.rows a.arrivals a.reports) link
        (cond (eqb link link && done) (History.with_acknowledged s (up_to_b plan a link b)) s))
        reply
        (with_acknowledged (with_sent a.links link left) link b)
        a.links
        (λ done up.
        simp here
        (acknowledged_serving plan a m.octets regular link h b done s (before (λ out. up (state_stays rewritten refl out))) _ rewritten))
        (λ up.
        let was = before up in
        simp here (record { sent_is = was.sent_is; acknowledged_is = was.acknowledged_is }))

  -- every event
  pub call_served : (event : Event) → Goes (view_of event) event
  call_served =
      by_link plan a message link h Goes
      (record {
        comes = into_service_lem;
        sends = send_on;
        acknowledges = acknowledge_on;
        ends = λ event own up. absurd (up (goes_out event own));
        others = elsewhere;
      })

-- over a run of calls
module _ (plan : Plan) (sound : Plan.Sound plan) (link : ℕ) (h : link < 32) where
  pub run_served : (calls : List Call) (m : Memory) (s : History) → RegularAt m → InService m.areas link s
      → InService (ran plan calls m).areas link (history_in plan calls m link s)
  unfolding ran history_in called history_by
  run_served [] m s regular before = before
  run_served (call ∷ later) m s regular before =
      run_served later (called plan call m) (history_by plan call m link s)
      (call_regular plan sound call.message (lent call m) regular call.event)
      (λ up.
      let now =
      call_served plan call.message (lent call m) regular link h s
      (λ up. let was = before up in record { sent_is = was.sent_is; acknowledged_is = was.acknowledged_is })
      call.event
      up
      in
      record { sent_is = now.sent_is; acknowledged_is = now.acknowledged_is })
