-- While a link is out no call adds to its history: it stays what it was when the link went out.
-- Assumes nothing.
use mathlib.Core.Path.{◌≡◌, refl, sym, ap, ◌∙◌, subst}
use mathlib.Core.Bool.{true, cond, not, ◌&&◌, ◌||◌, and-eq-true_iff}
use mathlib.Core.List.{List, [], append-nil}
use Prim.Native.Nat.{ℕ, ◌%◌, ◌<◌}
use native.Mathlib.Nat.{mod-eq_of_lt}
use native.Mathlib.Omega.{arith}
use lib.Dec.{eqb, leb, ltb}
use lib.ListN.{length}
use borrow.Author.Tests.{eqb-true, not-false}
use Rattle.plan.specs.declared.data.Plan.{Plan}
use Rattle.plan.specs.Sound as Plan
use Rattle.plan.proofs.Split.{both_false}
use Rattle.area_links.specs.declared.LinkRecord.{LinkRecord}
use Rattle.area_numbers.specs.LinkWords.{with_acknowledged, with_sent}
use Rattle.area_links.specs.LinkRecords.{record_at}
use Rattle.queue_rings.specs.Ring.{count_of}
use Rattle.replies.specs.declared.Answer.{Answer}
use Rattle.replies.specs.Reply.{plain}
use Rattle.replies.specs.Areas.{Areas, Outcome, refused}
use Rattle.lookup.specs.Lookup.{is_link}
use Rattle.numbers.specs.Numbers.{one_more, left_sent}
use Rattle.changeback_pairs.specs.declared.Sources.{Sources}
use Rattle.changeback_service.specs.InService.{declares, comes_as, sources_in, links_in}
use Rattle.changeback.specs.Service.{into_service}
use Rattle.changeback.specs.Service as Service
use Rattle.sending.specs.Send as Send
use Rattle.acknowledging.specs.Acknowledge as Acknowledge
use Rattle.node.specs.declared.call.Event.{Event}
use Rattle.node.specs.declared.call.Event.TheVariants.{IntoService, Send, Acknowledgement}
use Rattle.node.proofs.Viewed.{EachKind, by_view}
use Rattle.node.specs.View.{View, view_of}
use Rattle.node.specs.Memory.{Memory}
use Rattle.node.specs.Call.{sends, acknowledges, call_of}
use Rattle.promise_runs.specs.Run.{Call, lent, called}
use Rattle.promise_runs.proofs.Keeping.{loaded_in_range}
use Rattle.promise_runs.proofs.Records.{Rewritten, record_rewritten, sent_rewritten, acknowledged_rewritten}
use Rattle.promise_runs.proofs.Outcomes.{unmet, by_test, both_by_test, rows_passed}
use Rattle.promise_runs.proofs.KeepsCalls.{RegularAt, call_regular}
use Rattle.promise_ledger.specs.Held.{put_on}
use Rattle.promise_accounts.specs.Gone.{queue_of, up_to_b}
use Rattle.promise_farend.specs.History.{History, begun, result_of, is_done, sending_of, with_sending, with_queued, event_by, put_by, history_by}
use Rattle.promise_farend.specs.History as History
use Rattle.promise_farend.proofs.InOrderCalls.{out_empty}

module _ (plan : Plan) (message : List ℕ) (m : Memory) (regular : RegularAt m) (link : ℕ) (h : link < 32) (s : History) where
  abbrev a : Areas
  a = m.areas

  abbrev known : LinkRecord
  known = record_at a.links link

  -- the link is out after an event
  abbrev Out : Event → Type 0
  Out event = (record_at (call_of plan event message m).after.areas.links link).state ≡ 0

  -- by one that is done it doesn't come into service,
  abbrev Done : Event → Type 0
  Done event = is_done (call_of plan event message m) ≡ true

  never_comes : Done (IntoService link) → Out (IntoService link) → ⊥
  unfolding call_of into_service links_in
  never_comes =
      let reply = Service.reply_of plan a link in
      let from : Sources = sources_in plan a.links a.marks link in
      by_test (λ (o : Outcome). eqb o.answer.reply 0 ≡ true → (record_at o.after.links link).state ≡ 0 → ⊥) (eqb reply 0) _ (refused reply a)
      (λ e done out.
      let there = ap (λ (k : LinkRecord). k.state) ((record_rewritten a.links link (comes_as from)).there regular.links_long h) in
      let up = by_test (λ (n : ℕ). n % 4 ≡ 0 → ⊥) (declares from || from.other) 1 2 (λ e is. omega arith) (λ e is. omega arith) in
      up (sym there ∙ out))
      (λ refuses done. unmet (sym refuses ∙ done))

  -- a record that is stored with its state is out only where it was
  was_out : {new : LinkRecord} {after : List ℕ} → Rewritten a.links link new after → new.state ≡ known.state → (record_at after link).state ≡ 0
      → known.state ≡ 0
  was_out rewritten same out =
      let there = ap (λ (k : LinkRecord). k.state) (rewritten.there regular.links_long h) in
      sym (mod-eq_of_lt (loaded_in_range a.links link).state_low) ∙ ap (λ (n : ℕ). n % 4) (sym same) ∙ sym there ∙ out

  -- doesn't send
  never_sends : Done (Send link) → Out (Send link) → ⊥
  unfolding call_of sends Send.answer_of Send.links_after Send.reply_of
  never_sends =
      let reply = Send.reply_of plan a.links a.spans link (length m.out) in
      let more = one_more known in
      let full = leb (count_of a.spans link) known.sent || leb 127 known.sent in
      both_by_test (λ (answer : Answer) (links : List ℕ). eqb answer.reply 0 ≡ true → (record_at links link).state ≡ 0 → ⊥) (eqb reply 0) _ (plain reply)
      (with_sent a.links link more)
      a.links
      (λ e done out.
      let passed =
      rows_passed (leb 32 link || ltb (length m.out) 273) (not (is_link plan link)) (not (eqb known.state 2) || full) [] (eqb-true reply 0 e)
      in
      let opened = eqb-true known.state 2 (not-false (eqb known.state 2) (both_false (not (eqb known.state 2)) full passed.2).0) in
      let still = was_out (sent_rewritten a.links link more) refl out in
      omega arith)
      (λ refuses done. unmet (sym refuses ∙ done))

  -- and acknowledges nothing
  never_acknowledges : (b : ℕ) → Done (Acknowledgement link b) → Out (Acknowledgement link b) → ⊥
  unfolding call_of acknowledges Acknowledge.links_after Acknowledge.reply_of
  never_acknowledges b =
      let reply = Acknowledge.reply_of plan a.links link b in
      let left = left_sent known b in
      by_test (λ (links : List ℕ). eqb reply 0 ≡ true → (record_at links link).state ≡ 0 → ⊥) (eqb reply 0)
      (with_acknowledged (with_sent a.links link left) link b)
      a.links
      (λ e done out.
      let passed =
      rows_passed (Acknowledge.out_of_range link b) (not (is_link plan link)) (not (Acknowledge.link_open a.links link)) _ (eqb-true reply 0 e)
      in
      let opened = eqb-true known.state 2 (not-false (Acknowledge.link_open a.links link) passed.2) in
      let still = was_out (acknowledged_rewritten a.links link b left) refl out in
      omega arith)
      (λ refuses done. unmet (sym refuses ∙ done))

  -- so an event does nothing over it
  abbrev Goes : View → Event → Type 0
  Goes view event = Out event → event_by plan a link (call_of plan event message m) s view ≡ s

  -- of its own, where it can't be done
  nothing_done : (other : ℕ) (event : ℕ → Event) (now : History) → (Done (event link) → Out (event link) → ⊥) → Out (event other)
      → cond (eqb other link && is_done (call_of plan (event other) message m)) now s ≡ s
  nothing_done other event now never out =
      by_test (λ (after : History). after ≡ s) (eqb other link && is_done (call_of plan (event other) message m)) now s
      (λ e.
      let own = (and-eq-true_iff (eqb other link) (is_done (call_of plan (event other) message m))).0 e in
      let same = eqb-true other link own.0 in
      absurd (never (subst (λ (l : ℕ). Done (event l)) same own.1) (subst (λ (l : ℕ). Out (event l)) same out)))
      (λ e. refl)

  by_kind : EachKind Goes
  unfolding event_by
  by_kind =
      record {
        comes = λ other. nothing_done other IntoService begun never_comes;
        sends = λ other. nothing_done other Send (with_sending s (sending_of a link (call_of plan (Send other) message m))) never_sends;
        acknowledges = λ other b.
            nothing_done other (λ l. Acknowledgement l b) (History.with_acknowledged s (up_to_b plan a link b)) (never_acknowledges b);
        fails = λ other out. refl;
        arrives = λ other fsn out. refl;
        handed_over = λ out. refl;
        t1 = λ other out. refl;
        t2 = λ other out. refl;
        expires = λ event is out. refl;
      }

  event_out : (event : Event) → Goes (view_of event) event
  event_out = by_view Goes by_kind

-- nor does a call: the queue of a link that is out is empty
pub call_out : (plan : Plan) → Plan.Sound plan → (call : Call) (m : Memory) → RegularAt m → (link : ℕ) → link < 32 → (s : History)
    → (record_at (called plan call m).areas.links link).state ≡ 0
    → history_by plan call m link s ≡ s
unfolding called history_by put_on
call_out plan sound call m regular link h s out =
    let now = lent call m in
    let r = result_of plan call m in
    let empty =
    out_empty r.after.areas r.after.octets (call_regular plan sound call.message now regular call.event) link h out
    in
    let none : put_by now.areas link r ≡ [] = ap (put_on (queue_of now.areas link)) empty in
    ap (λ (t : History). with_queued t (put_by now.areas link r)) (event_out plan call.message now regular link h s call.event out)
    ∙ ap (with_queued s) none
    ∙ ap (λ (l : List ℕ). record { queued = l; sent = s.sent; acknowledged = s.acknowledged }) (append-nil s.queued)
