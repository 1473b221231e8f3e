-- The card driver's record of a link has the numbers of what was sent and acknowledged over it, after every call; so it says what the node says.
-- Assumes nothing.
use mathlib.Core.Path.{◌≡◌, refl, sym, ap, ◌∙◌, subst}
use mathlib.Core.Bool.{Bool, true, false, cond, not, ◌&&◌}
use mathlib.Core.List.{List, [], ◌∷◌}
use Prim.Native.Nat.{ℕ, ◌+◌, ◌%◌, ◌<◌}
use native.Mathlib.Nat.{mod-lt, mod-eq_of_lt}
use native.Mathlib.Omega.{arith}
use lib.Dec.{eqb, lit<}
use lib.ListN.{length, length-append}
use borrow.Author.Tests.{eqb-true, not-false}
use Rattle.counting.specs.Counting.{next}
use Rattle.counting.proofs.Laws.{onward_more}
use Rattle.library_card.specs.declared.Record.{Record}
use Rattle.library_card.specs.declared.Acknowledged.{Acknowledged}
use Rattle.library_card.specs.Card.{sent_one, acknowledged_to}
use Rattle.library_card.specs.Card as Card
use Rattle.library_card.proofs.Laws.{number_on, accepts_as}
use Rattle.plan.specs.declared.data.Plan.{Plan}
use Rattle.area_links.specs.declared.LinkRecord.{LinkRecord}
use Rattle.area_links.specs.LinkRecords.{record_at}
use Rattle.replies.specs.Areas.{Areas}
use Rattle.replies.proofs.Rows.{none_applies}
use Rattle.lookup.specs.Lookup.{is_link}
use Rattle.acknowledging.specs.Acknowledge as Acknowledge
use Rattle.node.specs.declared.call.Event.{Event}
use Rattle.node.specs.declared.call.Event.TheVariants.{Send}
use Rattle.node.specs.View.{View, view_of}
use Rattle.node.proofs.Viewed.{EachKind, by_view}
use Rattle.node.specs.Memory.{Memory}
use Rattle.node.specs.Call.{acknowledges, call_of}
use Rattle.promise_runs.proofs.Outcomes.{rows_passed}
use Rattle.promise_runs.proofs.KeepsCalls.{RegularAt}
use Rattle.promise_accounts.specs.Gone.{up_to_b}
use Rattle.promise_farend.specs.History.{History, begun, sending_of, with_sending, with_acknowledged, event_by, number_after, Serving}
use Rattle.promise_farend.specs.Card.{noted_by, Agrees}
use Rattle.promise_farend.proofs.Served.{b_below, acknowledged_number}
use Rattle.promise_farend.proofs.ServedCalls.{InService}
use Rattle.promise_farend.proofs.TrueNumbers as TrueNumbers

-- the record has the number of the last sent, and that of the last acknowledged, in this time of service
pub record Keeps (s : History) (card : Record) : Type 0 where
  pub sent_kept : card.sent ≡ number_after (length s.sent)
  pub acknowledged_kept : card.acknowledged ≡ number_after (length s.acknowledged)

-- then it says what the node says
pub agrees : (a : Areas) (link : ℕ) (s : History) (card : Record) → Serving a link s → Keeps s card → Agrees a link card
agrees a link s card serving keeps =
    let known : LinkRecord = record_at a.links link in
    let acknowledged : card.acknowledged ≡ known.acknowledged = keeps.acknowledged_kept ∙ sym serving.acknowledged_is in
    let sent : card.sent ≡ (known.acknowledged + known.sent) % 128 =
    keeps.sent_kept ∙ ap number_after serving.sent_is ∙ TrueNumbers.number_on a link s serving known.sent
    in
    let few : known.sent < 128 = mod-lt _ (lit< tt) in
    record {
      acknowledged_is = acknowledged;
      sent_is = sent;
      next_is = number_on card known.acknowledged known.sent acknowledged sent;
      range_is = accepts_as card known.acknowledged known.sent acknowledged sent few;
    }

module _ (plan : Plan) (message : List ℕ) (m : Memory) (regular : RegularAt m) (link : ℕ) (h : link < 32) (s : History)
    (before : InService m.areas link s) (card : Record) (keeps : Keeps s card) where
  abbrev a : Areas
  a = m.areas

  -- by an event, done or not
  abbrev Goes : View → Event → Type 0
  Goes view event =
      let r = call_of plan event message m in
      Keeps (event_by plan a link r s view) (noted_by link (eqb r.answer.reply 0) card view)

  -- an acknowledgement that is done is in range by the record too
  module _ (b : ℕ) (done : Acknowledge.reply_of plan a.links link b ≡ 0) where
    open_and_in_range : ((record_at a.links link).state ≡ 2) × (Acknowledge.b_in_range a.links link b ≡ true)
    unfolding Acknowledge.reply_of
    open_and_in_range =
        let passed =
        rows_passed (Acknowledge.out_of_range link b) (not (is_link plan link)) (not (Acknowledge.link_open a.links link)) _ done
        in
        let row-6 = (none_applies 5 (not (Acknowledge.b_in_range a.links link b)) _ passed.3).0 in (
          eqb-true _ _ (not-false (Acknowledge.link_open a.links link) passed.2),
          not-false (Acknowledge.b_in_range a.links link b) row-6,
        )

    acknowledged_kept : Keeps (with_acknowledged s (up_to_b plan a link b)) (acknowledged_to card b).link
    acknowledged_kept =
        let serving = before (λ out. omega (arith, out, open_and_in_range.0)) in
        let accepted = (agrees a link s card serving keeps).range_is b ∙ open_and_in_range.1 in
        let low = b_below plan a m.octets regular link h b done in
        let new : Record = record { sent = card.sent; acknowledged = b % 128 } in
        let goes : (acknowledged_to card b).link ≡ new =
        ap (λ (t : Bool). (cond {A = Acknowledged} t (record { link = new; accepted = true }) (record { link = card; accepted = false })).link)
        accepted
        in
        subst (λ (k : Record). Keeps (with_acknowledged s (up_to_b plan a link b)) k) (sym goes)
        (record {
          sent_kept = keeps.sent_kept;
          acknowledged_kept =
              mod-eq_of_lt low ∙ sym (acknowledged_number plan a m.octets regular link h b done s serving);
        })

  -- what both make of an event that is done on the link, or isn't
  by_both : (own done : Bool) (now : History) (new : Record) → (own ≡ true → done ≡ true → Keeps now new)
      → Keeps (cond (own && done) now s) (cond (own && done) new card)
  by_both true true now new does = does refl refl
  by_both true false now new does = keeps
  by_both false done now new does = keeps

  -- each kind of event, with its reply
  by_kind : EachKind Goes
  unfolding event_by noted_by call_of acknowledges
  by_kind =
      record {
        comes = λ other. by_both (eqb other link) _ begun Card.begun (λ own done. record { sent_kept = refl; acknowledged_kept = refl });
        sends = λ other.
            let new = sending_of a link (call_of plan (Send other) message m) in
            by_both (eqb other link) _ (with_sending s new) (sent_one card).link
            (λ own done.
            record {
              sent_kept =
                  ap (next 128) keeps.sent_kept
                  ∙ sym (onward_more 128 (lit< tt) 127 (length s.sent) 1)
                  ∙ ap number_after (sym (length-append s.sent (new ∷ [])));
              acknowledged_kept = keeps.acknowledged_kept;
            });
        acknowledges = λ other b.
            let reply : ℕ = Acknowledge.reply_of plan a.links other b in
            by_both (eqb other link) (eqb reply 0) (with_acknowledged s (up_to_b plan a link b))
            (acknowledged_to card b).link
            (λ own done.
            acknowledged_kept b (ap (λ (l : ℕ). Acknowledge.reply_of plan a.links l b) (sym (eqb-true other link own)) ∙ eqb-true reply 0 done));
        fails = λ other. keeps;
        arrives = λ other fsn. keeps;
        handed_over = keeps;
        t1 = λ other. keeps;
        t2 = λ other. keeps;
        expires = λ event is. keeps;
      }

  -- every event
  pub call_noted : (event : Event) → Goes (view_of event) event
  call_noted = by_view Goes by_kind
