-- A link that was in service before a call and is out after it was taken out by that call: no changeover is passed over.
-- Assumes nothing.
use mathlib.Core.Path.{◌≡◌, refl, sym, ap, ◌∙◌}
use mathlib.Core.Bool.{Bool, true, false, cond, ◌||◌}
use mathlib.Core.List.{List}
use Prim.Native.Nat.{ℕ, ◌%◌, ◌<◌}
use native.Mathlib.Nat.{mod-lt, mod-eq_of_lt}
use native.Mathlib.Omega.{arith}
use lib.Dec.{eqb, lit<}
use lib.ListN.{length}
use borrow.Table.Steps.{cases}
use Rattle.plan.specs.declared.data.Plan.{Plan}
use Rattle.area_links.specs.declared.LinkRecord.{LinkRecord}
use Rattle.area_links.specs.LinkRecords.{record_at}
use Rattle.area_numbers.specs.LinkWords.{with_acknowledged, with_sent}
use Rattle.replies.specs.Areas.{Areas, Outcome, refused}
use Rattle.numbers.specs.Numbers.{one_more, left_sent}
use Rattle.acknowledging.specs.Acknowledge as Acknowledge
use Rattle.sending.specs.Send as Send
use Rattle.changeback_pairs.specs.declared.Sources.{Sources}
use Rattle.changeback_service.specs.InService.{comes_as, declares, sources_in, links_in}
use Rattle.changeback.specs.Service.{into_service}
use Rattle.changeback.specs.Service as Service
use Rattle.node.specs.declared.call.Event.{Event}
use Rattle.node.specs.declared.call.Event.TheVariants.{IntoService, Send, Acknowledgement}
use Rattle.node.specs.View.{View, view_of}
use Rattle.node.specs.Memory.{Memory}
use Rattle.node.specs.Call.{sends, acknowledges, call_of}
use Rattle.promise_runs.proofs.Records.{Rewritten, record_rewritten, sent_rewritten, acknowledged_rewritten}
use Rattle.promise_runs.proofs.Outcomes.{RegularIn, by_test, if_done_lem}
use Rattle.promise_accounts.specs.Ending.{Ending, ending_of, TakesOut}
use Rattle.promise_farend.proofs.OnwardReceiving.{but_of}
use Rattle.promise_farend.proofs.OnwardCalls.{own_of, call_onward}
use Rattle.promise_farend.proofs.ByLink.{by_link}

-- a link that comes into service waits or is open
comes_in : (waits : Bool) → cond waits 1 2 % 4 ≡ 0 → ⊥
comes_in true out = omega (arith, out)
comes_in false out = omega (arith, out)

module _
    (plan : Plan)
    (message : List ℕ)
    (m : Memory)
    (regular : RegularIn m.areas m.octets)
    (link : ℕ)
    (h : link < 32)
    (up : (record_at m.areas.links link).state ≡ 0 → ⊥) where
  abbrev a : Areas
  a = m.areas

  -- a link is still in service, in these links
  abbrev In : List ℕ → Type 0
  In links = (record_at links link).state ≡ 0 → ⊥

  -- what a word keeps of a state is the state
  state_kept : (record_at a.links link).state % 4 ≡ (record_at a.links link).state
  state_kept = mod-eq_of_lt (mod-lt _ (lit< tt))

  -- a record that is stored with its state leaves the link in service
  stays_in : {new : LinkRecord} {after : List ℕ} → Rewritten a.links link new after → new.state ≡ (record_at a.links link).state → In after
  stays_in rewritten same out =
      let there = ap (λ (k : LinkRecord). k.state) (rewritten.there regular.links_long h) in
      up (sym state_kept ∙ sym (ap (λ (n : ℕ). n % 4) same) ∙ sym there ∙ out)

  -- so no event that is done on the link itself but one that takes it out leaves it out
  comes_stays : In (call_of plan (IntoService link) message m).after.areas.links
  unfolding call_of into_service links_in
  comes_stays =
      let from : Sources = sources_in plan a.links a.marks link in
      by_test (λ (o : Outcome). In o.after.links) (eqb (Service.reply_of plan a link) 0) _ (refused (Service.reply_of plan a link) a)
      (λ done out.
      comes_in (declares from || from.other)
      (sym (ap (λ (k : LinkRecord). k.state) ((record_rewritten a.links link (comes_as from)).there regular.links_long h)) ∙ out))
      (λ refuses. up)

  send_stays : In (call_of plan (Send link) message m).after.areas.links
  unfolding call_of sends Send.links_after
  send_stays =
      if_done_lem In (Send.reply_of plan a.links a.spans link (length m.out)) (with_sent a.links link (one_more (record_at a.links link)))
      a.links
      (λ done. stays_in (sent_rewritten a.links link (one_more (record_at a.links link))) refl)
      up

  acknowledged_stays : (b : ℕ) → In (call_of plan (Acknowledgement link b) message m).after.areas.links
  unfolding call_of acknowledges Acknowledge.links_after
  acknowledged_stays b =
      let left = left_sent (record_at a.links link) b in
      if_done_lem In (Acknowledge.reply_of plan a.links link b) (with_acknowledged (with_sent a.links link left) link b) a.links
      (λ done. stays_in (acknowledged_rewritten a.links link b left) refl)
      up

  abbrev OutBy : View → Event → Type 0
  OutBy view event = (record_at (call_of plan event message m).after.areas.links link).state ≡ 0 → TakesOut (ending_of plan a message view) link

  -- on another link than the call is about
  elsewhere : (event : Event) → (own_of plan a message (view_of event) ≡ link → ⊥) → OutBy (view_of event) event
  elsewhere event apart out =
      let same = (call_onward plan message m regular event).records link h (λ e. apart (sym e)) in
      absurd (up (sym state_kept ∙ same.still_in (ap (λ (n : ℕ). n % 4) out)))

  -- on the one that it takes out
  taken_out : (ending : Ending) → but_of ending ≡ link → TakesOut ending link
  taken_out ending own =
      cases ending.ends
      (λ ends. (ends, sym (ap (λ (t : Bool). cond t ending.link 32) ends) ∙ own))
      (λ stays.
      let none : 32 ≡ link = sym (ap (λ (t : Bool). cond t ending.link 32) stays) ∙ own in
      absurd (omega (arith, none)))

  -- by every event
  pub goes_out_by : (event : Event) → OutBy (view_of event) event
  goes_out_by =
      by_link plan a message link h OutBy
      (record {
        comes = λ out. absurd (comes_stays out);
        sends = λ out. absurd (send_stays out);
        acknowledges = λ b out. absurd (acknowledged_stays b out);
        ends = λ event own out. taken_out (ending_of plan a message (view_of event)) own;
        others = elsewhere;
      })
