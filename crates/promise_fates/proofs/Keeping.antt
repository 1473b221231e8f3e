-- A call that takes no link out takes from a link's queue only what it acknowledges: each other message stays in it. Assumes nothing.
use mathlib.Core.Path.{◌≡◌, sym, ap, ◌∙◌}
use mathlib.Core.Logic.{◌⊎◌, inl, inr}
use mathlib.Core.Bool.{Bool, false, cond}
use mathlib.Core.List.{List, [], ◌++◌}
use Prim.Native.Nat.{ℕ, ◌≤◌, ◌<◌}
use native.Mathlib.Omega.{arith}
use lib.Dec.{eqb}
use lib.ListN.{take, drop}
use borrow.Author.Tests.{eqb-true}
use Rattle.plan.specs.declared.data.Plan.{Plan}
use Rattle.plan.specs.Sound as Plan
use Rattle.plan.proofs.Split.{split}
use Rattle.area_links.specs.LinkRecords.{record_at}
use Rattle.queue_store.specs.Sound.{tally, is}
use Rattle.replies.specs.Areas.{Areas, Outcome, refused}
use Rattle.queue_heads.specs.Head.{Queues, both}
use Rattle.queue_retiring.specs.Leave.{retired}
use Rattle.numbers.specs.Numbers.{up_to}
use Rattle.acknowledging.specs.Acknowledge as Acknowledge
use Rattle.changeback.specs.Service.{into_service}
use Rattle.changeback.specs.Service as Service
use Rattle.node.specs.declared.call.Event.{Event}
use Rattle.node.specs.declared.call.Event.TheVariants.{IntoService, Send, Acknowledgement}
use Rattle.node.specs.View.{View, Comes, Sends, Acknowledges, view_of}
use Rattle.node.specs.Memory.{Memory}
use Rattle.node.specs.Call.{sends, acknowledges, call_of}
use Rattle.promise_runs.proofs.Outcomes.{by_test, both_by_test}
use Rattle.promise_runs.proofs.KeepsCalls.{RegularAt}
use Rattle.promise_runs.proofs.KeepsService.{was_out, first_done}
use Rattle.promise_ledger.specs.Held.{numbers}
use Rattle.promise_accounts.specs.Gone.{queue_of, up_to_b, acknowledged_by}
use Rattle.promise_accounts.specs.Ending.{ending_of}
use Rattle.promise_accounts.proofs.OnePlace.{tally_on}
use Rattle.promise_farend.proofs.OnwardCalls.{call_onward}
use Rattle.promise_farend.proofs.ByLink.{by_link}
use Rattle.promise_farend.proofs.Retired.{own_left}
use Rattle.promise_farend.proofs.InOrderCalls.{out_empty}
use Rattle.promise_fates.proofs.GoneLines.{taken_left}
use Rattle.promise_fates.proofs.MovedLines.{Keeps}

-- a queue that goes on keeps what it had
pub keeps_on : (a b : Areas) (gone : List ℕ) (queue : ℕ) (new : List ℕ) → queue_of b queue ≡ queue_of a queue ++ new → Keeps a b gone queue
keeps_on a b gone queue new behind number h =
    inl (omega (arith, h, ap (tally (is number)) behind, tally_on (is number) (queue_of a queue) new))

module _ (plan : Plan) (sound : Plan.Sound plan) (message : List ℕ) (m : Memory) (regular : RegularAt m) (link : ℕ) (h : link < 32) where
  abbrev a : Areas
  a = m.areas

  abbrev KeepsBy : View → Event → Type 0
  KeepsBy view event =
      (ending_of plan a message view).ends ≡ false → Keeps a (call_of plan event message m).after.areas (acknowledged_by plan a view) link

  -- into service: the queue was empty
  comes_keeps : KeepsBy (Comes link) (IntoService link)
  unfolding call_of into_service tally
  comes_keeps stays =
      let reply = Service.reply_of plan a link in
      by_test (λ (o : Outcome). Keeps a o.after (acknowledged_by plan a (Comes link)) link) (eqb reply 0) _ (refused reply a)
      (λ done number some.
      let out = (was_out plan sound a m.octets regular link (first_done plan sound a m.octets regular link (eqb-true reply 0 done))).1 in
      absurd (omega (arith, some, ap (tally (is number)) (out_empty a m.octets regular link h out))))
      (λ refuses number some. inl some)

  sends_keeps : KeepsBy (Sends link) (Send link)
  unfolding call_of sends
  sends_keeps stays number some = inl some

  -- an acknowledgement: what isn't acknowledged is left
  acknowledges_keeps : (b : ℕ) → KeepsBy (Acknowledges link b) (Acknowledgement link b)
  unfolding call_of acknowledges acknowledged_by up_to_b Acknowledge.queues_after
  acknowledges_keeps b stays =
      let held : Queues = both a.spans a.rings in
      let many : ℕ = up_to (record_at a.links link) b in
      both_by_test
      (λ (after : Queues) (gone : List ℕ).
      (number : ℕ) → 1 ≤ tally (is number) (queue_of a link)
      → (1 ≤ tally (is number) (numbers a.rows after link)) ⊎ (1 ≤ tally (is number) gone))
      (eqb (Acknowledge.reply_of plan a.links link b) 0)
      (retired link many held)
      held
      (take many (queue_of a link))
      []
      (λ done number some.
      let left = ap (tally (is number)) (own_left a.rows m.octets link (omega (arith, h)) many held regular.store) in
      let parts = taken_left many number (queue_of a link) in
      split 0 (tally (is number) (drop many (queue_of a link)))
      (λ more. inl (omega (arith, left, more)))
      (λ none. inr (omega (arith, parts, some, none))))
      (λ refuses number some. inl some)

  -- every event
  pub call_keeps : (event : Event) → KeepsBy (view_of event) event
  call_keeps =
      by_link plan a message link h KeepsBy
      (record {
        comes = comes_keeps;
        sends = sends_keeps;
        acknowledges = acknowledges_keeps;
        ends =
            λ event own stays.
            let ending = ending_of plan a message (view_of event) in
            let none : 32 ≡ link = sym (ap (λ (t : Bool). cond t ending.link 32) stays) ∙ own in
            absurd (omega (arith, none, h));
        others =
            λ event apart stays.
            let behind = (call_onward plan message m regular event).queues link h (λ e. apart (sym e)) in
            keeps_on a (call_of plan event message m).after.areas (acknowledged_by plan a (view_of event)) link behind.0 behind.1;
      })
