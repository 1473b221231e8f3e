-- Every call balances: what it acknowledges, retires and reports is gone, what it queues is new, and all else stays held.
-- Assumes nothing.
use mathlib.Core.Path.{◌≡◌, refl, ap}
use mathlib.Core.Bool.{Bool}
use mathlib.Core.List.{List, []}
use Prim.Native.Nat.{ℕ, ◌+◌}
use native.Mathlib.Omega.{arith}
use lib.ListN.{length}
use Rattle.plan.specs.declared.data.Plan.{Plan}
use Rattle.queue_store.specs.Sound.{tally}
use Rattle.replies.specs.declared.Answer.{Answer}
use Rattle.replies.specs.Areas.{Areas, Outcome}
use Rattle.sending.specs.Send as Send
use Rattle.changeover.specs.Fail.{failed}
use Rattle.changeover_overdue.specs.Expire as Change
use Rattle.changeback.specs.Service.{into_service}
use Rattle.rerouting.specs.Timer.{expired_t6, expired_t10}
use Rattle.passing_offering.specs.Host.{sent}
use Rattle.receiving.specs.Receive.{received}
use Rattle.node.specs.declared.call.Event.{Event}
use Rattle.node.specs.declared.call.Event.TheVariants.{IntoService, Failure, Send, Acknowledgement, Received, FromHost, T1, T2, T3, T4, T6, T8, T10}
use Rattle.node.specs.View.{Arrives, view_of}
use Rattle.node.specs.Memory.{Memory}
use Rattle.node.specs.Call.{sends, acknowledges, wait_ends, t8_ends, receives, takes_over, call_of}
use Rattle.promise_runs.proofs.Outcomes.{RegularIn, if_done_lem}
use Rattle.promise_ledger.specs.Reported.{reports_in, drops_of}
use Rattle.promise_accounts.specs.Gone.{acknowledged_by, retired_by, dropped_by}
use Rattle.promise_accounts.proofs.Even.{KindsIn, Even, EvenBy, told_in}
use Rattle.promise_accounts.proofs.EvenEvents.{failure_even, change_ends_even, service_even, t6_even, t10_even, acknowledged_even}
use Rattle.promise_accounts.proofs.EvenPassing.{sent_even}
use Rattle.promise_accounts.proofs.EvenReceiving.{received_even}

module _ (test : ℕ → Bool) (plan : Plan) (message : List ℕ) (m : Memory) (regular : RegularIn m.areas m.octets)
    (long : length m.areas.arrivals ≡ 1)
    (kinds : KindsIn test m.areas) where
  abbrev a : Areas
  a = m.areas

  -- what a call does away with
  abbrev gone_by : Event → ℕ
  gone_by event =
      tally test (acknowledged_by plan a (view_of event))
      + (tally test (retired_by plan a message (view_of event)) + tally test (dropped_by (call_of plan event message m)))

  -- by an outcome that acknowledges nothing
  from_outcome : (b : Areas) (retired : List ℕ) (told : ℕ) → Even test a b (tally test retired + told)
      → Even test a b (tally test [] + (tally test retired + told))
  unfolding tally
  from_outcome b retired told even = record { one = even.one; even = omega (arith, even.even); apart = even.apart }

  outcome_even : (o : Outcome) → EvenBy test a o [] → Even test a o.after (tally test [] + (tally test [] + told_in test o))
  outcome_even o even = from_outcome o.after [] (told_in test o) even

  -- a send reports nothing
  send_untold : (link : ℕ) → (Send.answer_of plan a.links a.spans a.rings a.rows link m.out).reports ≡ 0
  unfolding Send.answer_of
  send_untold link =
      if_done_lem (λ (r : Answer). r.reports ≡ 0) (Send.reply_of plan a.links a.spans link (length m.out)) _ _ (λ e. refl) refl

  -- every event
  pub call_even : (event : Event) → Even test a (call_of plan event message m).after.areas (gone_by event)
  unfolding call_of sends acknowledges wait_ends t8_ends receives takes_over acknowledged_by retired_by tally reports_in drops_of
  call_even (IntoService link) = outcome_even (into_service plan a link) (service_even test a m.octets regular long plan link)
  call_even (Failure link) = outcome_even (failed plan a link) (failure_even test a m.octets regular long plan link)
  call_even (Send link) =
      let none = ap (λ (n : ℕ). tally test (drops_of (reports_in a.reports n))) (send_untold link) in
      record { one = long; even = omega (arith, none); apart = λ kinds. kinds }
  call_even (Acknowledgement link b) =
      let even = acknowledged_even test a m.octets regular long plan link b in
      record { one = even.one; even = omega (arith, even.even); apart = even.apart }
  call_even (Received link fsn) =
      from_outcome (received plan link fsn message a).after (retired_by plan a message (Arrives link fsn))
      (told_in test (received plan link fsn message a))
      (received_even test a m.octets regular long plan link fsn kinds message)
  call_even FromHost = outcome_even (sent plan message a) (sent_even test a m.octets regular long kinds plan message)
  call_even (T1 link) = outcome_even (Change.expired plan a link 1) (change_ends_even test a m.octets regular long plan link 1)
  call_even (T2 link) = outcome_even (Change.expired plan a link 2) (change_ends_even test a m.octets regular long plan link 2)
  call_even (T3 link) = record { one = long; even = omega arith; apart = λ kinds. kinds }
  call_even (T4 link) = record { one = long; even = omega arith; apart = λ kinds. kinds }
  call_even (T6 x) = outcome_even (expired_t6 plan a x) (t6_even test a m.octets regular long plan x)
  call_even (T8 x) = record { one = long; even = omega arith; apart = λ kinds. kinds }
  call_even (T10 x set) = outcome_even (expired_t10 plan a x set) (t10_even test a m.octets regular long plan x set)
