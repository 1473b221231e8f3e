-- Every call leaves a regular state regular, by a sound plan, whatever its reply.
-- Assumes nothing.
use mathlib.Core.List.{List}
use Prim.Native.Nat.{ℕ}
use lib.ListN.{length}
use Rattle.plan.specs.declared.data.Plan.{Plan}
use Rattle.plan.specs.Sound as Plan
use Rattle.node.specs.declared.call.Event.{Event}
use Rattle.node.specs.declared.call.Event.TheVariants.{IntoService, Failure, Send, Acknowledgement, Received, FromHost, T1, T2, T3, T4, T6, T8, T10}
use Rattle.node.specs.Memory.{Memory}
use Rattle.node.specs.Call.{sends, acknowledges, wait_ends, t8_ends, receives, takes_over, call_of}
use Rattle.promise_runs.proofs.Outcomes.{RegularIn}
use Rattle.promise_runs.proofs.KeepsNumbers.{send_regular, acknowledge_regular}
use Rattle.promise_runs.proofs.KeepsWaiting.{expiry_regular}
use Rattle.promise_runs.proofs.KeepsChangeover.{failure_regular, change_ends_regular}
use Rattle.promise_runs.proofs.KeepsService.{service_regular}
use Rattle.promise_runs.proofs.KeepsRerouting.{t6_regular, t10_regular}
use Rattle.promise_runs.proofs.KeepsPassing.{sent_regular}
use Rattle.promise_runs.proofs.KeepsReceiving.{received_regular}

-- a memory is regular
abbrev pub RegularAt : Memory → Type 0
RegularAt m = RegularIn m.areas m.octets

module _ (plan : Plan) (sound : Plan.Sound plan) (message : List ℕ) (m : Memory) (regular : RegularAt m) where
  waits_regular : (link timer : ℕ) → RegularAt (wait_ends plan link timer m).after
  unfolding wait_ends
  waits_regular link timer =
      let a = m.areas in
      expiry_regular a.links a.spans a.rings a.rows m.octets regular plan link timer

  pub call_regular : (event : Event) → RegularAt (call_of plan event message m).after
  unfolding call_of sends acknowledges t8_ends receives takes_over
  call_regular (IntoService link) = service_regular plan sound m.areas m.octets regular link
  call_regular (Failure link) = failure_regular m.areas m.octets regular plan link
  call_regular (Send link) =
      let a = m.areas in
      send_regular a.links a.spans a.rings a.rows m.octets regular plan link (length m.out)
  call_regular (Acknowledgement link b) =
      let a = m.areas in
      acknowledge_regular a.links a.spans a.rings a.rows m.octets regular plan link b
  call_regular (Received link fsn) = received_regular m.areas m.octets regular plan link fsn message
  call_regular FromHost = sent_regular m.areas m.octets regular plan message
  call_regular (T1 link) = change_ends_regular m.areas m.octets regular plan link 1
  call_regular (T2 link) = change_ends_regular m.areas m.octets regular plan link 2
  call_regular (T3 link) = waits_regular link 3
  call_regular (T4 link) = waits_regular link 4
  call_regular (T6 x) = t6_regular m.areas m.octets regular plan x
  call_regular (T8 x) = regular
  call_regular (T10 x set) = t10_regular m.areas m.octets regular plan x set
