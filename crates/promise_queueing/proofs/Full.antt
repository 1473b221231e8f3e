-- Over any run of calls from any configuration, reply 7 is given only while 192 user messages are held, and 8 only while 64 management
-- messages are.
-- Assumes nothing.
use mathlib.Core.Path.{◌≡◌, refl, sym, ap, ◌∙◌}
use mathlib.Core.Bool.{Bool, true, not, ◌&&◌, and-eq-true_iff, true≢false}
use mathlib.Core.List.{List}
use Prim.Native.Nat.{ℕ, ◌<◌}
use native.Mathlib.Omega.{arith}
use lib.Dec.{eqb}
use lib.ListN.{length}
use borrow.Author.Tests.{eqb-true, eq-eqb, ne_eqb}
use Rattle.plan.specs.declared.data.Plan.{Plan}
use Rattle.replies.specs.Reply.{Row, first}
use Rattle.replies.specs.Areas.{Areas}
use Rattle.discrimination.specs.Discrimination.{from_link}
use Rattle.queue_joining.specs.Queue.{no_user_place, no_management_place}
use Rattle.plan_configuration.specs.Configure.{configured}
use Rattle.node.specs.declared.call.Event.{Event}
use Rattle.node.specs.declared.call.Event.TheVariants.{IntoService, Failure, Send, Acknowledgement, Received, FromHost, T1, T2, T3, T4, T6, T8, T10}
use Rattle.node.specs.Memory.{Memory}
use Rattle.node.specs.Call.{call_of}
use Rattle.promise_runs.specs.Run.{Call, lent, ran, fresh, Whole}
use Rattle.changeback_service.specs.InService as InService
use Rattle.rerouting_expiry.specs.Expiry.{test_of}
use Rattle.management_making.specs.Make.{has_path}
use Rattle.replies_given.proofs.Numbers.{all_of, of_first}
use Rattle.promise_table.specs.Received.{needs_user, needs_management}
use Rattle.promise_table.specs.Table.{rows_of}
use Rattle.promise_table.proofs.FirstRow.{the_table}
use Rattle.promise_queueing.specs.Holding.{users_held, managements_held, OnlyIfFull}
use Rattle.promise_queueing.proofs.Only.{Only, only_first}
use Rattle.promise_queueing.proofs.Only.Only.{end, past, full}
use Rattle.promise_queueing.proofs.Holding.{held_at_once}

-- a row that needs what there is not
needed : (needs test : Bool) → (needs && test) ≡ true → test ≡ true
needed needs test e = ((and-eq-true_iff needs test).0 e).1

-- no row of some has a number
absent : {A : Type 0} (number : ℕ) → 0 < number → (rows : List Row) → all_of (λ (n : ℕ). not (eqb n number)) rows ≡ true
    → first rows ≡ number → A
absent number over rows all is =
    let none = of_first (λ (n : ℕ). not (eqb n number)) (ap not (ne_eqb 0 number (λ e. omega arith))) rows all in
    absurd (true≢false (sym none ∙ ap not (eq-eqb (first rows) number is)))

module _ (plan : Plan) (message : List ℕ) (m : Memory) where
  abbrev a : Areas
  a = m.areas

  -- the rows of each event that has one of the two
  received_seven : (link fsn : ℕ) → Only 7 (no_user_place a.spans) (rows_of plan (Received link fsn) message m)
  unfolding rows_of
  received_seven link fsn =
      let so = needed (needs_user plan a (from_link plan message)) (no_user_place a.spans) in
      past _ _ refl (past _ _ refl (past _ _ refl (past _ _ refl (past _ _ refl (past _ _ refl
      (past _ _ refl (past _ _ refl (full _ _ so (past _ _ refl (past _ _ refl end))))))))))

  host_seven : Only 7 (no_user_place a.spans) (rows_of plan FromHost message m)
  unfolding rows_of
  host_seven =
      past _ _ refl (past _ _ refl (past _ _ refl (past _ _ refl (full _ _ (λ e. e) (past _ _ refl end)))))

  received_eight : (link fsn : ℕ) → Only 8 (no_management_place a.spans) (rows_of plan (Received link fsn) message m)
  unfolding rows_of
  received_eight link fsn =
      let so = needed (needs_management plan a link fsn (from_link plan message)) (no_management_place a.spans) in
      past _ _ refl (past _ _ refl (past _ _ refl (past _ _ refl (past _ _ refl (past _ _ refl
      (past _ _ refl (past _ _ refl (past _ _ refl (full _ _ so (past _ _ refl end))))))))))

  service_eight : (link : ℕ) → Only 8 (no_management_place a.spans) (rows_of plan (IntoService link) message m)
  unfolding rows_of
  service_eight link =
      let so = needed (InService.declares (InService.sources_in plan a.links a.marks link)) (no_management_place a.spans) in
      past _ _ refl (past _ _ refl (past _ _ refl (full _ _ so (past _ _ refl end))))

  t10_eight : (x set : ℕ) → Only 8 (no_management_place a.spans) (rows_of plan (T10 x set) message m)
  unfolding rows_of
  t10_eight x set =
      let so = needed (has_path plan a.links a.marks (test_of plan x set)) (no_management_place a.spans) in
      past _ _ refl (past _ _ refl (past _ _ refl (full _ _ so (past _ _ refl end))))

  -- reply 7
  seven_first : (event : Event) → first (rows_of plan event message m) ≡ 7 → no_user_place a.spans ≡ true
  unfolding rows_of
  seven_first (Received link fsn) is =
      only_first 7 (no_user_place a.spans) (omega arith) (rows_of plan (Received link fsn) message m)
      (received_seven link fsn)
      is
  seven_first FromHost is =
      only_first 7 (no_user_place a.spans) (omega arith) (rows_of plan FromHost message m) host_seven is
  seven_first (IntoService link) is = absent 7 (omega arith) (rows_of plan (IntoService link) message m) refl is
  seven_first (Failure link) is = absent 7 (omega arith) (rows_of plan (Failure link) message m) refl is
  seven_first (Send link) is = absent 7 (omega arith) (rows_of plan (Send link) message m) refl is
  seven_first (Acknowledgement link b) is = absent 7 (omega arith) (rows_of plan (Acknowledgement link b) message m) refl is
  seven_first (T1 link) is = absent 7 (omega arith) (rows_of plan (T1 link) message m) refl is
  seven_first (T2 link) is = absent 7 (omega arith) (rows_of plan (T2 link) message m) refl is
  seven_first (T3 link) is = absent 7 (omega arith) (rows_of plan (T3 link) message m) refl is
  seven_first (T4 link) is = absent 7 (omega arith) (rows_of plan (T4 link) message m) refl is
  seven_first (T6 x) is = absent 7 (omega arith) (rows_of plan (T6 x) message m) refl is
  seven_first (T8 x) is = absent 7 (omega arith) (rows_of plan (T8 x) message m) refl is
  seven_first (T10 x set) is = absent 7 (omega arith) (rows_of plan (T10 x set) message m) refl is

  -- reply 8
  eight_first : (event : Event) → first (rows_of plan event message m) ≡ 8 → no_management_place a.spans ≡ true
  unfolding rows_of
  eight_first (Received link fsn) is =
      only_first 8 (no_management_place a.spans) (omega arith) (rows_of plan (Received link fsn) message m) (received_eight link fsn) is
  eight_first (IntoService link) is =
      only_first 8 (no_management_place a.spans) (omega arith) (rows_of plan (IntoService link) message m) (service_eight link) is
  eight_first (T10 x set) is =
      only_first 8 (no_management_place a.spans) (omega arith) (rows_of plan (T10 x set) message m) (t10_eight x set) is
  eight_first FromHost is = absent 8 (omega arith) (rows_of plan FromHost message m) refl is
  eight_first (Failure link) is = absent 8 (omega arith) (rows_of plan (Failure link) message m) refl is
  eight_first (Send link) is = absent 8 (omega arith) (rows_of plan (Send link) message m) refl is
  eight_first (Acknowledgement link b) is = absent 8 (omega arith) (rows_of plan (Acknowledgement link b) message m) refl is
  eight_first (T1 link) is = absent 8 (omega arith) (rows_of plan (T1 link) message m) refl is
  eight_first (T2 link) is = absent 8 (omega arith) (rows_of plan (T2 link) message m) refl is
  eight_first (T3 link) is = absent 8 (omega arith) (rows_of plan (T3 link) message m) refl is
  eight_first (T4 link) is = absent 8 (omega arith) (rows_of plan (T4 link) message m) refl is
  eight_first (T6 x) is = absent 8 (omega arith) (rows_of plan (T6 x) message m) refl is
  eight_first (T8 x) is = absent 8 (omega arith) (rows_of plan (T8 x) message m) refl is

-- a reply of any call, at any time
pub only_if_full : (m : Memory) → Whole m → length m.areas.arrivals ≡ 1 → (text : List ℕ) (earlier : List Call) (call : Call)
    → let plan = (configured text).plan in
    let before = ran plan earlier (fresh m) in
    OnlyIfFull (call_of plan call.event call.message (lent call before)).answer.reply before.areas
only_if_full m whole one text earlier call =
    let plan = (configured text).plan in
    let before : Memory = ran plan earlier (fresh m) in
    let now : Memory = lent call before in
    let table = the_table plan call.event call.message now in
    let held = held_at_once m whole one text earlier in
    record {
      seven =
          λ is.
          eqb-true (users_held before.areas) 192
          (sym held.users_full ∙ seven_first plan call.message now call.event (sym table ∙ is));
      eight =
          λ is.
          eqb-true (managements_held before.areas) 64
          (sym held.managements_full ∙ eight_first plan call.message now call.event (sym table ∙ is));
    }
