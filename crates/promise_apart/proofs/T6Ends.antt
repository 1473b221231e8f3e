-- The end of T6, over any run of calls from any configuration: X's messages leave those held apart, in their order, and the others stay.
-- Assumes nothing.
use mathlib.Core.Path.{◌≡◌, refl, sym, ap, ◌∙◌, subst}
use mathlib.Core.Bool.{false}
use mathlib.Core.List.{List, [], append-nil, map}
use Prim.Native.Nat.{ℕ}
use native.Mathlib.Nat.{zero-add}
use native.Mathlib.Omega.{arith}
use lib.Dec.{eqb}
use lib.ListN.{length, length-map}
use borrow.Author.Tests.{ltb-false, eq-eqb, eqb-true}
use borrow.Table.Elements.{map_app}
use Rattle.constants.specs.Constants.{t6}
use Rattle.plan.specs.declared.data.Plan.{Plan}
use Rattle.plan.specs.Find.{place_of}
use Rattle.area_flags.specs.Flags.{with_flag}
use Rattle.queue_rings.specs.Ring.{count_of}
use Rattle.queue_rings.proofs.Queues.{queue_length}
use Rattle.reports.specs.Report.{short, room}
use Rattle.replies.specs.Reply.{first}
use Rattle.replies.specs.Areas.{Areas, Outcome, refused}
use Rattle.queue_heads.specs.Head.{repeat}
use Rattle.queue_retiring.specs.Leave.{State, state}
use Rattle.queue_moving.specs.Move.{apart}
use Rattle.rerouting_releasing.specs.Release.{released_one, released}
use Rattle.rerouting_expiry.specs.Expiry as Expiry
use Rattle.rerouting.specs.Timer.{reply_t6, expired_t6}
use Rattle.plan_configuration.specs.Configure.{configured}
use Rattle.node.specs.declared.call.Event.TheVariants.{T6}
use Rattle.node.specs.Memory.{Memory}
use Rattle.node.specs.Call.{call_of}
use Rattle.promise_runs.specs.Run.{Call, lent, ran, fresh, Whole}
use Rattle.promise_runs.proofs.Outcomes.{RegularIn, by_test}
use Rattle.promise_runs.proofs.Reached.{configured_regular}
use Rattle.promise_ledger.specs.Held.{arrival_of, numbers}
use Rattle.promise_ledger.specs.Reported.{report, reports_in}
use Rattle.promise_leaving.specs.Going.{slots_of, going, stranded, drops_for}
use Rattle.promise_leaving.specs.Apart.{held_apart, let_go}
use Rattle.promise_apart.specs.LetGo.{goes, EndsT6}
use Rattle.promise_apart.proofs.Flags.{flag_cleared, flag_other}
use Rattle.promise_apart.proofs.LetGo.{Looked, looked}

module _ (plan : Plan) (a : Areas) (octets : List ℕ) (regular : RegularIn a octets) (x : ℕ) where
  -- the flags without X's T6, and the state before
  abbrev marks : List ℕ
  marks = with_flag a.marks (place_of plan x) t6 false

  abbrev now : State
  now = state a.spans a.rings a.reports 0

  -- the lent area is long enough
  wide : reply_t6 plan a.marks x a.reports ≡ 0 → short a.reports ≡ false
  unfolding reply_t6 Expiry.reply_of first
  wide =
      by_test (λ (n : ℕ). n ≡ 0 → short a.reports ≡ false) (short a.reports) 1 (Expiry.reply_of plan a.marks x t6)
      (λ e none. absurd (omega arith))
      (λ e none. e)

  -- all that are held apart are looked at
  pub all_looked : reply_t6 plan a.marks x a.reports ≡ 0
      → Looked plan a.links marks a.rows octets x (held_apart a) [] now (released plan a.links marks a.rows x now)
  unfolding released
  all_looked done =
      let slots = held_apart a in
      let many : length slots ≡ count_of a.spans apart = queue_length a.spans a.rings apart in
      subst
      (λ (n : ℕ).
      Looked plan a.links marks a.rows octets x slots [] now (repeat (released_one plan a.links marks a.rows x) n now))
      many
      (looked plan a.links marks a.rows octets x slots [] now regular.store (sym (append-nil slots))
      (omega (arith, many, regular.store.short apart, ltb-false (room a.reports) 512 (wide done))))

  -- a reply of 0 is that of the event's own rows
  done_only : (expired_t6 plan a x).answer.reply ≡ 0 → reply_t6 plan a.marks x a.reports ≡ 0
  unfolding expired_t6
  done_only =
      let reply = reply_t6 plan a.marks x a.reports in
      by_test (λ (o : Outcome). o.answer.reply ≡ 0 → reply ≡ 0) (eqb reply 0) _ (refused reply a)
      (λ e none. eqb-true reply 0 e)
      (λ e none. none)

  pub expired_ends : reply_t6 plan a.marks x a.reports ≡ 0
      → EndsT6 plan x a (expired_t6 plan a x).after (expired_t6 plan a x).answer.reports
  unfolding expired_t6 numbers reports_in
  expired_ends done =
      let all = all_looked done in
      let strays = stranded (goes plan a marks) (let_go a x) in
      simp (eq-eqb (reply_t6 plan a.marks x a.reports) 0 done)
      (record {
        others_stay = ap (map (arrival_of a.rows)) all.stays;
        move =
            λ link low.
            ap (map (arrival_of a.rows)) (all.joins link low)
            ∙ map_app (arrival_of a.rows) (slots_of now.queues link) (going (goes plan a marks) link (let_go a x));
        told = all.told;
        counted = all.counted ∙ zero-add (length (drops_for 1 a.rows strays)) ∙ length-map strays (λ (slot : ℕ). report 1 (arrival_of a.rows slot));
        stopped = flag_cleared a.marks (place_of plan x) t6;
        flags_same = λ destination flag apart. flag_other a.marks (place_of plan x) t6 false destination flag apart;
        links_same = refl;
        rows_same = refl;
        arrivals_same = refl;
      })

-- T6 of X expires with reply 0, at any time
pub t6_ends : (m : Memory) → Whole m → (text : List ℕ) (earlier : List Call) (call : Call) (x : ℕ)
    → let plan = (configured text).plan in
    let before = ran plan earlier (fresh m) in
    let result = call_of plan (T6 x) call.message (lent call before) in
    result.answer.reply ≡ 0 → EndsT6 plan x before.areas result.after.areas result.answer.reports
unfolding call_of
t6_ends m whole text earlier call x none =
    let plan = (configured text).plan in
    let before : Memory = ran plan earlier (fresh m) in
    let now : Memory = lent call before in
    let a : Areas = now.areas in
    let regular = configured_regular text m whole earlier in
    let ends = expired_ends plan a now.octets regular x (done_only plan a now.octets regular x none) in
    record {
      others_stay = ends.others_stay;
      move = ends.move;
      told = ends.told;
      counted = ends.counted;
      stopped = ends.stopped;
      flags_same = ends.flags_same;
      links_same = ends.links_same;
      rows_same = ends.rows_same;
      arrivals_same = ends.arrivals_same;
    }
