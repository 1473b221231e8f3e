-- What may arrive twice of a link's queue that leaves in doubt, over every run of calls from every configuration: exactly what was sent and not
-- acknowledged, as far as the far end took it.
-- Assumes nothing.
use mathlib.Core.Path.{◌≡◌, sym, ap, ap₂, ◌∙◌}
use mathlib.Core.List.{List, ◌++◌}
use Prim.Native.Nat.{ℕ, ◌+◌, ◌-◌}
use native.Mathlib.Omega.{arith}
use lib.ListN.{length, take, drop, take-append-drop}
use lib.Seq.{take-append-add, drop-append-add, drop-append_seam, take-take}
use Rattle.plan.specs.declared.data.Plan.{Plan}
use Rattle.queue_store.specs.Sound.{tally, is}
use Rattle.replies.specs.Areas.{Areas}
use Rattle.plan_configuration.specs.Configure.{configured}
use Rattle.node.specs.Memory.{Memory}
use Rattle.promise_runs.specs.Run.{Call, ran, fresh, Whole}
use Rattle.promise_accounts.specs.Gone.{queue_of}
use Rattle.promise_accounts.proofs.OnePlace.{tally_on}
use Rattle.promise_farend.specs.History.{History, begun, result_of, history_in, InOrder}
use Rattle.promise_farend.specs.FarEnd.{took_of, Honest, TrueRun, taken_in, Once}
use Rattle.promise_farend.proofs.Story.{run_honest}
use Rattle.promise_farend.proofs.TrueNumbers.{took_is}
use Rattle.promise_farend.proofs.History.{in_order, nothing_twice}
use Rattle.promise_changeover.specs.ChangedOver.{found, ending_by, leaving}
use Rattle.promise_changeover.proofs.DemandThree.{one_of_all}
use Rattle.promise_resending.specs.Resent.{InDoubt}
use Rattle.promise_resending.specs.Twice.{sent_in_doubt, unsent, took_in_doubt, Twice}
use Rattle.promise_resending.proofs.Resent.{whole_leaves, in_service}

-- a history in order, the far end honest
module _ (a : Areas) (link : ℕ) (h : History) (order : InOrder a link h) (once : Once h) (taken : ℕ) (honest : Honest h taken) where
  abbrev so_far : ℕ
  so_far = length h.acknowledged

  -- how many were sent and aren't acknowledged
  abbrev open_ones : ℕ
  open_ones = length h.sent - so_far

  abbrev queue : List ℕ
  queue = queue_of a link

  sum_is : so_far + open_ones ≡ length h.sent
  sum_is = omega (arith, honest.acknowledged_taken, honest.taken_sent)

  -- they are the first of the queue
  doubt_is : sent_in_doubt h ≡ take open_ones queue
  doubt_is =
      ap (drop so_far) order.sent_in_order
      ∙ ap (λ (n : ℕ). drop so_far (take n h.queued)) (sym sum_is)
      ∙ ap (λ (l : List ℕ). drop so_far (take (so_far + open_ones) l)) order.history_is
      ∙ ap (drop so_far) (take-append-add h.acknowledged queue open_ones)
      ∙ drop-append_seam h.acknowledged (take open_ones queue)

  -- and the others behind them
  unsent_is : unsent h ≡ drop open_ones queue
  unsent_is =
      ap (λ (n : ℕ). drop n h.queued) (sym sum_is)
      ∙ ap (drop (so_far + open_ones)) order.history_is
      ∙ drop-append-add h.acknowledged queue open_ones

  all_is : queue ≡ sent_in_doubt h ++ unsent h
  all_is = sym (ap₂ (λ (one two : List ℕ). one ++ two) doubt_is unsent_is ∙ take-append-drop open_ones queue)

  took_some : took_in_doubt h taken ≡ take (taken - so_far) queue
  took_some =
      ap (take (taken - so_far)) doubt_is
      ∙ take-take (taken - so_far) open_ones queue (omega (arith, honest.acknowledged_taken, honest.taken_sent))

  took_all : took_of h taken ≡ h.acknowledged ++ took_in_doubt h taken
  took_all = took_is a link h order taken honest ∙ ap (λ (l : List ℕ). h.acknowledged ++ l) (sym took_some)

  pub leaves_twice : (leaves : List ℕ) → leaves ≡ queue → Twice h leaves taken
  leaves_twice leaves all = record {
    took = took_all;
    leaves_are = all ∙ all_is;
    queued_once = once.nothing_twice;
    once_more =
        λ number.
        omega (
          arith,
          tally_on (is number) (took_of h taken) leaves,
          ap (tally (is number)) took_all,
          tally_on (is number) h.acknowledged (took_in_doubt h taken),
          ap (tally (is number)) all,
          ap (tally (is number)) order.history_is,
          tally_on (is number) h.acknowledged queue,
        );
  }

module _ (m : Memory) (whole : Whole m) (one : length m.areas.arrivals ≡ 1) (text : List ℕ) (calls : List Call) where
  abbrev its : Plan
  its = (configured text).plan

  abbrev before : Memory
  before = ran its calls (fresh m)

  -- a call that ends the link's service in doubt, where every acknowledgement before it was true
  pub arrives_twice : (call : Call) (link : ℕ) (takings : List ℕ) → TrueRun its link calls takings (fresh m) begun 0
      → InDoubt its call (found call before) link
      → (result_of its call before).answer.reply ≡ 0
      → Twice (history_in its calls (fresh m) link begun) (leaving (found call before) (ending_by its call before)) (taken_in calls takings 0)
  arrives_twice call link takings story doubt done =
      let up = in_service m whole one text calls call link doubt done in
      let within = one_of_all before.areas.links link up in
      let order = in_order m whole one text calls link within up in
      leaves_twice before.areas link (history_in its calls (fresh m) link begun) order (nothing_twice m whole one text calls link within)
      (taken_in calls takings 0)
      (run_honest its link calls takings (fresh m) begun 0 (record { acknowledged_taken = omega arith; taken_sent = omega arith }) story)
      (leaving (found call before) (ending_by its call before))
      (whole_leaves m whole one text calls call link doubt done).all_leave
