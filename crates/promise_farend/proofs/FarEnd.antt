-- The far end, over every run of calls from every configuration: with true numbers nothing is lost.
-- Assumes nothing.
use mathlib.Core.Path.{◌≡◌}
use mathlib.Core.Bool.{true}
use mathlib.Core.List.{List}
use Prim.Native.Nat.{ℕ, ◌≤◌, ◌<◌}
use native.Mathlib.Nat.{mod-lt}
use native.Mathlib.Omega.{arith}
use lib.Dec.{lit<}
use lib.ListN.{length}
use borrow.Author.Tests.{eq-eqb, lt-leb}
use Rattle.plan.specs.declared.data.Plan.{Plan}
use Rattle.area_links.specs.LinkRecords.{record_at}
use Rattle.replies.specs.Reply.{first}
use Rattle.replies.specs.Areas.{Areas}
use Rattle.lookup.specs.Lookup.{is_link}
use Rattle.plan_configuration.specs.Configure.{configured}
use Rattle.acknowledging.specs.Acknowledge as Acknowledge
use Rattle.node.specs.Memory.{Memory}
use Rattle.promise_runs.specs.Run.{Call, ran, fresh, Whole}
use Rattle.promise_farend.specs.History.{History, begun, number_after, history_in}
use Rattle.promise_farend.specs.FarEnd.{TrueRun, taken_in, Truly}
use Rattle.promise_farend.proofs.History.{numbers_agree, in_order}
use Rattle.promise_farend.proofs.TrueNumbers.{true_in_range, true_number}
use Rattle.promise_farend.proofs.Story.{run_honest}

module _ (m : Memory) (whole : Whole m) (one : length m.areas.arrivals ≡ 1) (text : List ℕ) (calls : List Call) (link : ℕ) (h : link < 32) where
  abbrev plan : Plan
  plan = (configured text).plan

  abbrev after : Areas
  after = (ran plan calls (fresh m)).areas

  abbrev history : History
  history = history_in plan calls (fresh m) link begun

  -- if the number and every acknowledgement before it were true, what the far end took, and what moved or was reported, make up all that
  -- was queued on that link since it came into service (D3); and the number is in range
  pub far_end : ((record_at after.links link).state ≡ 0 → ⊥) → (takings : List ℕ) → TrueRun plan link calls takings (fresh m) begun 0
      → let taken = taken_in calls takings 0 in
      Truly after link history taken (number_after taken)
  far_end up takings story =
      let honest =
      run_honest plan link calls takings (fresh m) begun 0 (record { acknowledged_taken = omega arith; taken_sent = omega arith }) story
      in
      true_number after link history (numbers_agree m whole one text calls link h up) (in_order m whole one text calls link h up)
      (taken_in calls takings 0)
      honest

  -- a true acknowledgement, of a message that was sent and isn't acknowledged yet, is never refused while the link is open
  pub true_acknowledged : is_link plan link ≡ true → (record_at after.links link).state ≡ 2 → (count : ℕ)
      → length history.acknowledged ≤ count
      → count ≤ length history.sent
      → Acknowledge.reply_of plan after.links link (number_after count) ≡ 0
  unfolding Acknowledge.reply_of first
  true_acknowledged there opened count from to =
      let low : number_after count < 128 = mod-lt _ (lit< tt) in
      let serving = numbers_agree m whole one text calls link h (λ out. omega (arith, opened)) in
      simp (
        lt-leb 32 link h,
        lt-leb 128 (number_after count) low,
        there,
        eq-eqb (record_at after.links link).state 2 opened,
        true_in_range after link history serving count from to,
      )
