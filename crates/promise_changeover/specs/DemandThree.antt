-- Demand 3 (D3), of a plan and of the calls made on a fresh memory.
use Rattle.std.specs.Prelude.{ℕ, ◌+◌, ◌≤◌, ◌<◌, ◌≡◌, true, List, ◌++◌}
use Rattle.constants.specs.Constants.{state_out}
use Rattle.plan.specs.declared.data.Plan.{Plan}
use Rattle.area_links.specs.LinkRecords.{record_at}
use Rattle.queue_store.specs.Sound.{sum, tally, is}
use Rattle.replies.specs.Areas.{Areas}
use Rattle.node.specs.View.{view_of}
use Rattle.node.specs.Memory.{Memory}
use Rattle.promise_runs.specs.Run.{Call, ran}
use Rattle.promise_accounts.specs.Gone.{retired_by, nothing_gone, gone_in, OnePlace}
use Rattle.promise_accounts.specs.Ending.{Ending, TakesOut}
use Rattle.promise_farend.specs.History.{History, begun, result_of, number_after, history_in}
use Rattle.promise_farend.specs.FarEnd.{took_of, TrueRun, taken_in}
use Rattle.promise_changeover.specs.ChangedOver.{found, ending_by, leaving, moved_to, unrouted, WithNumber, Brings, InService, Meets}
use Rattle.promise_changeover.specs.ChangedOver.{AfterNumber, ChangedOver}

-- what the far end of a link took of its history, and what leaves the link by a call that ends so
pub record NothingLost (plan : Plan) (a : Areas) (ending : Ending) (history : History) (taken : ℕ) : Type 0 where
  -- are all that was queued on it since it came into service, in order
  pub makes_up : history.queued ≡ took_of history taken ++ leaving a ending
  -- each number once
  pub nothing_doubled : (number : ℕ) → tally (is number) (took_of history taken ++ leaving a ending) ≤ 1
  -- so each message that was ever queued there is as often taken, on another link, or reported with reason 1
  pub each_somewhere : (number : ℕ)
      → tally (is number) history.queued
      ≡ tally (is number) (took_of history taken)
      + (sum (λ other. tally (is number) (moved_to plan ending other)) 32 + tally (is number) (unrouted plan ending))

pub record DemandThree (plan : Plan) (calls : List Call) (m : Memory) : Type 0 where
  -- "Every message ever queued is in exactly one place: held, acknowledged, retired by a changeover number, or reported dropped with its reason;"
  pub in_one_place : OnePlace (ran plan calls m) (gone_in plan calls m nothing_gone)
  -- "after a changeover .. exactly the messages after it leave that link, once, in order": of every call that takes a link out
  pub changed_over : (call : Call)
      → let before = ran plan calls m in
      (ending_by plan call before).ends ≡ true
      → ChangedOver plan (found call before) (ending_by plan call before)
      (retired_by plan (found call before) call.message (view_of call.event))
      (result_of plan call before)
  -- that is every call after which a link is out that wasn't out before
  pub none_passed_over : (call : Call) (link : ℕ) → link < 32
      → let before = ran plan calls m in
      InService (found call before) link
      → (record_at (result_of plan call before).after.areas.links link).state ≡ state_out
      → TakesOut (ending_by plan call before) link
  -- "with a number in range": those up to it are retired, and all behind it leave
  pub after_number : (call : Call) (link f : ℕ)
      → let before = ran plan calls m in
      Brings plan call link (WithNumber f)
      → Meets (found call before) link f
      → (result_of plan call before).answer.reply ≡ 0
      → AfterNumber (found call before) (ending_by plan call before) link f
  -- "and with true numbers nothing is lost and nothing doubled." (R241): the number of the last message taken, and every acknowledgement before it true
  pub nothing_lost : (call : Call) (link : ℕ) (takings : List ℕ)
      → let before = ran plan calls m in
      let taken = taken_in calls takings 0 in
      TrueRun plan link calls takings m begun 0
      → Brings plan call link (WithNumber (number_after taken))
      → InService (found call before) link
      → (result_of plan call before).answer.reply ≡ 0
      → Meets (found call before) link (number_after taken)
      × NothingLost plan (found call before) (ending_by plan call before) (history_in plan calls m link begun) taken
