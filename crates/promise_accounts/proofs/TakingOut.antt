-- A call that was done takes its link out: "T1 or T2 expiry", and the failure of a waiting link. So no ending is passed over. Assumes nothing.
use mathlib.Core.Path.{◌≡◌, refl, sym, ap, ◌∙◌}
use mathlib.Core.Bool.{Bool, true, cond}
use mathlib.Core.List.{List}
use Prim.Native.Nat.{ℕ}
use lib.Dec.{eqb}
use borrow.Author.Tests.{eq-eqb}
use borrow.Table.Steps.{cases}
use Rattle.constants.specs.Constants.{state_waiting}
use Rattle.plan.specs.declared.data.Plan.{Plan}
use Rattle.area_links.specs.LinkRecords.{record_at}
use Rattle.replies.specs.Areas.{Areas, Outcome, judged, refused}
use Rattle.changeover.specs.Fail.{failed}
use Rattle.changeover_failure.specs.Failure as Failure
use Rattle.changeover_failure.specs.Overdue as Overdue
use Rattle.changeover_overdue.specs.Expire as Timer
use Rattle.node.specs.declared.call.Event.TheVariants.{Failure, T1, T2}
use Rattle.node.specs.View.{view_of}
use Rattle.node.specs.Memory.{Memory}
use Rattle.node.specs.Call.{call_of}
use Rattle.promise_accounts.specs.Ending.{ending_by_timer, ending_by_failure, ending_of, TakesOut}

-- a judged event that answers 0 wasn't refused
pub not_refused : (reply : ℕ) (done : Outcome) (a : Areas) → (judged reply done a).answer.reply ≡ 0 → eqb reply 0 ≡ true
not_refused reply done a answered =
    cases (eqb reply 0)
    (λ yes. yes)
    (λ no. eq-eqb reply 0 (sym (ap (λ (t : Bool). (cond t done (refused reply a)).answer.reply) no) ∙ answered))

module _ (plan : Plan) (m : Memory) (message : List ℕ) (link : ℕ) where
  pub t1_takes_out : (call_of plan (T1 link) message m).answer.reply ≡ 0
      → TakesOut (ending_of plan m.areas message (view_of (T1 link))) link
  unfolding call_of ending_of ending_by_timer Timer.expired
  t1_takes_out answered = (not_refused (Overdue.reply_of plan m.areas.links link 1 m.areas.reports) _ m.areas answered, refl)

  pub t2_takes_out : (call_of plan (T2 link) message m).answer.reply ≡ 0
      → TakesOut (ending_of plan m.areas message (view_of (T2 link))) link
  unfolding call_of ending_of ending_by_timer Timer.expired
  t2_takes_out answered = (not_refused (Overdue.reply_of plan m.areas.links link 2 m.areas.reports) _ m.areas answered, refl)

  pub waiting_takes_out : (call_of plan (Failure link) message m).answer.reply ≡ 0
      → (record_at m.areas.links link).state ≡ state_waiting
      → TakesOut (ending_of plan m.areas message (view_of (Failure link))) link
  unfolding call_of ending_of ending_by_failure failed
  waiting_takes_out answered waits =
      let done = not_refused (Failure.reply_of plan m.areas.links link m.areas.reports) _ m.areas answered in
      (simp (done, eq-eqb (record_at m.areas.links link).state state_waiting waits), refl)
