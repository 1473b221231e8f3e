-- The events on a link that carry no message: the reply of each is the first of its rows that applies. Assumes nothing.
use Prim.Native.Nat.{ℕ}
use mathlib.Core.Bool.{Bool}
use mathlib.Core.List.{List}
use mathlib.Core.Path.{◌≡◌, refl, sym, ap, ◌∙◌}
use lib.ListN.{length}
use Rattle.plan.specs.declared.data.Plan.{Plan}
use Rattle.replies.specs.declared.Answer.{Answer}
use Rattle.replies.specs.Reply.{Row, first, if_done}
use Rattle.replies.specs.Areas.{Areas}
use Rattle.queue_joining.specs.Queue.{no_management_place, no_number, management_reply}
use Rattle.changeback_service.specs.InService as InService
use Rattle.changeback.specs.Service as Service
use Rattle.changeover_failure.specs.Failure as Failure
use Rattle.changeover.specs.Fail as Fail
use Rattle.changeover_failure.specs.Overdue as Overdue
use Rattle.changeover_overdue.specs.Expire as Timer
use Rattle.changeback_waiting.specs.Wait as Wait
use Rattle.sending.specs.Send as Send
use Rattle.acknowledging.specs.Acknowledge as Acknowledge
use Rattle.node.specs.Memory.{Memory}
use Rattle.node.specs.Call.{sends, acknowledges}
use Rattle.promise_table.specs.Table.{into_service_rows}
use Rattle.promise_table.proofs.Continued.{continued, with_two}
use Rattle.promise_table.proofs.Judged.{told, judged_done}
use Rattle.promise_table.proofs.GoesOut.{out_done, failed_done}

module _ (plan : Plan) (link : ℕ) (a : Areas) where
  -- the rows of a link that comes into service before its pairs are looked at
  abbrev before : List Row
  before = InService.refusals_first plan a.links link a.reports

  -- whether its CBD is due
  abbrev due : Bool
  due = InService.declares (InService.sources_in plan a.links a.marks link)

  service_reply : Service.reply_of plan a link ≡ first (into_service_rows plan link a)
  unfolding Service.reply_of InService.reply_first Service.declare_reply management_reply
  service_reply =
      ap (λ (n : ℕ). if_done (first before) n (first before)) (with_two due 8 10 (no_management_place a.spans) (no_number a.arrivals))
      ∙ sym (continued before _ refl)

  pub into_service_lem : (Service.into_service plan a link).answer.reply ≡ first (into_service_rows plan link a)
  unfolding Service.into_service
  into_service_lem = judged_done (Service.reply_of plan a link) _ a refl ∙ service_reply

  -- a link fails
  pub failure : (Fail.failed plan a link).answer.reply ≡ first (Failure.refusals_of plan a.links link a.reports)
  unfolding Fail.failed Failure.reply_of
  failure = judged_done (Failure.reply_of plan a.links link a.reports) _ a (failed_done plan a link)

  -- T1, T2
  expires : (timer : ℕ) → (Timer.expired plan a link timer).answer.reply ≡ Overdue.reply_of plan a.links link timer a.reports
  unfolding Timer.expired
  expires timer = judged_done (Overdue.reply_of plan a.links link timer a.reports) _ a (out_done plan a link _)

  pub t1 : (Timer.expired plan a link 1).answer.reply ≡ first (Overdue.refusals_of plan a.links link 1 a.reports)
  unfolding Overdue.reply_of
  t1 = expires 1

  pub t2 : (Timer.expired plan a link 2).answer.reply ≡ first (Overdue.refusals_of plan a.links link 2 a.reports)
  unfolding Overdue.reply_of
  t2 = expires 2

  -- T3, T4
  pub waits : (timer : ℕ) → Wait.reply_of plan a.links link timer ≡ first (Wait.refusals_of plan a.links link timer)
  unfolding Wait.reply_of
  waits timer = refl

module _ (plan : Plan) (link : ℕ) (m : Memory) where
  pub send : (sends plan link m).answer.reply ≡ first (Send.refusals_of plan m.areas.links m.areas.spans link (length m.out))
  unfolding sends Send.answer_of Send.reply_of
  send =
      told (λ (r : Answer). r.reply) (first (Send.refusals_of plan m.areas.links m.areas.spans link (length m.out))) _ _ refl
      refl

  pub acknowledgement : (b : ℕ) → (acknowledges plan link b m).answer.reply ≡ first (Acknowledge.refusals_of plan m.areas.links link b)
  unfolding acknowledges Acknowledge.reply_of
  acknowledgement b = refl
