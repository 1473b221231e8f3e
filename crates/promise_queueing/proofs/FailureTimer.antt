-- Over any run of calls from any configuration: after the failure of an open link T2 runs if its COO is made, and T1 else.
-- Assumes nothing.
use mathlib.Core.Path.{◌≡◌, refl, sym, ap, ap₂, ◌∙◌}
use mathlib.Core.Bool.{Bool, true, false, cond, not, ◌&&◌}
use mathlib.Core.List.{List}
use Prim.Native.Nat.{ℕ, ◌%◌}
use lib.Dec.{eqb}
use lib.ListN.{length}
use borrow.Author.Tests.{eqb-true}
use Rattle.constants.specs.Constants.{state_open}
use Rattle.plan.specs.declared.data.Plan.{Plan}
use Rattle.area_links.specs.declared.LinkRecord.{LinkRecord}
use Rattle.area_links.specs.LinkRecords.{record_at}
use Rattle.wire_messages.specs.declared.management.Message.{Message}
use Rattle.replies.specs.Areas.{Areas, refused}
use Rattle.management_making.specs.declared.Draft.{Draft}
use Rattle.changeover_cuts.specs.Cuts.{cut_none}
use Rattle.changeover_ending.specs.End.{out_of_service}
use Rattle.changeover_failure.specs.Failure.{order_of, changing, timer_by}
use Rattle.changeover_failure.specs.Failure as Failure
use Rattle.changeover.specs.Fail.{timer_of, open_failed, failed}
use Rattle.plan_configuration.specs.Configure.{configured}
use Rattle.node.specs.declared.call.Event.TheVariants.{Failure}
use Rattle.node.specs.Memory.{Memory}
use Rattle.node.specs.Call.{call_of}
use Rattle.promise_runs.specs.Run.{Call, lent, called, ran, fresh, Whole}
use Rattle.promise_runs.proofs.Records.{record_rewritten}
use Rattle.promise_accounts.proofs.TakingOut.{not_refused}
use Rattle.promise_contents.specs.Made.{new_of}
use Rattle.promise_contents.specs.Given.{makes, gives}
use Rattle.promise_queueing.specs.Due.{Due, NoneDue, IsDue, due_of, is_made_now, if_made, made_in}
use Rattle.promise_queueing.proofs.Holding.{reached, accounted}
use Rattle.promise_queueing.proofs.MakingCalls.{fails_within}
use Rattle.promise_queueing.proofs.MadeExactly.{something, made_exactly}

-- a message that is due tells whether it is made
made_told : (message : Message) (point slc : ℕ) (x y : Bool) → if_made (IsDue message point slc) x ≡ if_made (IsDue message point slc) y → x ≡ y
made_told message point slc true true e = refl
made_told message point slc true false e = something (sym e)
made_told message point slc false true e = something e
made_told message point slc false false e = refl

-- a word keeps the number of either timer
timer_kept : (told : Bool) → timer_by told % 4 ≡ timer_by told
timer_kept true = refl
timer_kept false = refl

module _ (m : Memory) (whole : Whole m) (one : length m.areas.arrivals ≡ 1) (text : List ℕ) (earlier : List Call) (call : Call) (link : ℕ) where
  abbrev plan : Plan
  plan = (configured text).plan

  abbrev before : Memory
  before = ran plan earlier (fresh m)

  -- the call, with that event
  abbrev failing : Call
  failing = record { event = Failure link; message = call.message; reports = call.reports; out = call.out }

  abbrev now : Memory
  now = lent failing before

  abbrev a : Areas
  a = now.areas

  abbrev due : Due
  due = due_of plan (Failure link) call.message a

  abbrev reply : ℕ
  reply = (call_of plan (Failure link) call.message now).answer.reply

  abbrev made : Bool
  made = is_made_now plan due reply a (called plan failing before).areas

  abbrev order : Draft
  order = order_of plan a.links link

  module _ (opens : (record_at a.links link).state ≡ state_open) (answered : reply ≡ 0) where
    abbrev fail_reply : ℕ
    fail_reply = Failure.reply_of plan a.links link a.reports

    -- it isn't refused, and the link doesn't wait
    met : eqb fail_reply 0 ≡ true
    unfolding call_of failed
    met = not_refused fail_reply _ a answered

    open_still : eqb (record_at a.links link).state 1 ≡ false
    open_still = ap (λ (n : ℕ). eqb n 1) opens

    -- whether its COO is made
    order_made : makes plan order a ≡ made
    unfolding new_of gives due_of made_in order_of
    order_made =
        let coo : Due = IsDue order.message order.point order.slc in
        made_told order.message order.point order.slc (makes plan order a) made
        (ap₂ (λ (t u : Bool). if_made coo (t && (not u && makes plan order a))) (sym met) (sym open_still)
        ∙ made_exactly m whole one text earlier failing
        ∙ ap (λ (n : ℕ). if_made (cond (eqb n 2) coo NoneDue) made) opens)

    -- T2 or T1
    pub coo_and_t2 : (record_at (called plan failing before).areas.links link).timer ≡ cond made 2 1
    unfolding called call_of failed open_failed timer_of
    coo_and_t2 =
        let all = accounted m whole one text earlier in
        let regular = reached m whole one text earlier in
        let known = record_at a.links link in
        let within = fails_within plan a now.octets regular all.apart all.one link (eqb-true fail_reply 0 met) in
        ap₂
        (λ (t u : Bool).
        (record_at (cond t (cond u (out_of_service plan a link cut_none) (open_failed plan a link)) (refused fail_reply a)).after.links link).timer)
        met
        open_still
        ∙ ap (λ (last : LinkRecord). last.timer)
        ((record_rewritten a.links link (changing known (timer_of plan a link))).there regular.links_long within)
        ∙ timer_kept (makes plan order a)
        ∙ ap timer_by order_made
