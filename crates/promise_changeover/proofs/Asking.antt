-- What a call that takes a link out asks of its queue: the link is one of the 32, no more is retired and dropped than stands there, and those
-- that a changeover number retires are the first of it.
-- Assumes nothing.
use mathlib.Core.Path.{◌≡◌, refl}
use mathlib.Core.Bool.{true, not, ◌&&◌, ◌||◌, and-eq-true_iff}
use mathlib.Core.List.{List, []}
use Prim.Native.Nat.{ℕ, ◌<◌}
use native.Mathlib.Omega.{arith}
use lib.Dec.{eqb, leb}
use borrow.Author.Tests.{eqb-true}
use Rattle.plan.specs.declared.data.Plan.{Plan}
use Rattle.area_links.specs.LinkRecords.{record_at}
use Rattle.queue_rings.specs.Ring.{count_of}
use Rattle.reports.specs.Report.{short}
use Rattle.replies.specs.Areas.{Areas}
use Rattle.lookup.specs.Lookup.{is_link}
use Rattle.changeover_failure.specs.Failure.{state_at}
use Rattle.changeover_failure.specs.Failure as Failure
use Rattle.changeover_failure.specs.Overdue as Overdue
use Rattle.management_steps.specs.declared.Step.{Step}
use Rattle.management_orders.specs.Carry.{answer_reply}
use Rattle.managing.specs.Managed.{step_asked}
use Rattle.discrimination.specs.declared.Came.{Came}
use Rattle.discrimination.specs.declared.Came.TheVariants.{Malformed, Foreign, Delivered, Managed, Passed}
use Rattle.discrimination.specs.Discrimination.{from_link}
use Rattle.receiving.specs.Receive as Receive
use Rattle.node.specs.View.{View, Comes, Fails, Sends, Acknowledges, Arrives, HandedOver, Overdue, Expires}
use Rattle.promise_runs.proofs.Outcomes.{RegularIn, unmet, both_by_test, rows_passed, link_within}
use Rattle.promise_accounts.specs.Gone.{retired_by_step, retired_by_message, retired_by}
use Rattle.promise_accounts.specs.Ending.{Ending, no_ending, ending_by_timer, ending_by_failure, ending_by_step, ending_by_message, ending_of}
use Rattle.promise_accounts.proofs.EvenEnding.{Fits, sent_queued}
use Rattle.promise_accounts.proofs.Bearing.{Bears, asked_bears}
use Rattle.promise_changeover.specs.ChangedOver.{retiring}

pub record Asks (a : Areas) (ending : Ending) (retired : List ℕ) : Type 0 where
  pub within : ending.link < 32
  pub fits : Fits ending.parts (count_of a.spans ending.link)
  pub retires : retired ≡ retiring a ending

module _ (plan : Plan) (a : Areas) (octets : List ℕ) (regular : RegularIn a octets) where
  step_asks : (step : Step) → Bears (count_of a.spans) step → (ending_by_step plan a step).ends ≡ true
      → Asks a (ending_by_step plan a step) (retired_by_step plan a step)
  unfolding ending_by_step retired_by_step
  step_asks step bears ends =
      let first = (and-eq-true_iff (eqb step.reply 0) (eqb (answer_reply plan step a) 0 && step.ends)).0 ends in
      let next = (and-eq-true_iff (eqb (answer_reply plan step a) 0) step.ends).0 first.1 in
      record {
        within = (bears next.1).0;
        fits = (bears next.1).1;
        retires = simp (first.0, next.0, next.1);
      }

  message_asks : (arriving fsn : ℕ) (came : Came) → (ending_by_message plan a arriving fsn came).ends ≡ true
      → Asks a (ending_by_message plan a arriving fsn came) (retired_by_message plan a arriving fsn came)
  unfolding ending_by_message retired_by_message
  message_asks arriving fsn Malformed ends = unmet ends
  message_asks arriving fsn Foreign ends = unmet ends
  message_asks arriving fsn Delivered ends = unmet ends
  message_asks arriving fsn (Managed order) ends =
      step_asks (step_asked plan a.links a.marks arriving fsn order.point order.slc order.message)
      (asked_bears (count_of a.spans) plan a.links a.marks
      (λ link h. sent_queued (record_at a.links link) (count_of a.spans link) (regular.each_link link h))
      arriving
      fsn
      order.point
      order.slc
      order.message)
      ends
  message_asks arriving fsn (Passed label) ends = unmet ends

  -- by every kind of event
  pub ending_asks : (message : List ℕ) (view : View) → (ending_of plan a message view).ends ≡ true
      → Asks a (ending_of plan a message view) (retired_by plan a message view)
  unfolding ending_of ending_by_timer ending_by_failure retired_by Overdue.reply_of Failure.reply_of
  ending_asks message (Arrives link fsn) ends =
      both_by_test (λ (e : Ending) (retired : List ℕ). e.ends ≡ true → Asks a e retired)
      (eqb (Receive.reply_of plan a.links link fsn a.reports) 0)
      (ending_by_message plan a link fsn (from_link plan message))
      (no_ending a)
      (retired_by_message plan a link fsn (from_link plan message))
      []
      (λ done. message_asks link fsn (from_link plan message))
      (λ refused. unmet)
      ends
  ending_asks message (Fails link) ends =
      let waits = eqb (state_at a.links link) 1 in
      let opened = eqb (state_at a.links link) 2 in
      let reply = Failure.reply_of plan a.links link a.reports in
      let done = eqb-true reply 0 ((and-eq-true_iff (eqb reply 0) waits).0 ends).0 in
      let passed = rows_passed (leb 32 link || short a.reports) (not (is_link plan link)) (not (opened || waits)) [] done in
      record { within = link_within link (short a.reports) passed.0; fits = omega arith; retires = refl }
  ending_asks message (Overdue link timer) ends =
      let known = record_at a.links link in
      let odd = not (eqb timer 1 || eqb timer 2) in
      let done = eqb-true (Overdue.reply_of plan a.links link timer a.reports) 0 ends in
      let passed = rows_passed (leb 32 link || (odd || short a.reports)) (not (is_link plan link)) (not (eqb known.timer timer)) [] done in
      record { within = link_within link (odd || short a.reports) passed.0; fits = omega arith; retires = refl }
  ending_asks message (Comes link) ends = unmet ends
  ending_asks message (Sends link) ends = unmet ends
  ending_asks message (Acknowledges link b) ends = unmet ends
  ending_asks message HandedOver ends = unmet ends
  ending_asks message Expires ends = unmet ends
