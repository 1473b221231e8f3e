-- A changeover that ends in doubt, by a number that isn't in range, T1 or T2: the whole queue leaves, and nothing of it is lost; over every run of calls
-- from every configuration.
-- Assumes nothing.
use mathlib.Core.Path.{◌≡◌, refl, sym, ap, ◌∙◌, subst}
use mathlib.Core.Logic.{⊎_elim}
use mathlib.Core.Bool.{not, ◌||◌}
use mathlib.Core.List.{List, [], ◌++◌, append-nil}
use Prim.Native.Nat.{ℕ, ◌+◌, ◌<◌}
use native.Mathlib.Omega.{arith}
use lib.Dec.{eqb, leb, lit<}
use lib.ListN.{length, take, drop}
use borrow.Author.Tests.{eqb-true, not-false}
use Rattle.plan.specs.declared.data.Plan.{Plan}
use Rattle.plan.specs.Find.{given}
use Rattle.area_links.specs.LinkRecords.{record_at}
use Rattle.queue_rings.specs.Ring.{count_of}
use Rattle.queue_store.specs.Sound.{sum, tally, is}
use Rattle.reports.specs.Report.{short}
use Rattle.replies.specs.Areas.{Areas}
use Rattle.lookup.specs.Lookup.{is_link}
use Rattle.route_access.specs.Change.{is_accessible}
use Rattle.changeover_cuts.specs.declared.Cut.{Cut}
use Rattle.changeover_cuts.specs.Cuts.{cut_none}
use Rattle.changeover_ending.specs.End.{links_out}
use Rattle.changeover_failure.specs.Overdue as Overdue
use Rattle.changeover_overdue.specs.Expire as Timer
use Rattle.plan_configuration.specs.Configure.{configured}
use Rattle.node.specs.declared.call.Event.{Event}
use Rattle.node.specs.declared.call.Event.TheVariants.{T1, T2}
use Rattle.node.specs.View.{view_of}
use Rattle.node.specs.Memory.{Memory, Result}
use Rattle.node.specs.Call.{call_of}
use Rattle.promise_runs.specs.Run.{Call, lent, ran, fresh, Whole}
use Rattle.promise_runs.proofs.Outcomes.{rows_passed, link_within}
use Rattle.promise_runs.proofs.ByState.{out_is}
use Rattle.promise_runs.proofs.KeepsCalls.{RegularAt}
use Rattle.promise_runs.proofs.Reached.{configured_regular}
use Rattle.promise_ledger.specs.Held.{put_on}
use Rattle.promise_ledger.specs.Reported.{Report}
use Rattle.promise_accounts.specs.Gone.{queue_of, told_by}
use Rattle.promise_accounts.specs.Ending.{Ending, ending_by_timer, ending_of, TakesOut}
use Rattle.promise_accounts.proofs.TakingOut.{not_refused, t1_takes_out, t2_takes_out}
use Rattle.promise_farend.specs.History.{result_of}
use Rattle.promise_changeover.specs.ChangedOver.{found, ending_by, dropping, leaving, unrouted, drops_with, changes_by, InService, ChangedOver}
use Rattle.promise_changeover.proofs.ByMessage.{beside_number}
use Rattle.promise_changeover.proofs.Naming.{number_ends}
use Rattle.promise_changeover.proofs.ChangedOver.{changed_over}
use Rattle.promise_resending.specs.Reasons.{dropped_with}
use Rattle.promise_resending.specs.Resent.{OutOfRange, InDoubt, WholeLeaves}
use Rattle.promise_resending.proofs.Given.{dropped_append, dropped_own, changes_none}

-- a link goes out, and its queue isn't cut
abbrev pub Uncut : Ending → ℕ → Type 0
Uncut ending link = TakesOut ending link × (ending.parts ≡ cut_none)

-- an expiry of T1 or T2
module _ (plan : Plan) (m : Memory) (message : List ℕ) (link : ℕ) where
  pub t1_uncut : (call_of plan (T1 link) message m).answer.reply ≡ 0 → Uncut (ending_of plan m.areas message (view_of (T1 link))) link
  unfolding ending_of ending_by_timer
  t1_uncut done = (t1_takes_out plan m message link done, refl)

  pub t2_uncut : (call_of plan (T2 link) message m).answer.reply ≡ 0 → Uncut (ending_of plan m.areas message (view_of (T2 link))) link
  unfolding ending_of ending_by_timer
  t2_uncut done = (t2_takes_out plan m message link done, refl)

-- of a link that isn't out: no timer runs of one that is
module _ (plan : Plan) (m : Memory) (regular : RegularAt m) (message : List ℕ) (link : ℕ) where
  abbrev links : List ℕ
  links = m.areas.links

  overdue_in_service : (timer : ℕ) → 0 < timer → (Timer.expired plan m.areas link timer).answer.reply ≡ 0 → (record_at links link).state ≡ 0 → ⊥
  unfolding Timer.expired Overdue.reply_of
  overdue_in_service timer some answered out =
      let reports = m.areas.reports in
      let other = not (eqb timer 1 || eqb timer 2) || short reports in
      let known = record_at links link in
      let done = eqb-true (Overdue.reply_of plan links link timer reports) 0
      (not_refused (Overdue.reply_of plan links link timer reports) _ m.areas answered)
      in
      let passed = rows_passed (leb 32 link || other) (not (is_link plan link)) (not (eqb known.timer timer)) [] done in
      let within = link_within link other passed.0 in
      let runs = eqb-true known.timer timer (not-false (eqb known.timer timer) passed.2) in
      let stopped = (out_is known (count_of m.areas.spans link) out (regular.each_link link within)).no_change in
      omega (arith, runs, stopped, some)

  pub t1_in_service : (call_of plan (T1 link) message m).answer.reply ≡ 0 → (record_at links link).state ≡ 0 → ⊥
  unfolding call_of
  t1_in_service = overdue_in_service 1 (lit< tt)

  pub t2_in_service : (call_of plan (T2 link) message m).answer.reply ≡ 0 → (record_at links link).state ≡ 0 → ⊥
  unfolding call_of
  t2_in_service = overdue_in_service 2 (lit< tt)

-- what is told with reason 1 of a queue that isn't cut
told_unrouted : (plan : Plan) (a : Areas) (ending : Ending) (retired : List ℕ) (r : Result) → ChangedOver plan a ending retired r
    → dropping a ending ≡ []
    → dropped_with 1 (told_by r) ≡ unrouted plan ending
unfolding dropped_with
told_unrouted plan a ending retired r over none =
    let stray : List Report = drops_with 1 (unrouted plan ending) in
    let access : ℕ → _ = is_accessible plan ending.from.links ending.from.marks in
    let then : ℕ → _ = is_accessible plan (links_out ending.from.links ending.link) ending.from.marks in
    ap (dropped_with 1) over.told
    ∙ ap (λ (l : List ℕ). dropped_with 1 ((drops_with 2 l ++ stray) ++ changes_by plan ending)) none
    ∙ dropped_append 1 stray (changes_by plan ending)
    ∙ ap (λ (l : List ℕ). l ++ dropped_with 1 (changes_by plan ending)) (dropped_own 1 (unrouted plan ending))
    ∙ ap (λ (l : List ℕ). unrouted plan ending ++ l) (changes_none 1 (lit< tt) plan access then 0 (given plan))
    ∙ append-nil (unrouted plan ending)

module _ (m : Memory) (whole : Whole m) (one : length m.areas.arrivals ≡ 1) (text : List ℕ) (calls : List Call) where
  abbrev its : Plan
  its = (configured text).plan

  abbrev before : Memory
  before = ran its calls (fresh m)

  -- every call that ends one in doubt, and is answered with 0
  module _ (call : Call) (link : ℕ) (doubt : InDoubt its call (found call before) link) (done : (result_of its call before).answer.reply ≡ 0) where
    abbrev a : Areas
    a = found call before

    abbrev ending : Ending
    ending = ending_by its call before

    abbrev Ends : Event → Type 0
    Ends event = (call_of its event call.message (lent call before)).answer.reply ≡ 0 → Uncut (ending_of its a call.message (view_of event)) link

    by_number : OutOfRange its call a link → Uncut ending link
    by_number off =
        let is = number_ends its call before (configured_regular text m whole calls) off.f link off.brings off.in_service done in
        ((is.0, is.1), is.2 ∙ beside_number (record_at a.links link) off.f off.not_in_range)

    pub uncut : Uncut ending link
    uncut =
        ⊎_elim by_number
        (⊎_elim
        (λ e. subst Ends (sym e) (t1_uncut its (lent call before) call.message link) done)
        (λ e. subst Ends (sym e) (t2_uncut its (lent call before) call.message link) done))
        doubt

    abbrev Serves : Event → Type 0
    Serves event = (call_of its event call.message (lent call before)).answer.reply ≡ 0 → InService a link

    -- the link was in service
    pub in_service : InService a link
    in_service =
        let regular : RegularAt (lent call before) = configured_regular text m whole calls in
        ⊎_elim (λ off. off.in_service)
        (⊎_elim
        (λ e. subst Serves (sym e) (t1_in_service its (lent call before) regular call.message link) done)
        (λ e. subst Serves (sym e) (t2_in_service its (lent call before) regular call.message link) done))
        doubt

    pub whole_leaves : WholeLeaves its a ending link (result_of its call before)
    whole_leaves =
        let out = uncut.0 in
        let parts = uncut.1 in
        let r : Result = result_of its call before in
        let queue : List ℕ = queue_of a ending.link in
        let over = changed_over m whole one text calls call out.0 in
        let none : dropping a ending ≡ [] = ap (λ (c : Cut). take c.dropped (drop c.retired queue)) parts in
        let all : leaving a ending ≡ queue_of a link = ap (λ (c : Cut). drop (c.retired + c.dropped) queue) parts ∙ ap (queue_of a) out.1 in
        record {
          takes_out = out;
          none_retired = ap (λ (c : Cut). take c.retired queue) parts;
          none_dropped = none;
          all_leave = all;
          each_somewhere =
              λ number differs.
              let joined : ℕ = sum (λ other. tally (is number) (put_on (queue_of a other) (queue_of r.after.areas other))) 32 in
              ap (tally (is number)) (sym all)
              ∙ over.read_once number differs
              ∙ ap (λ (l : List ℕ). joined + tally (is number) l) (sym (told_unrouted its a ending _ r over none));
        }
