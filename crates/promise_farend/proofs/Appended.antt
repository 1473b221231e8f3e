-- A history that isn't begun anew only grows: every call puts what it adds behind what was queued, sent and acknowledged.
-- Assumes nothing.
use mathlib.Core.Path.{◌≡◌, refl, sym, ap, ◌∙◌, subst}
use mathlib.Core.Bool.{Bool, false, cond, ◌&&◌}
use mathlib.Core.List.{List, [], ◌∷◌, ◌++◌, append-nil, append_assoc}
use Prim.Native.Nat.{ℕ}
use lib.Dec.{eqb}
use Rattle.plan.specs.declared.data.Plan.{Plan}
use Rattle.replies.specs.Areas.{Areas}
use Rattle.node.specs.View.{View, Comes, Fails, Sends, Acknowledges, Arrives, HandedOver, Overdue, Expires, view_of}
use Rattle.node.specs.Memory.{Memory, Result}
use Rattle.promise_runs.specs.Run.{Call, lent, called, ran}
use Rattle.promise_runs.proofs.Outcomes.{by_test}
use Rattle.promise_accounts.specs.Gone.{up_to_b}
use Rattle.promise_farend.specs.History.{Sending, History, begun, result_of, is_done, sending_of, with_queued, with_sending}
use Rattle.promise_farend.specs.History.{with_acknowledged, event_by, put_by, history_by, history_in, begins, GoesOn, Grows}

-- a list behind another, and a third behind both
further : {A : Type 0} (first next last : List A) → (new : List A) × (next ≡ first ++ new) → (more : List A) × (last ≡ next ++ more)
    → (all : List A) × (last ≡ first ++ all)
further first next last one two =
    (one.0 ++ two.0, two.1 ∙ ap (λ (l : List _). l ++ two.0) one.1 ∙ append_assoc first one.0 two.0)

grows_on : (first next last : History) → Grows first next → Grows next last → Grows first last
grows_on first next last one two =
    record {
      queued_on = further first.queued next.queued last.queued one.queued_on two.queued_on;
      sent_on = further first.sent next.sent last.sent one.sent_on two.sent_on;
      acknowledged_on = further first.acknowledged next.acknowledged last.acknowledged one.acknowledged_on two.acknowledged_on;
    }

module _ (s : History) where
  same_queued : (new : List ℕ) × (s.queued ≡ s.queued ++ new)
  same_queued = ([], sym (append-nil s.queued))

  same_sent : (new : List Sending) × (s.sent ≡ s.sent ++ new)
  same_sent = ([], sym (append-nil s.sent))

  same_acknowledged : (new : List ℕ) × (s.acknowledged ≡ s.acknowledged ++ new)
  same_acknowledged = ([], sym (append-nil s.acknowledged))

  grows_none : Grows s s
  grows_none = record { queued_on = same_queued; sent_on = same_sent; acknowledged_on = same_acknowledged }

  -- by what is queued
  grows_queued : (new : List ℕ) → Grows s (with_queued s new)
  grows_queued new = record { queued_on = (new, refl); sent_on = same_sent; acknowledged_on = same_acknowledged }

  -- and by an event of the link that doesn't begin it anew
  event_grows : (plan : Plan) (a : Areas) (link : ℕ) (r : Result) (view : View) → begins link (is_done r) view ≡ false
      → Grows s (event_by plan a link r s view)
  unfolding begins event_by
  event_grows plan a link r (Comes other) e = subst (λ (t : Bool). Grows s (cond t begun s)) (sym e) grows_none
  event_grows plan a link r (Sends other) e =
      by_test (Grows s) (eqb other link && is_done r) (with_sending s (sending_of a link r)) s
      (λ own. record { queued_on = same_queued; sent_on = (_, refl); acknowledged_on = same_acknowledged })
      (λ none. grows_none)
  event_grows plan a link r (Acknowledges other b) e =
      by_test (Grows s) (eqb other link && is_done r) (with_acknowledged s (up_to_b plan a link b)) s
      (λ own. record { queued_on = same_queued; sent_on = same_sent; acknowledged_on = (_, refl) })
      (λ none. grows_none)
  event_grows plan a link r (Fails other) e = grows_none
  event_grows plan a link r (Arrives other fsn) e = grows_none
  event_grows plan a link r HandedOver e = grows_none
  event_grows plan a link r (Overdue other timer) e = grows_none
  event_grows plan a link r Expires e = grows_none

-- over a run of calls
module _ (plan : Plan) (link : ℕ) where
  -- a call that doesn't begin the history anew
  pub call_grows : (call : Call) (m : Memory) (s : History) → begins link (is_done (result_of plan call m)) (view_of call.event) ≡ false
      → Grows s (history_by plan call m link s)
  unfolding history_by
  call_grows call m s goes =
      let a = (lent call m).areas in
      let r = result_of plan call m in
      let now = event_by plan a link r s (view_of call.event) in
      grows_on s now (history_by plan call m link s) (event_grows s plan a link r (view_of call.event) goes) (grows_queued now (put_by a link r))

  pub run_grows : (calls : List Call) (m : Memory) (s : History) → GoesOn plan calls m link → Grows s (history_in plan calls m link s)
  unfolding history_in GoesOn
  run_grows [] m s goes = grows_none s
  run_grows (call ∷ later) m s goes =
      let after = history_by plan call m link s in
      grows_on s after (history_in plan later (called plan call m) link after) (call_grows call m s goes.0)
      (run_grows later (called plan call m) after goes.1)

  -- a run behind another
  pub history_on : (calls later : List Call) (m : Memory) (s : History)
      → history_in plan (calls ++ later) m link s ≡ history_in plan later (ran plan calls m) link (history_in plan calls m link s)
  unfolding history_in ran
  history_on [] later m s = refl
  history_on (call ∷ calls) later m s = history_on calls later (called plan call m) (history_by plan call m link s)
