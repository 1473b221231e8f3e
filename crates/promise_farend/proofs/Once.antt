-- Nothing is twice among what was queued on a link in its time of service: what is acknowledged there is part of all that is acknowledged.
-- Assumes nothing.
use mathlib.Core.Path.{ap}
use mathlib.Core.Bool.{Bool, ◌&&◌, and-eq-true_iff}
use Prim.Native.Nat.{ℕ, ◌+◌, ◌≤◌, ◌<◌}
use native.Mathlib.Omega.{arith}
use lib.Dec.{eqb}
use borrow.Author.Tests.{eqb-true}
use Rattle.plan.specs.declared.data.Plan.{Plan}
use Rattle.plan.proofs.Split.{split}
use Rattle.queue_store.specs.Sound.{tally, is}
use Rattle.queue_store.proofs.Sums.{sum_part}
use Rattle.replies.specs.Areas.{Areas}
use Rattle.queue_heads.specs.Head.{both}
use Rattle.node.specs.View.{View, Comes, Fails, Sends, Acknowledges, Arrives, HandedOver, Overdue, Expires}
use Rattle.node.specs.Memory.{Memory, Result}
use Rattle.promise_runs.proofs.Outcomes.{by_test}
use Rattle.promise_ledger.specs.Held.{numbers, held_of}
use Rattle.promise_accounts.specs.Gone.{queue_of, up_to_b, acknowledged_by, Gone, next_in}
use Rattle.promise_accounts.proofs.OnePlace.{tally_on, given_once, given_none, Accounted}
use Rattle.promise_farend.specs.History.{History, begun, is_done, sending_of, with_sending, with_acknowledged, event_by}

module _ (plan : Plan) (link : ℕ) (test : ℕ → Bool) where
  -- an event acknowledges no more over the link than at all
  pub event_part : (a : Areas) (r : Result) (s : History) (view : View)
      → tally test (event_by plan a link r s view).acknowledged
      ≤ tally test s.acknowledged + tally test (acknowledged_by plan a view)
  unfolding event_by acknowledged_by tally
  event_part a r s (Comes other) =
      by_test (λ (now : History). tally test now.acknowledged ≤ tally test s.acknowledged + 0) (eqb other link && is_done r) begun s
      (λ e. omega arith)
      (λ e. omega arith)
  event_part a r s (Sends other) =
      by_test (λ (now : History). tally test now.acknowledged ≤ tally test s.acknowledged + 0) (eqb other link && is_done r)
      (with_sending s (sending_of a link r))
      s
      (λ e. omega arith)
      (λ e. omega arith)
  event_part a r s (Acknowledges other b) =
      by_test (λ (now : History). tally test now.acknowledged ≤ tally test s.acknowledged + tally test (up_to_b plan a other b))
      (eqb other link && is_done r)
      (with_acknowledged s (up_to_b plan a link b))
      s
      (λ e.
      let same = eqb-true other link ((and-eq-true_iff (eqb other link) (is_done r)).0 e).0 in
      omega (
        arith,
        tally_on test s.acknowledged (up_to_b plan a link b),
        ap (λ (l : ℕ). tally test (up_to_b plan a l b)) same,
      ))
      (λ e. omega arith)
  event_part a r s (Fails other) = omega arith
  event_part a r s (Arrives other fsn) = omega arith
  event_part a r s HandedOver = omega arith
  event_part a r s (Overdue other timer) = omega arith
  event_part a r s Expires = omega arith

  -- nor is more queued by what it does
  pub event_queued : (a : Areas) (r : Result) (s : History) (view : View) → tally test (event_by plan a link r s view).queued ≤ tally test s.queued
  unfolding event_by tally
  event_queued a r s (Comes other) =
      by_test (λ (now : History). tally test now.queued ≤ tally test s.queued) (eqb other link && is_done r) begun s
      (λ e. omega arith)
      (λ e. omega arith)
  event_queued a r s (Sends other) =
      by_test (λ (now : History). tally test now.queued ≤ tally test s.queued) (eqb other link && is_done r)
      (with_sending s (sending_of a link r))
      s
      (λ e. omega arith)
      (λ e. omega arith)
  event_queued a r s (Acknowledges other b) =
      by_test (λ (now : History). tally test now.queued ≤ tally test s.queued) (eqb other link && is_done r)
      (with_acknowledged s (up_to_b plan a link b))
      s
      (λ e. omega arith)
      (λ e. omega arith)
  event_queued a r s (Fails other) = omega arith
  event_queued a r s (Arrives other fsn) = omega arith
  event_queued a r s HandedOver = omega arith
  event_queued a r s (Overdue other timer) = omega arith
  event_queued a r s Expires = omega arith

-- what is queued on a link is held
pub queue_held : (test : ℕ → Bool) (a : Areas) (link : ℕ) → link < 32
    → tally test (queue_of a link) ≤ held_of test a.rows (both a.spans a.rings)
unfolding held_of
queue_held test a link h =
    sum_part (λ ring. tally test (numbers a.rows (both a.spans a.rings) ring)) 33 link (omega arith)

-- and where every number is accounted for, nothing is twice of what is queued and what is acknowledged
pub once_in_all : (m : Memory) (gone : Gone) → Accounted m gone → (link : ℕ) → link < 32 → (number : ℕ)
    → tally (is number) gone.acknowledged + tally (is number) (queue_of m.areas link) ≤ 1
once_in_all m gone accounted link h number =
    let all = accounted.places (is number) in
    let queued = queue_held (is number) m.areas link h in
    split number (next_in m)
    (λ below. omega (arith, all, queued, given_once number (next_in m) below))
    (λ above. omega (arith, all, queued, given_none number (next_in m) above))
