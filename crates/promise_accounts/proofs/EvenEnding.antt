-- A link that goes out of service: those before the cut are retired, those reported are dropped, and the rest stays held.
-- Assumes nothing.
use mathlib.Core.Path.{◌≡◌, sym, ◌∙◌}
use mathlib.Core.Bool.{Bool, true, false}
use mathlib.Core.List.{List}
use Prim.Native.Nat.{ℕ, ◌+◌, ◌≤◌, ◌<◌}
use native.Mathlib.Omega.{arith}
use lib.ListN.{length}
use lib.Dec.{lit<}
use borrow.Author.Tests.{leb-true}
use Rattle.plan.specs.declared.data.Plan.{Plan}
use Rattle.counting.specs.Counting.{in_range, distance}
use Rattle.counting.proofs.Laws.{is_in_range}
use Rattle.area_links.specs.declared.LinkRecord.{LinkRecord}
use Rattle.queue_rings.specs.Ring.{count_of}
use Rattle.reports.specs.Report.{short}
use Rattle.replies.specs.Areas.{Areas}
use Rattle.changeover_cuts.specs.declared.Cut.{Cut}
use Rattle.changeover_cuts.specs.Cuts.{cut, cut_none, cut_at}
use Rattle.changeover_ending.specs.End.{out_of_service}
use Rattle.promise_runs.specs.Regular.{regular_link}
use Rattle.promise_runs.proofs.ByState.{out_is, waiting_is, open_is, changing_is, by_state}
use Rattle.promise_runs.proofs.Outcomes.{RegularIn, by_test}
use Rattle.promise_ledger.proofs.Ended.{out_even, out_kinds}
use Rattle.promise_accounts.specs.Gone.{up_to_f}
use Rattle.promise_accounts.proofs.Even.{EvenBy}

-- what is sent of a regular link is in its queue
pub sent_queued : (known : LinkRecord) (count : ℕ) → regular_link known count ≡ true → known.sent ≤ count
sent_queued known count regular =
    by_state known.state
    (λ is. omega (arith, (out_is known count is regular).none_sent))
    (λ is. omega (arith, (waiting_is known count is regular).none_sent))
    (λ is. (open_is known count is regular).sent_queued)
    (λ is. (changing_is known count is regular).sent_queued)

-- a cut that a queue can bear
abbrev pub Fits : Cut → ℕ → Type 0
Fits parts count = parts.retired + parts.dropped ≤ count

-- "F in range": no more than the sent ones are retired; else none is
pub cut_fits : (known : LinkRecord) (count f : ℕ) → known.sent ≤ count → Fits (cut_at known f) count
unfolding cut_at
cut_fits known count f queued =
    by_test (λ (c : Cut). Fits c count) (in_range 128 known.acknowledged known.sent f)
    (cut (distance 128 known.acknowledged f) 0)
    cut_none
    (λ e.
    let near : distance 128 known.acknowledged f ≤ known.sent =
    leb-true (distance 128 known.acknowledged f) known.sent (sym (is_in_range 128 (lit< tt) known.acknowledged known.sent f) ∙ e)
    in
    omega arith)
    (λ e. omega arith)

module _ (test : ℕ → Bool) (a : Areas) (octets : List ℕ) (regular : RegularIn a octets) (long : length a.arrivals ≡ 1) where
  pub ending_even : (plan : Plan) (link : ℕ) → link < 32 → short a.reports ≡ false → (parts : Cut) → Fits parts (count_of a.spans link)
      → EvenBy test a (out_of_service plan a link parts) (up_to_f a link parts)
  unfolding out_of_service
  ending_even plan link h room parts fits =
      record {
        one = long;
        even = omega (arith, out_even test octets plan a regular.store link h room parts (omega (arith, fits)));
        apart = out_kinds test octets plan a regular.store link h room parts;
      }
