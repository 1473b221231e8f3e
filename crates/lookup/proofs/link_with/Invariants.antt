-- `lookup::link_with` meets its contract: the links of the set are searched in order.
-- Assumes nothing.
use Prim.Native.Nat.{ℕ}
use lib.ListN.{get_or}
use Rattle.plan.specs.Data.{set_at}
use Rattle.plan_words.specs.Words.{plan_at}
use Rattle.lookup.proofs.Walks.{Passed, link_passes}
use Rattle.lookup.proofs.link_with.Given as goal

abbrev pub invariant-loop-place : goal.invariant-loop-place
invariant-loop-place l =
    Passed (λ (i : ℕ). link_passes (plan_at l.plan).links l.slc (get_or (set_at (plan_at l.plan) l.set).links i 0)) l.place-end l.place
