-- `lookup::link_with` meets its contract: the links of the set are searched in order.
-- Assumes nothing.
use borrow.Author.Tests.{lt-ltb, eq-eqb}
use mathlib.Core.Path.{◌≡◌, ◌∙◌}
use native.Mathlib.Omega.{arith}
use lib.ListN.{length}
use Rattle.plan.specs.Data.{set_at}
use Rattle.plan_words.specs.Words.{plan_at}
use Rattle.plan_words.proofs.Said.{some_links}
use Rattle.lookup.specs.Lookup.{all_of}
use Rattle.lookup.proofs.Walks.{walk_hit, walk_last, links_walk}
use Rattle.lookup.proofs.link_with.Goals as goal

pub returns-then-link_slc-slc : goal.returns-then-link_slc-slc
returns-then-link_slc-slc c =
    let a = c.args in
    let plan = plan_at a.plan.now in
    let all : length (all_of (set_at plan a.set)) ≡ c.min-place-end.result =
    omega (arith, some_links a.plan.now a.set, c.set_count.ensures, c.min-place-end.ensures)
    in
    c.set_link-link.ensures
    ∙ walk_hit (links_walk plan a.slc (set_at plan a.set) _ all) c.loop-place.place c.loop-place.invariant c.loop-place-test.true
    (simp (← c.set_link-link.ensures, ← c.link_slc.ensures, lt-ltb _ _ c.if-link-lt-NO_LINK.true, eq-eqb _ _ c.if-link_slc-slc.true))

pub returns : goal.returns
returns c =
    let a = c.args in
    let plan = plan_at a.plan.now in
    let all : length (all_of (set_at plan a.set)) ≡ c.min-place-end.result =
    omega (arith, some_links a.plan.now a.set, c.set_count.ensures, c.min-place-end.ensures)
    in
    walk_last (links_walk plan a.slc (set_at plan a.set) _ all) _ c.loop-place.invariant c.loop-place-test.false
