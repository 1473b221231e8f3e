-- `lookup::set_to` meets its contract: the sets are searched in order.
-- Assumes nothing.
use borrow.Author.Tests.{eq-eqb}
use Rattle.plan_words.specs.Words.{plan_at}
use Rattle.lookup.specs.Lookup.{set_to}
use Rattle.lookup.proofs.Walks.{walk_hit, walk_last, sets_walk}
use Rattle.lookup.proofs.set_to.Goals as goal

pub returns-then-set_adjacent-point : goal.returns-then-set_adjacent-point
unfolding set_to
returns-then-set_adjacent-point c =
    let loop = c.loop-set in
    walk_hit (sets_walk (plan_at c.args.plan.now) c.args.point) loop.set loop.invariant c.loop-set-test.true
    (simp (← c.set_given.ensures, ← c.set_adjacent.ensures, c.if-set_given.true, eq-eqb _ _ c.if-set_adjacent-point.true))

pub returns : goal.returns
unfolding set_to
returns c = walk_last (sets_walk (plan_at c.args.plan.now) c.args.point) _ c.loop-set.invariant c.loop-set-test.false
