-- `lookup::set_to` meets its contract: the sets are searched in order.
-- Assumes nothing.
use Rattle.plan_words.specs.Words.{plan_at}
use Rattle.lookup.proofs.Walks.{Passed, set_passes}
use Rattle.lookup.proofs.set_to.Given as goal

abbrev pub invariant-loop-set : goal.invariant-loop-set
invariant-loop-set l = Passed (set_passes (plan_at l.plan).sets l.point) 8 l.set
