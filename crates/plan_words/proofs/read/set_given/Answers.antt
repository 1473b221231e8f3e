-- `plan_words::read::set_given` meets its contract. Assumes nothing.
use Rattle.plan_words.proofs.Said.{set_there, set_past}
use Rattle.plan_words.proofs.read.set_given.Goals as goal

pub returns-then-set-ge8 : goal.returns-then-set-ge8
returns-then-set-ge8 c = let a = c.args in simp (set_past a.plan.now a.set c.if-set-ge8.true)

pub returns : goal.returns
returns c = let a = c.args in simp (set_there a.plan.now a.set c.if-set-ge8.false)
