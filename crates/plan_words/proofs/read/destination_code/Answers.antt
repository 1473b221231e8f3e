-- `plan_words::read::destination_code` meets its contract. Assumes nothing.
use Rattle.plan_words.proofs.Said.{destination_there, destination_past}
use Rattle.plan_words.proofs.read.destination_code.Goals as goal

pub returns-then-place-ge64 : goal.returns-then-place-ge64
returns-then-place-ge64 c = let a = c.args in simp (destination_past a.plan.now a.place c.if-place-ge64.true)

pub returns : goal.returns
returns c = let a = c.args in simp (destination_there a.plan.now a.place c.if-place-ge64.false)
