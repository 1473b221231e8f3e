-- `plan_entries::insert::inserted` meets its contract: the value is pushed up to the end. Assumes nothing.
use borrow.Author.Rules.{rules}
use Rattle.plan_entries.proofs.Push.{push_first}
use Rattle.plan_entries.proofs.insert.inserted.Goals as goal

pub loop-at-init : goal.loop-at-init
loop-at-init g c = push_first g.row.N _ _ _ (search rules)
