-- `plan_entries::insert::inserted` meets its contract: the value is pushed up to the end. Assumes nothing.
use Rattle.plan_entries.specs.Insert.{inserted}
use Rattle.plan_entries.proofs.Push.{Pushing}
use Rattle.plan_entries.proofs.insert.inserted.Given as goal

abbrev pub invariant-loop-at : goal.invariant-loop-at
invariant-loop-at g l = Pushing g.row.N l.at l.moved l.table (inserted l.place l.initial.moved l.initial.table)
