-- `plan_words::read::count` meets its contract. Assumes nothing.
use mathlib.Core.Path.{sym}
use Rattle.plan_words.proofs.Said.{node_count}
use Rattle.plan_words.proofs.read.count.Goals as goal

pub returns : goal.returns
returns c = sym (node_count _)
