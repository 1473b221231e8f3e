-- `plan_words::read::given` meets its contract. Assumes nothing.
use mathlib.Core.Path.{sym}
use Rattle.plan_words.proofs.Said.{node_given}
use Rattle.plan_words.proofs.read.given.Goals as goal

pub returns : goal.returns
returns c = sym (node_given _)
