-- `plan_words::read::ni` meets its contract. Assumes nothing.
use mathlib.Core.Path.{sym}
use Rattle.plan_words.proofs.Said.{node_ni}
use Rattle.plan_words.proofs.read.ni.Goals as goal

pub returns : goal.returns
returns c = sym (node_ni _)
