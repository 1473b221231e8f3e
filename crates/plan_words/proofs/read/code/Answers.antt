-- `plan_words::read::code` meets its contract. Assumes nothing.
use mathlib.Core.Path.{sym}
use Rattle.plan_words.proofs.Said.{node_code}
use Rattle.plan_words.proofs.read.code.Goals as goal

pub returns : goal.returns
returns c = sym (node_code _)
