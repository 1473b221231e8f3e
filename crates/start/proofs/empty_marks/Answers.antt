-- `start::empty_marks` meets its contract: every word is 0.
-- Assumes nothing.
use Rattle.std.proofs.Common.{rules}
use Rattle.queue_store.proofs.Emptying.{all_emptied}
use Rattle.start.proofs.empty_marks.Goals as goal

pub returns : goal.returns
returns c = search (rules, all_emptied)
