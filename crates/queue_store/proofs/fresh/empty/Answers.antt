-- `queue_store::fresh::empty` meets its contract: every word is 0.
-- Assumes nothing.
use mathlib.Core.Path.{◌∙◌}
use Rattle.queue_store.proofs.Emptying.{all_emptied}
use Rattle.queue_store.proofs.fresh.empty.Goals as goal

pub returns : goal.returns
returns c = c.fill.ensures.after (λ y same. same) ∙ all_emptied c.args.spans.now 70 c.told-spans
