-- `start::empty_links` meets its contract: every word is 0.
-- Assumes nothing.
use mathlib.Core.Path.{◌∙◌}
use Rattle.queue_store.proofs.Emptying.{all_emptied}
use Rattle.start.proofs.empty_links.Goals as goal

pub returns : goal.returns
returns c = c.fill.ensures.after (λ y same. same) ∙ all_emptied c.args.links.now 256 c.told-links
