-- `plan_words::read::link_set` meets its contract. Assumes nothing.
use Rattle.plan_words.proofs.Said.{link_there, link_past}
use Rattle.plan_words.proofs.read.link_set.Goals as goal

pub returns-then-link-ge-LINKS : goal.returns-then-link-ge-LINKS
returns-then-link-ge-LINKS c = let a = c.args in simp (link_past a.plan.now a.link c.if-link-ge-LINKS.true)

pub returns : goal.returns
returns c = let a = c.args in simp (link_there a.plan.now a.link c.if-link-ge-LINKS.false)
