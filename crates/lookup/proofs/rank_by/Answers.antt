-- `lookup::rank_by` meets its contract. Assumes nothing.
use borrow.Author.Tests.{lt-ltb, le-ltb}
use mathlib.Core.Path.{◌∙◌}
use Rattle.plan_words.specs.Words.{plan_at}
use Rattle.plan_words.proofs.Said.{routes_within}
use Rattle.lookup.specs.Lookup.{rank_by}
use Rattle.lookup.proofs.Walks.{rank_found}
use Rattle.lookup.proofs.rank_by.Goals as goal

pub returns-then-destination-ge64 : goal.returns-then-destination-ge64
unfolding rank_by
returns-then-destination-ge64 c = simp (le-ltb _ _ c.if-destination-ge64.true)

pub returns : goal.returns
unfolding rank_by
returns c =
    let a = c.args in
    let within = c.if-destination-ge64.false in
    simp (
      c.unwrap_or.ensures,
      c.rank_among.ensures,
      rank_found,
      c.destination_routes.ensures ∙ routes_within (plan_at a.plan.now) a.destination within,
      lt-ltb _ _ within,
    )
