-- `plan_repeats::taken::adjacent_taken` meets its contract: the sets are gone over in order. Assumes nothing.
use Rattle.std.proofs.Common.{rules, tests, eqb}
use mathlib.Core.Bool.{◌&&◌}
use mathlib.Core.Path.{◌∙◌}
use Rattle.std.proofs.lemmas.Iterator.{YieldsList-from_slice}
use Rattle.std.proofs.lemmas.Iterator.Search.{any_from_yields_List}
use Rattle.plan.specs.declared.data.LinkSet.{LinkSet}
use Rattle.plan_repeats.proofs.Searches.{any_one}
use Rattle.plan_repeats.proofs.taken.adjacent_taken.Goals as goal

pub returns : goal.returns
returns c =
    any_from_yields_List (λ (those : LinkSet). those.given && eqb those.adjacent c.args.adjacent) _ _ _ c.any.ensures.ran (YieldsList-from_slice c.args.sets (search rules)) (λ x b q k. search (rules, tests))
    ∙ any_one _ c.args.sets
