-- `plan_repeats::taken::set_taken` meets its contract: the routes are gone over in order. Assumes nothing.
use Rattle.std.proofs.Common.{rules, tests, eqb}
use mathlib.Core.Bool.{◌&&◌}
use mathlib.Core.Path.{◌∙◌}
use Rattle.std.proofs.lemmas.Iterator.{YieldsList-from_slice}
use Rattle.std.proofs.lemmas.Iterator.Search.{any_from_yields_List}
use Rattle.plan.specs.declared.data.Route.{Route}
use Rattle.plan_repeats.proofs.Searches.{any_one}
use Rattle.plan_repeats.proofs.taken.set_taken.Goals as goal

pub returns : goal.returns
returns c =
    any_from_yields_List (λ (route : Route). route.given && eqb route.set c.args.set) _ _ _ c.any.ensures.ran (YieldsList-from_slice c.args.routes (search rules)) (λ x b q k. search (rules, tests))
    ∙ any_one _ c.args.routes
