-- `route_choice::choose` meets its contract: past the last destination there is no link, and else its routes and the sets say it.
-- Assumes nothing.
use native.Mathlib.Omega.{arith}
use Rattle.plan_words.specs.Words.{plan_at}
use Rattle.plan_words.proofs.Said.{all_destinations}
use Rattle.route_serving.specs.State as State
use Rattle.route_choice.proofs.Ranks.{no_destination}
use Rattle.route_choice.proofs.choose.Goals as goal

pub returns-then-destination-ge64 : goal.returns-then-destination-ge64
returns-then-destination-ge64 c =
    let a = c.args in
    let last = all_destinations a.plan.now in
    no_destination (State.serves a.links.now a.need) (State.is_marked a.marks.now a.destination) (plan_at a.plan.now) a.destination a.sls (omega arith)
