-- `route_pattern::places_of` meets its contract: a set's array has eight places, so no more than eight are taken.
-- Assumes nothing.
use native.Mathlib.Omega.{arith}
use Rattle.plan_words.proofs.Said.{some_links}
use Rattle.route_pattern.proofs.places_of.Goals as goal

pub returns-then-count-lt8 : goal.returns-then-count-lt8
returns-then-count-lt8 c =
    let a = c.args in
    omega (arith, some_links a.plan.now a.set, c.set_count-count.ensures)

pub returns-else-count-lt8 : goal.returns-else-count-lt8
returns-else-count-lt8 c =
    let a = c.args in
    omega (arith, some_links a.plan.now a.set, c.set_count-count.ensures)
