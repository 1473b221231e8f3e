-- `rerouting_releasing::release` meets its contract: a turn takes the next, and with none left the whole is reached.
-- Assumes nothing.
use native.Mathlib.Omega.{arith}
use Rattle.std.proofs.lemmas.Grind.{common_steps}
use Rattle.plan_words.specs.Words.{plan_at}
use Rattle.queue_rings.specs.Ring.{count_of}
use Rattle.queue_retiring.specs.Leave.{state}
use Rattle.queue_heads.proofs.Turns.{turn_done, turns_done}
use Rattle.queue_moving.specs.Move.{apart}
use Rattle.rerouting_releasing.specs.Release.{released_one, released}
use Rattle.rerouting_releasing.proofs.release.Goals as goal

pub loop-preserved : goal.loop-preserved
loop-preserved c =
    let l = c.loop in
    let a = c.args in
    let m = c.release_one-reported in
    let step = released_one (plan_at a.plan.now) a.links.now a.marks.now a.rows.now a.point in
    let now = state l.spans l.rings l.reports l.reported in
    let start = state a.spans.now a.rings.now a.reports.now a.told in
    let many = count_of a.spans.now apart in
    let whole = released (plan_at a.plan.now) a.links.now a.marks.now a.rows.now a.point start in
    let next = state m.new.spans m.new.rings m.new.reports m.result in
    record {
      long = grind (arith, common_steps);
      whole = turn_done step many l.counter now whole l.invariant.whole (omega (arith, c.count-end.ensures)) {next = next} m.ensures;
    }

pub returns : goal.returns
returns c =
    let l = c.loop in
    let a = c.args in
    let step = released_one (plan_at a.plan.now) a.links.now a.marks.now a.rows.now a.point in
    let now = state l.spans l.rings l.reports l.reported in
    let start = state a.spans.now a.rings.now a.reports.now a.told in
    let many = count_of a.spans.now apart in
    let whole = released (plan_at a.plan.now) a.links.now a.marks.now a.rows.now a.point start in
    turns_done step many l.counter now whole l.invariant.whole (omega (arith, c.count-end.ensures))
