-- `queue_retiring::drop_first` meets its contract: a turn drops one, and with none left the whole is reached.
-- Assumes nothing.
use native.Mathlib.Omega.{arith}
use Rattle.std.proofs.lemmas.Grind.{common_steps}
use Rattle.queue_retiring.specs.Leave.{state, dropped_one, dropped}
use Rattle.queue_heads.proofs.Turns.{turn_done, turns_done}
use Rattle.queue_retiring.proofs.drop_first.Goals as goal

pub loop-dropped-preserved : goal.loop-dropped-preserved
loop-dropped-preserved c =
    let l = c.loop-dropped in
    let a = c.args in
    let d = c.drop_head-told in
    let step = dropped_one a.rows.now a.ring a.reason in
    let now = state l.spans l.rings l.reports l.told in
    let start = state a.spans.now a.rings.now a.reports.now a.count in
    let whole = dropped a.rows.now a.ring a.reason a.many start in
    let next = state d.new.spans d.new.rings d.new.reports d.result in
    record {
      long = grind (arith, common_steps);
      whole = turn_done step a.many l._dropped now whole l.invariant.whole (omega arith) {next = next} d.ensures;
    }

pub returns : goal.returns
returns c =
    let l = c.loop-dropped in
    let a = c.args in
    let step = dropped_one a.rows.now a.ring a.reason in
    let now = state l.spans l.rings l.reports l.told in
    let start = state a.spans.now a.rings.now a.reports.now a.count in
    let whole = dropped a.rows.now a.ring a.reason a.many start in
    turns_done step a.many l._dropped now whole l.invariant.whole (omega arith)
