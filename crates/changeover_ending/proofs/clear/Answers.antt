-- `changeover_ending::clear` meets its contract: the first are retired, the next dropped, and the rest moved.
-- Assumes nothing.
use Rattle.plan_words.specs.Words.{plan_at}
use Rattle.queue_retiring.specs.Leave.{state}
use Rattle.queue_retiring.proofs.States.{state_is}
use Rattle.changeover_ending.proofs.Ending.{clear_done}
use Rattle.changeover_ending.proofs.clear.Goals as goal

pub returns : goal.returns
returns c =
    let m = c.move_all in
    let d = c.drop_first-dropped in
    let r = c.retire in
    let a = c.args in
    let now = state a.spans.now a.rings.now a.reports.now a.told in
    let done =
    clear_done (plan_at a.plan.now) a.links.now a.marks.now a.rows.now a.link a.parts now r.new.spans
    r.new.rings
    r.ensures
    d.new.spans
    d.new.rings
    d.new.reports
    d.result
    d.ensures
    in
    state_is (state m.new.spans m.new.rings m.new.reports m.result) done m.ensures
