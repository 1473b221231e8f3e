-- `changeover_ending::end_service` meets its contract: the link is out before its queue is cleared, and what is told of access comes last.
-- Assumes nothing.
use Rattle.plan_words.specs.Words.{plan_at}
use Rattle.queue_retiring.specs.Leave.{state}
use Rattle.changeover_ending.proofs.Ending.{link_out, end_done}
use Rattle.changeover_ending.proofs.end_service.Goals as goal

pub returns : goal.returns
returns c =
    let r = c.report_changes in
    let e = c.clear-told in
    let s = c.store_link in
    let a = c.args in
    let now = state a.spans.now a.rings.now a.reports.now 0 in
    let out =
    link_out a.links.now a.link c.load_link-known.result c.load_link-known.ensures c.out_of.result c.out_of.ensures s.new.links s.ensures
    in
    record {
      result_value =
          end_done (plan_at a.plan.now) a.links.now a.marks.now a.rows.now a.link a.parts now s.new.links out c.accesses-before.result
          c.accesses-before.ensures
          e.new.spans
          e.new.rings
          e.new.reports
          e.result
          e.ensures
          r.new.reports
          r.result
          (r.ensures.value, r.ensures.reports_after);
      links_value = out;
    }
