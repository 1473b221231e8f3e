-- `changeover::fail_open` meets its contract: a COO and T2, or T1 where it isn't made.
-- Assumes nothing.
use Rattle.plan_words.specs.Words.{plan_at}
use Rattle.replies.specs.Areas.{areas}
use Rattle.changeover.proofs.Failing.{open_fails}
use Rattle.changeover.proofs.fail_open.Goals as goal

pub returns : goal.returns
returns c =
    let a = c.args in
    let order = c.order_of-order in
    let m = c.make-sent in
    open_fails (plan_at a.plan.now)
    (areas a.links.now a.marks.now a.spans.now a.rings.now a.rows.now a.arrivals.now a.reports.now) a.link
    order.result order.ensures m.result m.new.spans m.new.rings m.new.rows m.new.arrivals
    (m.ensures.value, m.ensures.number, m.ensures.arrivals_value) c.unwrap_or.result c.unwrap_or.ensures c.load_link-known.result
    c.load_link-known.ensures c.changing.result c.changing.ensures c.store_link.new.links c.store_link.ensures c.done.result c.done.ensures
