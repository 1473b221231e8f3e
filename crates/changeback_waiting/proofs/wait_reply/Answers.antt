-- `changeback_waiting::wait_reply` meets its contract: the last row of the table, where the link is there and T3 or T4 expires.
-- Assumes nothing.
use mathlib.Core.Bool.{Bool, cond}
use mathlib.Core.Path.{sym, ap, ◌∙◌}
use Rattle.changeback_waiting.proofs.Expiry.{by_running}
use Rattle.changeback_waiting.proofs.wait_reply.Goals as goal

pub returns-then-not-runs : goal.returns-then-not-runs
returns-then-not-runs c =
    ap (λ (t : Bool). cond t 0 5) (sym c.if-not-runs.true)
    ∙ by_running _ _ _ _ c.if-link-ge-LINKS.false c.if-timer-lt3.false c.if-timer-gt4.false _ _
    (sym c.is_link.ensures ∙ c.if-not-is_link.false) c.load_link-known.ensures c.runs.ensures

pub returns : goal.returns
returns c =
    ap (λ (t : Bool). cond t 0 5) (sym c.if-not-runs.false)
    ∙ by_running _ _ _ _ c.if-link-ge-LINKS.false c.if-timer-lt3.false c.if-timer-gt4.false _ _
    (sym c.is_link.ensures ∙ c.if-not-is_link.false) c.load_link-known.ensures c.runs.ensures
