-- `changeback_service::service_reply` meets its contract: what it answers has the number of the reply, so it is what that reply decides.
-- Assumes nothing.
use Rattle.replies.proofs.Numbers.{by_number}
use Rattle.changeback_service.proofs.Replying.{no_such_link, area_short, not_configured, not_out, can_come}
use Rattle.changeback_service.proofs.service_reply.Goals as goal

pub returns-then-link-ge-LINKS-clause-value : goal.returns-then-link-ge-LINKS-clause-value
returns-then-link-ge-LINKS-clause-value c = by_number _ _ (no_such_link _ _ _ _ c.if-link-ge-LINKS.true)

pub returns-then-short-clause-value : goal.returns-then-short-clause-value
returns-then-short-clause-value c = by_number _ _ (area_short _ _ _ _ _ c.short.ensures c.if-short.true)

pub returns-then-not-is_link-clause-value : goal.returns-then-not-is_link-clause-value
returns-then-not-is_link-clause-value c =
    by_number _ _
    (not_configured _ _ _ _ _ c.short.ensures c.if-link-ge-LINKS.false c.if-short.false _ c.is_link.ensures c.if-not-is_link.true)

pub returns-then-known-gt-OUT-clause-value : goal.returns-then-known-gt-OUT-clause-value
returns-then-known-gt-OUT-clause-value c =
    by_number _ _
    (not_out _ _ _ _ _ c.short.ensures c.if-link-ge-LINKS.false c.if-short.false _ c.is_link.ensures c.if-not-is_link.false _
    c.load_link-known.ensures c.if-known-gt-OUT.true)

pub returns-clause-value : goal.returns-clause-value
returns-clause-value c =
    by_number _ _
    (can_come _ _ _ _ _ c.short.ensures c.if-link-ge-LINKS.false c.if-short.false _ c.is_link.ensures c.if-not-is_link.false _
    c.load_link-known.ensures c.if-known-gt-OUT.false)
