-- `changeback_waiting::expire_wait` meets its contract: what it answers has the number of the reply, so it is what that reply decides.
-- Assumes nothing.
use Rattle.std.proofs.Common.{rules}
use Rattle.replies.proofs.Numbers.{by_number}
use Rattle.changeback_waiting.proofs.expire_wait.Goals as goal

pub returns-in_err-wait_reply-clause-value : goal.returns-in_err-wait_reply-clause-value
returns-in_err-wait_reply-clause-value c = by_number _ _ (search rules)

pub returns-clause-value : goal.returns-clause-value
returns-clause-value c = by_number _ _ (search rules)
