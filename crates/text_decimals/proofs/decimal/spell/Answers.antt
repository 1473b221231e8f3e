-- `text_decimals::decimal::spell` meets its contract. The loop's invariant: the digits of what is left, put in front of those stored, are the
-- number's decimal, and what is left has no more digits than there are places. The measure is what is left.
-- Assumes nothing.
use mathlib.Core.Path.{◌∙◌}
use native.Mathlib.Omega.{arith}
use lib.ListN.{length-set}
use Rattle.text_decimals.proofs.Decimals.{spelled_on, spelled_last}
use Rattle.text_decimals.proofs.decimal.spell.Goals as goal

pub loop-rest-preserved : goal.loop-rest-preserved
loop-rest-preserved c =
    let l = c.loop-rest in
    let turn = spelled_on l.at l.rest l.digits (omega arith) l.invariant.1.0 (omega arith) in
    (omega arith, (turn.1.0, (simp length-set l.invariant.1.1.0, turn.1.1 ∙ l.invariant.1.1.1)))

pub returns-clause-digits_after : goal.returns-clause-digits_after
returns-clause-digits_after c =
    let l = c.loop-rest in
    spelled_last l.at l.rest l.digits (omega arith) (omega arith) ∙ l.invariant.1.1.1
