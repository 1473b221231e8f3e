-- `text_decimals::decimal::spell` meets its contract. The loop's invariant: the digits of what is left, put in front of those stored, are the
-- number's decimal, and what is left has no more digits than there are places. The measure is what is left.
-- Assumes nothing.
use mathlib.Core.Path.{◌≡◌}
use Prim.Native.Nat.{◌+◌, ◌^◌, ◌≤◌, ◌<◌}
use lib.ListN.{length, drop}
use Rattle.text_decimals.specs.Decimal.{digits_on, decimal_of}
use Rattle.text_decimals.proofs.decimal.spell.Given as goal

abbrev pub invariant-loop-rest : goal.invariant-loop-rest
invariant-loop-rest l = (l.at ≤ 19) × ((l.rest < 10 ^ (l.at + 1)) × ((length l.digits ≡ 20) ×
    (digits_on (l.at + 1) l.rest (drop (l.at + 1) l.digits) ≡ decimal_of l.value)))

abbrev pub decreases-loop-rest : goal.decreases-loop-rest
decreases-loop-rest l = l.rest
