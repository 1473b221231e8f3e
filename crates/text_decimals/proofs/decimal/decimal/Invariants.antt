-- `text_decimals::decimal::decimal` meets its contract. The loop's invariant: what is left from the place on, read behind the value so far, says
-- what the text says.
-- Assumes nothing.
use mathlib.Core.Path.{◌≡◌}
use lib.ListN.{drop}
use Rattle.std.specs.Prelude.{Some}
use Rattle.text_decimals.specs.Decimal.{number_of}
use Rattle.text_decimals.proofs.Decimals.{read}
use Rattle.text_decimals.proofs.decimal.decimal.Given as goal

abbrev pub invariant-loop-octet : goal.invariant-loop-octet
invariant-loop-octet l = read (Some l.value) (drop l.octet-index l.text) l.top ≡ number_of l.text l.top
