-- `text_hex::hex::fill` meets its contract. The loop's invariant: the area begins with the octets of the pairs passed.
-- Assumes nothing.
use mathlib.Core.Path.{◌≡◌}
use Rattle.text_hex.specs.Hex.{octets_of}
use Rattle.text_hex.proofs.Filling.{begun}
use Rattle.text_hex.proofs.hex.fill.Given as goal

abbrev pub invariant-loop-i : goal.invariant-loop-i
invariant-loop-i l = l.out ≡ begun (octets_of l.text) l.initial.out l.i
