-- `text_hex::hex::spell` meets its contract. The loop's invariant: the area begins with the pairs of digits of the octets passed.
-- Assumes nothing.
use mathlib.Core.Path.{◌≡◌}
use Prim.Native.Nat.{◌*◌}
use Rattle.text_hex.specs.Hex.{hex_of}
use Rattle.text_hex.proofs.Filling.{begun}
use Rattle.text_hex.proofs.hex.spell.Given as goal

abbrev pub invariant-loop-i : goal.invariant-loop-i
invariant-loop-i l = l.out ≡ begun (hex_of l.octets) l.initial.out (2 * l.i)
