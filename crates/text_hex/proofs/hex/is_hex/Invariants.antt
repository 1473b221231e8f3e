-- `text_hex::hex::is_hex` meets its contract. The loop's invariant: what is left from the pair on is hex if and only if the text is.
-- Assumes nothing.
use mathlib.Core.Path.{◌≡◌}
use Prim.Native.Nat.{◌*◌}
use lib.ListN.{drop}
use Rattle.text_hex.specs.Hex.{is_hex}
use Rattle.text_hex.proofs.hex.is_hex.Given as goal

abbrev pub invariant-loop-i : goal.invariant-loop-i
invariant-loop-i l = is_hex (drop (2 * l.i) l.text) ≡ is_hex l.text
