-- `text_hex::hex::is_hex` meets its contract.
-- Assumes nothing.
use mathlib.Core.Path.{◌≡◌, sym, ap, ◌∙◌}
use Prim.Native.Nat.{ℕ, ◌*◌, ◌/◌}
use native.Mathlib.Omega.{arith}
use lib.ListN.{length, drop}
use Rattle.text_hex.specs.Hex.{is_hex}
use Rattle.text_hex.proofs.Octets.{hex_on, hex_end, high_wrong, low_wrong}
use Rattle.text_hex.proofs.hex.is_hex.Goals as goal

pub returns-then-nibble-gt15 : goal.returns-then-nibble-gt15
returns-then-nibble-gt15 c = sym (high_wrong c.args.text.now c.loop-i.i c.loop-i-test.true (omega arith)) ∙ c.loop-i.invariant

pub returns-then-nibble-gt15-2 : goal.returns-then-nibble-gt15-2
returns-then-nibble-gt15-2 c = sym (low_wrong c.args.text.now c.loop-i.i c.loop-i-test.true (omega arith)) ∙ c.loop-i.invariant

pub loop-i-preserved : goal.loop-i-preserved
loop-i-preserved c =
    hex_on c.args.text.now c.loop-i.i c.loop-i-test.true (omega arith) (omega arith) ∙ c.loop-i.invariant

pub returns : goal.returns
returns c =
    let text = c.args.text.now in
    let all : length text / 2 ≡ c.loop-i.i = omega arith in
    sym (hex_end text) ∙ ap (λ (k : ℕ). is_hex (drop (2 * k) text)) all ∙ c.loop-i.invariant
