-- `text_hex::hex::spell` meets its contract.
-- Assumes nothing.
use mathlib.Core.Path.{◌≡◌, sym, ap, ◌∙◌}
use Prim.Native.Nat.{ℕ, ◌+◌, ◌*◌}
use native.Mathlib.Omega.{arith}
use lib.ListN.{length}
use mathlib.Core.List.{List}
use Rattle.text_hex.specs.Hex.{hex_of}
use Rattle.text_hex.proofs.Filling.{begun, begun_next, begun_all}
use Rattle.text_hex.proofs.Octets.{high_at, low_at, hex_length}
use Rattle.text_hex.proofs.hex.spell.Goals as goal

pub loop-i-preserved : goal.loop-i-preserved
loop-i-preserved c =
    let a = c.args in
    let l = c.loop-i in
    let hex : List ℕ = hex_of a.octets.now in
    let high = c.glyph.ensures ∙ sym (high_at a.octets.now l.i c.loop-i-test.true) in
    let low = c.glyph-in-loop-i.ensures ∙ sym (low_at a.octets.now l.i c.loop-i-test.true) in
    let on : 2 * l.i + 1 + 1 ≡ 2 * (l.i + 1) = omega arith in
    let two : length hex ≡ 2 * length a.octets.now = hex_length a.octets.now in
    let one_more = begun_next hex a.out.now l.out (2 * l.i) _ l.invariant high (omega arith) (omega arith) in
    begun_next hex a.out.now _ (2 * l.i + 1) _ one_more low (omega arith) (omega arith) ∙ ap (begun hex a.out.now) on

pub returns : goal.returns
returns c =
    let l = c.loop-i in
    let a = c.args in
    l.invariant ∙ begun_all (hex_of a.octets.now) a.out.now (2 * l.i) (omega (arith, hex_length a.octets.now))
