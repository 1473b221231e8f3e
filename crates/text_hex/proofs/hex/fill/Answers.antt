-- `text_hex::hex::fill` meets its contract.
-- Assumes nothing.
use mathlib.Core.Path.{◌≡◌, ◌∙◌}
use Prim.Native.Nat.{ℕ, ◌+◌, ◌*◌}
use native.Mathlib.Omega.{arith}
use lib.ListN.{get_or}
use mathlib.Core.List.{List}
use Rattle.text_hex.specs.Hex.{octets_of}
use Rattle.text_hex.proofs.Filling.{begun_next, begun_all}
use Rattle.text_hex.proofs.Octets.{digits_at, octet_at, octets_length}
use Rattle.text_hex.proofs.hex.fill.Goals as goal

pub overflow_mul-out : goal.overflow_mul-out
overflow_mul-out c = omega (arith, digits_at c.args.text.now c.loop-i.i c.requires.text_value c.loop-i-test.true)

pub overflow_add-out : goal.overflow_add-out
overflow_add-out c = omega (arith, digits_at c.args.text.now c.loop-i.i c.requires.text_value c.loop-i-test.true)

pub loop-i-preserved : goal.loop-i-preserved
loop-i-preserved c =
    let a = c.args in
    let l = c.loop-i in
    let octets : List ℕ = octets_of a.text.now in
    let next : c.nibble.result * 16 + c.nibble-in-loop-i.result ≡ get_or octets l.i 0 =
    omega (arith, octet_at a.text.now l.i c.loop-i-test.true)
    in
    begun_next octets a.out.now l.out l.i _ l.invariant next (omega (arith, octets_length a.text.now)) (omega arith)

pub returns : goal.returns
returns c =
    let l = c.loop-i in
    let a = c.args in
    l.invariant ∙ begun_all (octets_of a.text.now) a.out.now l.i (omega (arith, octets_length a.text.now))
