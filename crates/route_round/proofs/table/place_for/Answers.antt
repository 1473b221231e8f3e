-- `route_round::table::place_for` meets its contract: the digit of a word is the table's entry.
-- Assumes nothing.
use mathlib.Core.Path.{◌≡◌, ap, ◌∙◌}
use Prim.Native.Nat.{ℕ, ◌+◌, ◌*◌, ◌/◌, ◌%◌, ◌^◌, ◌<◌}
use native.Mathlib.Omega.{arith}
use borrow.Author.Tests.{lt-ltb}
use Rattle.route_round.specs.Table.{digits, word}
use Rattle.route_round.proofs.Words.{digit_at, entry_of}
use Rattle.route_round.proofs.table.place_for.Goals as goal

pub returns : goal.returns
returns c =
    let a = c.args in
    let digit : ℕ = 8 * (a.pattern % 2) + a.start % 8 in
    let at : ℕ = a.pattern / 2 in
    let in_table : at < 128 = omega arith in
    let there : word at ≡ digits 16 (16 * at) = simp (lt-ltb at 128 in_table) in
    ap (λ (w : ℕ). w / 2 ^ (4 * digit) % 16) (c.word.ensures ∙ there)
    ∙ digit_at digit 16 (16 * at) (omega arith)
    ∙ entry_of a.pattern a.start
