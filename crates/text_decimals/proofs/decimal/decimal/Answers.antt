-- `text_decimals::decimal::decimal` meets its contract: it reads digit by digit.
-- Assumes nothing.
use mathlib.Core.Path.{◌≡◌, sym, ◌∙◌}
use Prim.Native.Nat.{◌+◌, ◌<◌}
use native.Mathlib.Omega.{arith}
use lib.ListN.{length, drop, get_or}
use Rattle.std.specs.Prelude.{Some, None}
use Rattle.text_decimals.proofs.Decimals.{read_wrong, read_on, read_end, read_plain}
use Rattle.text_decimals.specs.Decimal.{digit_on}
use Rattle.text_decimals.proofs.decimal.decimal.Goals as goal
use Rattle.text_decimals.proofs.decimal.decimal.Goals.{else-text-gt1-via-then-text-gt1+else-text-eq48, else-text-gt1-via-else-text-gt1}

pub loop-octet-init : goal.loop-octet-init
loop-octet-init c =
    let a = c.args in
    let front : 1 < length a.text.now → get_or a.text.now 0 0 ≡ 48 → ⊥ =
    elim c.else-text-gt1.branch [ else-text-gt1-via-then-text-gt1+else-text-eq48 w ↦ λ more zero. omega arith | else-text-gt1-via-else-text-gt1 w ↦ λ more zero. omega arith ]
    in
    read_plain a.text.now a.top (omega arith) front

pub returns-in_err-value : goal.returns-in_err-value
returns-in_err-value c =
    let l = c.loop-octet in
    let a = c.args in
    let wrong : None ≡ digit_on l.value (get_or a.text.now l.octet-index 0) a.top = sym c.in_err-value.was ∙ c.with_digit.ensures in
    let none : c.from_residual.result ≡ None = search in
    none ∙ sym (read_wrong (drop (l.octet-index + 1) a.text.now) a.top)
    ∙ read_on a.text.now l.octet-index l.value a.top _ _ c.loop-octet-test.true wrong l.invariant

pub loop-octet-preserved : goal.loop-octet-preserved
loop-octet-preserved c =
    let l = c.loop-octet in
    let a = c.args in
    let longer : Some c.in_ok-value.value ≡ digit_on l.value (get_or a.text.now l.octet-index 0) a.top = sym c.in_ok-value.was ∙ c.with_digit.ensures in
    read_on a.text.now l.octet-index l.value a.top _ _ c.loop-octet-test.true longer l.invariant

pub returns : goal.returns
returns c =
    let l = c.loop-octet in
    let a = c.args in
    sym (read_end a.text.now l.octet-index l.value a.top (omega arith)) ∙ l.invariant
