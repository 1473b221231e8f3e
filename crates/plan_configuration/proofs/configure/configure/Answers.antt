-- `plan_configuration::configure::configure` meets its contract. The loop's invariant: what is left of the text decides what the whole makes.
-- The measure is what is left.
-- Assumes nothing.
use mathlib.Core.Path.{refl, sym, ◌∙◌}
use native.Mathlib.Omega.{arith}
use Rattle.std.specs.Prelude.{Ok, Err}
use Rattle.plan_building.proofs.Numbers.{over}
use Rattle.plan_configuration.proofs.Lines.{turn_done, turn_faulty, on, whole}
use Rattle.plan_configuration.proofs.configure.configure.Goals as goal

pub returns-then-is_done : goal.returns-then-is_done
returns-then-is_done c =
    let now = c.loop-end in
    let text = c.args.text.now in
    sym (turn_done now.plan now.number text now.at (sym c.is_done.ensures ∙ c.if-is_done.true))
    ∙ now.invariant.same
    ∙ whole text now.invariant.short

pub returns-in-Err : goal.returns-in-Err
returns-in-Err c =
    let now = c.loop-end in
    let text = c.args.text.now in
    let fault = c.in-Err.fault in
    c.faulty-in-Err.ensures
    ∙ sym (turn_faulty now.plan now.number text now.at c.line_from-end.result c.line_from-end.ensures (Err fault) (sym c.in-Err.is ∙ c.add_line.ensures) (sym c.is_done.ensures ∙ c.if-is_done.false) (λ none. omega (arith, over fault, none)))
    ∙ now.invariant.same
    ∙ whole text now.invariant.short

pub loop-end-preserved : goal.loop-end-preserved
loop-end-preserved c =
    let now = c.loop-end in
    on c.args.text.now now.plan now.number now.at now.invariant c.line_from-end.result c.line_from-end.ensures (Ok c.in-Ok.next) (sym c.in-Ok.is ∙ c.add_line.ensures) refl
