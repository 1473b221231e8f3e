-- `plan_words::find::find` meets its contract: the place, by the two tests on it. Assumes nothing.
use mathlib.Core.Path.{sym, ◌∙◌}
use Prim.Native.Nat.{◌<◌, ◌≤◌}
use native.Mathlib.Omega.{arith}
use Rattle.plan.specs.Find.{given}
use Rattle.plan.proofs.Halving.{stands_there, other_there, none_there}
use Rattle.plan_words.specs.Words.{plan_at}
use Rattle.plan_words.proofs.Said.{code_there}
use Rattle.plan_words.proofs.find.find.Goals as goal
use Rattle.plan_words.proofs.find.find.Goals.{else-place-min-via-then-place-min+else-plan-place, else-place-min-via-else-place-min}

pub returns-then-plan-place : goal.returns-then-plan-place
returns-then-plan-place c =
    let place = c.place_of-place in
    let within : place.result < given (plan_at c.args.plan.now) = omega (arith, c.if-place-min.true, c.count.ensures, c.min.ensures) in
    stands_there (plan_at c.args.plan.now) _ _ place.ensures within
    (sym (code_there c.args.plan.now place.result (omega (arith, within))) ∙ c.if-plan-place.true)

pub returns-else-place-min : goal.returns-else-place-min
returns-else-place-min c =
    let place = c.place_of-place in
    let words = c.args.plan.now in
    elim c.else-place-min.branch [
      | else-place-min-via-then-place-min+else-plan-place w ↦
          let within : place.result < given (plan_at words) = omega (arith, w.if-place-min.true, c.count.ensures, c.min.ensures) in
          other_there (plan_at words) _ _ place.ensures within
          (λ same. w.if-plan-place.false (code_there words place.result (omega (arith, within)) ∙ same))
      | else-place-min-via-else-place-min w ↦
          let past : given (plan_at words) ≤ place.result = omega (arith, w.if-place-min.false, c.count.ensures, c.min.ensures) in
          none_there (plan_at words) _ _ place.ensures past
    ]
