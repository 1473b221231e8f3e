-- A link that goes out, or none that does, and a link that fails: that is always done, with reply 0. Assumes nothing.
use Prim.Native.Nat.{ℕ}
use mathlib.Core.Bool.{cond}
use mathlib.Core.Path.{◌≡◌, refl}
use lib.Dec.{eqb}
use Rattle.plan.specs.declared.data.Plan.{Plan}
use Rattle.replies.specs.Areas.{Areas, Outcome}
use Rattle.changeover_cuts.specs.declared.Cut.{Cut}
use Rattle.changeover_cuts.specs.Cuts.{cut_none}
use Rattle.changeover_ending.specs.End.{out_of_service}
use Rattle.changeover_failure.specs.Failure.{state_at}
use Rattle.changeover.specs.Fail.{open_failed}
use Rattle.management_steps.specs.declared.Step.{Step}
use Rattle.management_orders.specs.Carry.{ended_by}
use Rattle.promise_table.proofs.Either.{either}

-- an outcome that is done
abbrev Done : Outcome → Type 0
Done o = o.answer.reply ≡ 0

pub out_done : (plan : Plan) (a : Areas) (link : ℕ) (parts : Cut) → (out_of_service plan a link parts).answer.reply ≡ 0
unfolding out_of_service
out_done plan a link parts = refl

pub ended_done : (plan : Plan) (step : Step) (a : Areas) → (ended_by plan step a).answer.reply ≡ 0
unfolding ended_by
ended_done plan step a = either Done step.ends _ _ (out_done plan a step.link step.parts) refl

-- a waiting link that fails goes out, an open one changes
pub failed_done : (plan : Plan) (a : Areas) (link : ℕ)
    → (cond (eqb (state_at a.links link) 1) (out_of_service plan a link cut_none) (open_failed plan a link)).answer.reply ≡ 0
unfolding open_failed
failed_done plan a link = either Done (eqb (state_at a.links link) 1) _ _ (out_done plan a link cut_none) refl
