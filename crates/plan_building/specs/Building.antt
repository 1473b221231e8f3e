-- What one statement more leaves: the plan with it, or its first fault in the order 21, 23, 22, 24 (R164); a refused one leaves the plan as it was.
use Rattle.std.specs.Prelude.{◌≡◌, ℕ, Result, Ok, Err}
use Rattle.plan.specs.declared.data.Plan.{Plan}
use Rattle.plan_building.specs.declared.Fault.{Fault}
use Rattle.plan_building.specs.declared.Fault.TheVariants.{WrongLine, OutOfRange, Repeat, NotGiven, Full, NoNode}
use Rattle.plan.specs.Sound.{Sound}

-- the number of a fault (R165 to R175)
abbrev pub number : Fault → ℕ
number WrongLine = 20
number OutOfRange = 21
number Repeat = 22
number NotGiven = 23
number Full = 24
number NoNode = 25

-- the number of the first fault, 0 where there is none
abbrev pub fault_of : Result Plan Fault → ℕ
fault_of (Ok next) = 0
fault_of (Err fault) = number fault

-- the plan with the statement in it, and where it is refused the plan as it was
abbrev pub plan_after : Plan → Result Plan Fault → Plan
plan_after plan (Ok next) = next
plan_after plan (Err fault) = plan

-- a statement leaves a sound plan, and the plan as it was where it is refused
pub record Kept (plan : Plan) (added : Result Plan Fault) : Type 0 where
  pub still_sound : Sound (plan_after plan added)
  pub as_it_was : (fault_of added ≡ 0 → ⊥) → plan_after plan added ≡ plan
