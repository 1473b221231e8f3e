-- A node line and a set line put into the plan.
use Rattle.std.specs.Prelude.{ℕ, true, cond, ◌||◌, List, set, replicate, eqb, ltb, Result, Ok, Err}
use Rattle.plan.specs.declared.data.Plan.{Plan}
use Rattle.plan.specs.declared.data.LinkSet.{LinkSet}
use Rattle.plan.specs.Data.{set_at}
use Rattle.plan_repeats.specs.Taken.{adjacent_taken}
use Rattle.plan_building.specs.declared.Fault.{Fault}
use Rattle.plan_building.specs.declared.Fault.TheVariants.{OutOfRange, Repeat}

-- `node code ni`: "22 a repeat (node line" (R169); a number out of range is told before (R14, R164, R167)
abbrev pub add_node : Plan → ℕ → ℕ → Result Plan Fault
add_node plan code ni =
    cond (ltb 16383 code || ltb 3 ni) (Err OutOfRange)
    (cond plan.given (Err Repeat)
    (Ok
    (record {
      given = true;
      code = code;
      ni = ni;
      count = plan.count;
      sets = plan.sets;
      links = plan.links;
      destinations = plan.destinations;
    })))

-- the plan with these sets
abbrev pub with_sets : Plan → List LinkSet → Plan
with_sets plan sets =
    record {
      given = plan.given;
      code = plan.code;
      ni = plan.ni;
      count = plan.count;
      sets = sets;
      links = plan.links;
      destinations = plan.destinations;
    }

-- a set with no links yet
abbrev pub new_set : ℕ → LinkSet
new_set adjacent = record { given = true; adjacent = adjacent; count = 0; links = replicate 8 0 }

-- `set number adjacent`: "22 a repeat (.. set number, adjacent code ..) or our own code" (R170, R173); the sizes are R9 and R14
abbrev pub add_set : Plan → ℕ → ℕ → Result Plan Fault
add_set plan number adjacent =
    cond (ltb 7 number || ltb 16383 adjacent) (Err OutOfRange)
    (cond ((set_at plan number).given || (adjacent_taken plan.sets adjacent || eqb adjacent plan.code)) (Err Repeat)
    (Ok (with_sets plan (set plan.sets number (new_set adjacent)))))
