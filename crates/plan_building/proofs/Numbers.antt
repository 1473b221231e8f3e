-- No fault has the number 0, which says that there is none. Assumes nothing.
use Prim.Native.Nat.{◌<◌}
use native.Mathlib.Omega.{arith}
use Rattle.plan_building.specs.declared.Fault.{Fault}
use Rattle.plan_building.specs.declared.Fault.TheVariants.{WrongLine, OutOfRange, Repeat, NotGiven, Full, NoNode}
use Rattle.plan_building.specs.Building.{number}

pub over : (fault : Fault) → 0 < number fault
over WrongLine = omega arith
over OutOfRange = omega arith
over Repeat = omega arith
over NotGiven = omega arith
over Full = omega arith
over NoNode = omega arith
