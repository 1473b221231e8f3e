-- `plan_configuration::configure::configure` meets its contract. The loop's invariant: what is left of the text decides what the whole makes.
-- The measure is what is left.
-- Assumes nothing.
use Prim.Native.Nat.{◌-◌}
use lib.ListN.{length}
use Rattle.plan_configuration.proofs.Lines.{Reading}
use Rattle.plan_configuration.proofs.configure.configure.Given as goal

abbrev pub invariant-loop-end : goal.invariant-loop-end
invariant-loop-end l = Reading l.text l.plan l.number l.at

abbrev pub decreases-loop-end : goal.decreases-loop-end
decreases-loop-end l = length l.text - l.at
