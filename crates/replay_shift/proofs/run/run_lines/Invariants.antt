-- What is left to run leads where the whole run leads. The measure is what is left of the text.
-- Assumes nothing.
use Rattle.std.proofs.Common.{◌-◌, length}
use Rattle.plan_words.specs.Words.{plan_at}
use Rattle.areas.specs.Lent.{Stays}
use Rattle.node.specs.Memory.{memory_of}
use Rattle.replay_shift.proofs.Going.{Going}
use Rattle.replay_shift.proofs.run.run_lines.Given as goal

abbrev pub invariant-loop-view : goal.invariant-loop-view
invariant-loop-view l =
    Stays l.initial.areas l.areas
    × Going (plan_at l.plan) l.view l.text l.initial.place (memory_of l.initial.areas l.initial.reports l.initial.sent) l.initial.message l.initial.out
    (memory_of l.areas l.reports l.sent) l.message l.out l.place

abbrev pub decreases-loop-view : goal.decreases-loop-view
decreases-loop-view l = length l.text - l.place.at
