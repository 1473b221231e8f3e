-- The loop of `rerouting_releasing::release`: what is left comes to the whole.
use Rattle.std.proofs.Common.{◌≡◌, ◌-◌, length}
use Rattle.plan_words.specs.Words.{plan_at}
use Rattle.queue_rings.specs.Ring.{count_of}
use Rattle.queue_heads.specs.Head.{repeat}
use Rattle.queue_retiring.specs.Leave.{state}
use Rattle.queue_moving.specs.Move.{apart}
use Rattle.rerouting_releasing.specs.Release.{released_one, released}
use Rattle.rerouting_releasing.proofs.release.Given as goal

abbrev pub invariant-loop : goal.invariant-loop
invariant-loop l =
    record {
      long : length l.reports ≡ length l.initial.reports;
      whole :
          repeat (released_one (plan_at l.plan) l.links l.marks l.rows l.point) (count_of l.initial.spans apart - l.counter) (state l.spans l.rings l.reports l.reported)
          ≡ released (plan_at l.plan) l.links l.marks l.rows l.point (state l.initial.spans l.initial.rings l.initial.reports l.told);
    }
