-- The loop of `queue_retiring::drop_first`: what is left to drop comes to the whole.
use Rattle.std.proofs.Common.{◌≡◌, ◌-◌, length}
use Rattle.queue_heads.specs.Head.{repeat}
use Rattle.queue_retiring.specs.Leave.{state, dropped_one, dropped}
use Rattle.queue_retiring.proofs.drop_first.Given as goal

abbrev pub invariant-loop-dropped : goal.invariant-loop-dropped
invariant-loop-dropped l =
    record {
      long : length l.reports ≡ length l.initial.reports;
      whole :
          repeat (dropped_one l.rows l.ring l.reason) (l.many - l._dropped) (state l.spans l.rings l.reports l.told)
          ≡ dropped l.rows l.ring l.reason l.many (state l.initial.spans l.initial.rings l.initial.reports l.count);
    }
