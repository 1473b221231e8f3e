-- The loop of `queue_moving::move_all`: what is left comes to the whole.
use Rattle.std.proofs.Common.{◌≡◌, ◌-◌, length}
use Rattle.plan_words.specs.Words.{plan_at}
use Rattle.queue_rings.specs.Ring.{count_of}
use Rattle.queue_heads.specs.Head.{repeat}
use Rattle.queue_retiring.specs.Leave.{state}
use Rattle.queue_moving.specs.Move.{moved_one, moved_all}
use Rattle.queue_moving.proofs.move_all.Given as goal

abbrev pub invariant-loop : goal.invariant-loop
invariant-loop l =
    record {
      long : length l.reports ≡ length l.initial.reports;
      whole :
          repeat (moved_one (plan_at l.plan) l.links l.marks l.rows l.ring) (count_of l.initial.spans l.ring - l.counter) (state l.spans l.rings l.reports l.reported)
          ≡ moved_all (plan_at l.plan) l.links l.marks l.rows l.ring (state l.initial.spans l.initial.rings l.initial.reports l.told);
    }
