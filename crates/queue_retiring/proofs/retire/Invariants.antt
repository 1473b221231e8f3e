-- The loop of `queue_retiring::retire`: what is left to retire comes to the whole.
use Rattle.std.proofs.Common.{◌≡◌, ◌-◌}
use Rattle.queue_heads.specs.Head.{Queues, both, freed, repeat}
use Rattle.queue_retiring.specs.Leave.{retired}
use Rattle.queue_retiring.proofs.retire.Given as goal

abbrev pub invariant-loop : goal.invariant-loop
invariant-loop l =
    repeat (λ (q : Queues). freed q l.ring) (l.many - l.counter) (both l.spans l.rings)
    ≡ retired l.ring l.many (both l.initial.spans l.initial.rings)
