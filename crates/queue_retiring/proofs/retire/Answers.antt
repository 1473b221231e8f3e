-- `queue_retiring::retire` meets its contract: a turn gives up one, and with none left the whole is reached.
-- Assumes nothing.
use native.Mathlib.Omega.{arith}
use Rattle.queue_heads.specs.Head.{Queues, both, freed}
use Rattle.queue_retiring.specs.Leave.{retired}
use Rattle.queue_heads.proofs.Turns.{turn_done, turns_done}
use Rattle.queue_retiring.proofs.retire.Goals as goal

pub loop-preserved : goal.loop-preserved
loop-preserved c =
    let l = c.loop in
    let a = c.args in
    let whole = retired a.ring a.many (both a.spans.now a.rings.now) in
    turn_done (λ (q : Queues). freed q a.ring) a.many l.counter (both l.spans l.rings) whole l.invariant (omega arith)
    c.free_head.ensures.rings_value

pub returns : goal.returns
returns c =
    let l = c.loop in
    let a = c.args in
    let whole = retired a.ring a.many (both a.spans.now a.rings.now) in
    turns_done (λ (q : Queues). freed q a.ring) a.many l.counter (both l.spans l.rings) whole l.invariant (omega arith)
