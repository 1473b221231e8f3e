-- The queues are searched in order. Assumes nothing.
use mathlib.Core.Path.{sym, ◌∙◌}
use mathlib.Core.Bool.{Bool}
use Prim.Native.Nat.{ℕ}
use Rattle.fate_places.specs.Places.{Held, held_of, stands, nowhere, queue_with}
use Rattle.fate_places.proofs.Seek.{sought_none, sought_on, sought_hit, sought_end}
use Rattle.fate_places.proofs.queue_of.Goals as goal

abbrev test : Held → ℕ → ℕ → Bool
test h arrival queue = stands h queue arrival

pub loop-queue-init : goal.loop-queue-init
loop-queue-init c = sought_none _ _ _ _

pub returns-then-stands : goal.returns-then-stands
unfolding queue_with
returns-then-stands c =
    let a = c.args in
    let l = c.loop-queue in
    sought_hit (test (held_of a.held) a.arrival) (λ (k : ℕ). k) nowhere 33 l.queue l.invariant c.loop-queue-test.true
    (sym c.stands.ensures ∙ c.if-stands.true)

pub loop-queue-preserved : goal.loop-queue-preserved
loop-queue-preserved c =
    let a = c.args in
    let l = c.loop-queue in
    sought_on (test (held_of a.held) a.arrival) (λ (k : ℕ). k) nowhere 33 l.queue l.invariant c.loop-queue-test.true
    (sym c.stands.ensures ∙ c.if-stands.false)

pub returns : goal.returns
unfolding queue_with
returns c =
    let a = c.args in
    let l = c.loop-queue in
    sought_end (test (held_of a.held) a.arrival) (λ (k : ℕ). k) nowhere 33 l.queue l.invariant c.loop-queue-test.false
