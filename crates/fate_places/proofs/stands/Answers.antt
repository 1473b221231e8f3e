-- The places are searched in order. Assumes nothing.
use borrow.Author.Tests.{eq-eqb, ne_eqb}
use mathlib.Core.Path.{◌≡◌, sym, ap, ◌∙◌}
use mathlib.Core.Bool.{Bool, true, false}
use Prim.Native.Nat.{ℕ}
use lib.Dec.{eqb}
use Rattle.area_slots.specs.declared.Slot.{Slot}
use Rattle.fate_places.specs.Places.{Held, held_of, seek, message_at, stands}
use Rattle.fate_places.proofs.Seek.{sought_none, sought_on, sought_hit, sought_end}
use Rattle.fate_places.proofs.stands.Goals as goal

abbrev test : Held → ℕ → ℕ → ℕ → Bool
test h queue arrival place = eqb (message_at h queue place).arrival arrival

pub loop-place-init : goal.loop-place-init
loop-place-init c = (c.places-many.ensures, sought_none _ _ _ _)

pub returns-then-known-arrival : goal.returns-then-known-arrival
unfolding stands
returns-then-known-arrival c =
    let a = c.args in
    let l = c.loop-place in
    let h = held_of a.held in
    let is : (message_at h a.queue l.place).arrival ≡ a.arrival = ap (λ (s : Slot). s.arrival) (sym c.message_at-known.ensures) ∙ c.if-known-arrival.true in
    sought_hit (test h a.queue a.arrival) (λ (k : ℕ). true) false _ l.place l.invariant.1 c.loop-place-test.true (eq-eqb _ _ is)
    ∙ ap (seek (test h a.queue a.arrival) (λ (k : ℕ). true) false 0) l.invariant.0

pub loop-place-preserved : goal.loop-place-preserved
loop-place-preserved c =
    let a = c.args in
    let l = c.loop-place in
    let h = held_of a.held in
    let same = ap (λ (s : Slot). s.arrival) (sym c.message_at-known.ensures) in (
      l.invariant.0,
      sought_on (test h a.queue a.arrival) (λ (k : ℕ). true) false _ l.place l.invariant.1 c.loop-place-test.true
          (ne_eqb _ _ (λ e. c.if-known-arrival.false (sym same ∙ e))),
    )

pub returns : goal.returns
unfolding stands
returns c =
    let a = c.args in
    let l = c.loop-place in
    let h = held_of a.held in
    sought_end (test h a.queue a.arrival) (λ (k : ℕ). true) false _ l.place l.invariant.1 c.loop-place-test.false
    ∙ ap (seek (test h a.queue a.arrival) (λ (k : ℕ). true) false 0) l.invariant.0
