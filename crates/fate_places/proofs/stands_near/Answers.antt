-- `fate_places::stands_near` meets its contract: a message at a place of a queue stands in it. Assumes nothing.
use borrow.Author.Tests.{eq-eqb}
use mathlib.Core.Path.{◌≡◌, sym, ap, ◌∙◌}
use Prim.Native.Nat.{ℕ}
use native.Mathlib.Omega.{arith}
use lib.Dec.{eqb}
use Rattle.area_slots.specs.declared.Slot.{Slot}
use Rattle.fate_places.specs.Places.{held_of, places, message_at, stands}
use Rattle.fate_places.proofs.Seek.{finds}
use Rattle.fate_places.proofs.stands_near.Goals as goal

pub returns-then-known-arrival : goal.returns-then-known-arrival
unfolding stands
returns-then-known-arrival c =
    let a = c.args in
    let h = held_of a.held in
    let is : (message_at h a.queue a.place).arrival ≡ a.arrival = ap (λ (s : Slot). s.arrival) (sym c.message_at-known.ensures) ∙ c.if-known-arrival.true in
    sym
    (finds (λ (place : ℕ). eqb (message_at h a.queue place).arrival a.arrival) 0 (places h a.queue) a.place (omega arith)
    (omega (arith, c.if-place-many.true, c.places-many.ensures)) (eq-eqb _ _ is))
