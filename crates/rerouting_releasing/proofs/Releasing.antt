-- What a release of one message leaves, from what the code finds there.
-- Assumes nothing.
use mathlib.Core.Path.{◌≡◌, sym, ap, ◌∙◌}
use mathlib.Core.List.{List}
use Prim.Native.Nat.{ℕ, ◌%◌}
use borrow.Author.Tests.{eq-eqb, ne_eqb}
use Rattle.plan.specs.declared.data.Plan.{Plan}
use Rattle.area_slots.specs.SlotRows.{slot_at}
use Rattle.area_slots.specs.declared.Slot.{Slot}
use Rattle.queue_rings.specs.declared.ring.Taken.{Taken}
use Rattle.queue_rings.specs.Ring.{at_of}
use Rattle.queue_heads.specs.Head.{head_of}
use Rattle.queue_retiring.specs.Leave.{State}
use Rattle.queue_moving.specs.Move.{point_of, moved_one, apart}
use Rattle.queue_moving.proofs.Moving.{is_head, moved_to}
use Rattle.rerouting_releasing.specs.Release.{released_one}

-- those held apart were looked at, and the row of the first was loaded
module _
    (plan : Plan)
    (links marks rows : List ℕ)
    (now : State)
    (point : ℕ)
    (head : Taken)
    (looked : head ≡ at_of now.queues.spans now.queues.rings apart 0)
    (known : Slot)
    (loaded : known ≡ slot_at rows head.slot) where
  goal_point : point_of rows (head_of now.queues apart).slot ≡ known.point % 16384
  goal_point =
      sym
      (ap (λ (s : Slot). s.point % 16384) loaded
      ∙ ap (λ (t : Taken). point_of rows t.slot) (is_head now.queues apart head looked))

  -- one for the point moves
  pub this_released : known.point % 16384 ≡ point
      → moved_one plan links marks rows apart now ≡ released_one plan links marks rows point now
  unfolding released_one
  this_released same = simp (eq-eqb _ point (goal_point ∙ same))

  -- another goes behind the others
  pub other_kept : (known.point % 16384 ≡ point → ⊥)
      → moved_to now apart apart ≡ released_one plan links marks rows point now
  unfolding released_one
  other_kept differs = simp (ne_eqb _ point (λ same. differs (sym goal_point ∙ same)))
