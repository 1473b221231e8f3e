-- What a move of one message leaves, from what the code finds there.
-- Assumes nothing.
use mathlib.Core.Path.{◌≡◌, sym, ap, ◌∙◌}
use mathlib.Core.Bool.{true, false}
use mathlib.Core.List.{List}
use Prim.Native.Nat.{ℕ, ◌%◌, ◌≤◌, ◌<◌}
use borrow.Author.Tests.{lt-ltb, le-ltb}
use Rattle.plan.specs.declared.data.Plan.{Plan}
use Rattle.area_slots.specs.SlotRows.{slot_at}
use Rattle.area_slots.specs.declared.Slot.{Slot}
use Rattle.queue_rings.specs.declared.ring.Taken.{Taken}
use Rattle.queue_rings.specs.Ring.{at_of, take_of}
use Rattle.route_serving.specs.declared.Need.{Need}
use Rattle.route_choice.specs.Which.{none}
use Rattle.route_ways.specs.Way.{for_users, for_management, way_of}
use Rattle.queue_heads.specs.Head.{Queues, head_of, moved}
use Rattle.queue_retiring.specs.Leave.{State, dropped_one}
use Rattle.queue_moving.specs.Move.{need_of, goes_to, moved_one}

-- slots below 192 need what user messages need, the others what management messages do
pub users_need : (slot : ℕ) → slot < 192 → for_users ≡ need_of slot
users_need slot h = simp (lt-ltb slot 192 h)

pub managements_need : (slot : ℕ) → 192 ≤ slot → for_management none ≡ need_of slot
managements_need slot h = simp (le-ltb slot 192 h)

-- what the code found at the first place of a ring is its head
pub is_head : (queues : Queues) (ring : ℕ) (head : Taken) → head ≡ at_of queues.spans queues.rings ring 0
    → head ≡ head_of queues ring
unfolding head_of take_of
is_head queues ring head looked = looked

-- the state after a move, of which nothing is reported
abbrev pub moved_to : State → ℕ → ℕ → State
moved_to now from to = record { queues = moved now.queues from to; log = now.log }

module _ (plan : Plan) (links marks rows : List ℕ) where
  -- the way of a message by its row is where it goes to
  pub way_goes : (slot : ℕ) (known : Slot) → known ≡ slot_at rows slot → (need : Need) → need ≡ need_of slot → (link : ℕ)
      → link ≡ way_of plan links marks need (known.point % 16384) (known.sls % 16)
      → link ≡ goes_to plan links marks rows slot
  unfolding goes_to
  way_goes slot known loaded need needed link way =
      way
      ∙ ap (λ (n : Need). way_of plan links marks n (known.point % 16384) (known.sls % 16)) needed
      ∙ ap (λ (s : Slot). way_of plan links marks (need_of slot) (s.point % 16384) (s.sls % 16)) loaded

  -- a ring was looked at
  module _
      (now : State)
      (ring : ℕ)
      (head : Taken)
      (looked : head ≡ at_of now.queues.spans now.queues.rings ring 0) where
    -- where it has no head nothing moves
    pub none_moved : head.found ≡ false → now ≡ moved_one plan links marks rows ring now
    unfolding moved_one
    none_moved gone =
        let is = is_head now.queues ring head looked in
        let found : (head_of now.queues ring).found ≡ false = sym (ap (λ (t : Taken). t.found) is) ∙ gone in
        simp found

    -- a head goes to its link
    module _ (there : head.found ≡ true) (link : ℕ) (goes : link ≡ goes_to plan links marks rows head.slot) where
      found : (head_of now.queues ring).found ≡ true
      found = sym (ap (λ (t : Taken). t.found) (is_head now.queues ring head looked)) ∙ there

      going : goes_to plan links marks rows (head_of now.queues ring).slot ≡ link
      going =
          sym
          (goes ∙ ap (λ (t : Taken). goes_to plan links marks rows t.slot) (is_head now.queues ring head looked))

      pub head_moved : link < 32 → moved_to now ring link ≡ moved_one plan links marks rows ring now
      unfolding moved_one
      head_moved h = simp (found, going, lt-ltb link 32 h)

      -- "one with no route is dropped, reason 1"
      pub head_dropped : 32 ≤ link → dropped_one rows ring 1 now ≡ moved_one plan links marks rows ring now
      unfolding moved_one
      head_dropped h = simp (found, going, le-ltb link 32 h)
