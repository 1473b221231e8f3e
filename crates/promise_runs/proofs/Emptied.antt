-- A ring from which all messages move is empty afterwards: that of an out link, or that of the messages held apart. No other link's queue
-- has fewer messages, and every other out link's has as many.
-- Assumes nothing.
use mathlib.Core.Path.{◌≡◌, sym, ap, ◌∙◌}
use mathlib.Core.List.{List}
use Prim.Native.Nat.{ℕ, ◌<◌}
use native.Mathlib.Omega.{arith}
use lib.Dec.{ltb, eqb}
use borrow.Author.Tests.{ltb-true}
use borrow.Table.Steps.{cases}
use Rattle.plan.specs.declared.data.Plan.{Plan}
use Rattle.area_links.specs.LinkRecords.{record_at}
use Rattle.queue_rings.specs.Ring.{count_of}
use Rattle.queue_rings.proofs.Queues.{found_none}
use Rattle.route_choice.specs.Which.{none}
use Rattle.queue_heads.specs.Head.{head_of}
use Rattle.queue_retiring.specs.Leave.{State}
use Rattle.queue_moving.specs.Move.{point_of, sls_of, need_of, goes_to, moved_one, moved_all, apart}
use Rattle.rerouting_releasing.specs.Release.{released_one, released}
use Rattle.promise_runs.proofs.Carrying.{way_carries}
use Rattle.promise_runs.proofs.Growing.{Goes, goes_free, Kept, kept_none, kept_on, kept_move}
use Rattle.promise_runs.proofs.Leaving.{repeated, SoundAt, Leaves, left_many, left_move, left_dropped_one}

module _ (plan : Plan) (links marks rows octets : List ℕ) where
  -- where a message goes it may go
  goes_there : (slot : ℕ) → goes_to plan links marks rows slot < none → Goes links (goes_to plan links marks rows slot)
  unfolding goes_to
  goes_there slot h =
      record { there = omega arith; not_out = way_carries plan links marks (need_of slot) (point_of rows slot) (sls_of rows slot) }

  module _ (ring : ℕ) (within : ring < 33) (out : ring < 32 → (record_at links ring).state ≡ 0) where
    -- nothing goes to the ring that it leaves
    goes_on : (slot : ℕ) → goes_to plan links marks rows slot < none → ring ≡ goes_to plan links marks rows slot → ⊥
    goes_on slot h same =
        (goes_there slot h).not_out h (ap (λ (l : ℕ). (record_at links l).state) (sym same) ∙ out (omega arith))

    -- the first message moves, or is dropped
    pub left_moved_one : (now : State) → SoundAt links ring rows octets now.queues
        → Leaves links ring rows octets 1 now.queues (moved_one plan links marks rows ring now).queues
    unfolding moved_one head_of
    left_moved_one now sound =
        let link : ℕ = goes_to plan links marks rows (head_of now.queues ring).slot in
        cases (head_of now.queues ring).found
        (λ some.
        cases (ltb link none)
        (λ e.
        let h : link < none = ltb-true link none e in
        let slot : ℕ = (head_of now.queues ring).slot in
        simp (some, e) (left_move links ring rows octets now.queues sound link (goes_there slot h) (goes_on slot h)))
        (λ e. simp (some, e) (left_dropped_one links ring rows octets within 1 now sound)))
        (λ gone.
        let empty = found_none now.queues.spans now.queues.rings ring gone in
        simp gone (record { kept = kept_none links ring rows octets now.queues sound; fewer = omega arith }))

    -- all of them do
    pub emptied : (now : State) → SoundAt links ring rows octets now.queues
        → Leaves links ring rows octets (count_of now.queues.spans ring) now.queues (moved_all plan links marks rows ring now).queues
    unfolding moved_all
    emptied now sound =
        left_many links ring rows octets (λ (s : State). s.queues) (moved_one plan links marks rows ring) left_moved_one
        (count_of now.queues.spans ring)
        now
        sound

  -- of the messages held apart those for a point move, and the others stay
  kept_released_one : (point : ℕ) (now : State) → SoundAt links apart rows octets now.queues
      → Kept links apart rows octets now.queues (released_one plan links marks rows point now).queues
  unfolding released_one
  kept_released_one point now sound =
      cases (eqb (point_of rows (head_of now.queues apart).slot) point)
      (λ e. simp e (left_moved_one apart (omega arith) (λ h. absurd (omega arith)) now sound).kept)
      (λ e. simp e (kept_move links apart rows octets now.queues sound apart (goes_free links apart (omega arith) (omega arith))))

  pub kept_released : (point : ℕ) (now : State) → SoundAt links apart rows octets now.queues
      → Kept links apart rows octets now.queues (released plan links marks rows point now).queues
  unfolding released
  kept_released point now sound =
      repeated (released_one plan links marks rows point)
      (λ (s : State). SoundAt links apart rows octets s.queues)
      (λ (n : ℕ) (s last : State). Kept links apart rows octets s.queues last.queues)
      (λ s sound. (kept_released_one point s sound).sound)
      (λ s sound. kept_none links apart rows octets s.queues sound)
      (λ n s last sound rest.
      kept_on links apart rows octets s.queues (released_one plan links marks rows point s).queues last.queues
      (kept_released_one point s sound)
      rest)
      (count_of now.queues.spans apart)
      now
      sound
