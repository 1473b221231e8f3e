-- Messages that are retired, dropped or moved take no slot from a ring of free ones.
-- Assumes nothing.
use mathlib.Core.List.{List}
use Prim.Native.Nat.{ℕ, ◌<◌}
use native.Mathlib.Omega.{arith}
use lib.Dec.{ltb, eqb}
use borrow.Author.Tests.{ltb-true}
use borrow.Table.Steps.{cases}
use Rattle.plan.specs.declared.data.Plan.{Plan}
use Rattle.queue_rings.specs.Ring.{count_of}
use Rattle.route_choice.specs.Which.{none}
use Rattle.queue_heads.specs.Head.{Queues, head_of, freed, repeat}
use Rattle.queue_retiring.specs.Leave.{State, retired, dropped_one, dropped}
use Rattle.queue_moving.specs.Move.{point_of, goes_to, moved_one, moved_all, apart}
use Rattle.rerouting_releasing.specs.Release.{released_one, released}
use Rattle.promise_runs.proofs.Leaving.{repeated}
use Rattle.promise_contents.proofs.Free.{SoundIn, Freer, freer_none, freer_on, freer_move, freer_freed}

module _ (rows octets : List ℕ) where
  -- what holds of each turn holds of all
  freer_many : (from : ℕ) (step : State → State)
      → ((now : State) → SoundIn rows octets now.queues → Freer rows octets from now.queues (step now).queues)
      → (many : ℕ) (now : State) → SoundIn rows octets now.queues → Freer rows octets from now.queues (repeat step many now).queues
  freer_many from step one =
      repeated step (λ (now : State). SoundIn rows octets now.queues) (λ (n : ℕ) (now last : State). Freer rows octets from now.queues last.queues)
      (λ now sound. (one now sound).sound)
      (λ now sound. freer_none rows octets from now.queues sound)
      (λ n now last sound rest. freer_on rows octets from now.queues (step now).queues last.queues (one now sound) rest)

  -- messages are retired
  pub freer_retired : (ring : ℕ) → ring < 33 → (many : ℕ) (queues : Queues) → SoundIn rows octets queues
      → Freer rows octets ring queues (retired ring many queues)
  unfolding retired
  freer_retired ring h =
      repeated (λ (q : Queues). freed q ring) (SoundIn rows octets) (λ (n : ℕ) (now last : Queues). Freer rows octets ring now last)
      (λ now sound. (freer_freed rows octets now sound ring h).sound)
      (freer_none rows octets ring)
      (λ n now last sound rest. freer_on rows octets ring now (freed now ring) last (freer_freed rows octets now sound ring h) rest)

  -- or dropped
  freer_dropped_one : (ring : ℕ) → ring < 33 → (reason : ℕ) (now : State) → SoundIn rows octets now.queues
      → Freer rows octets ring now.queues (dropped_one rows ring reason now).queues
  unfolding dropped_one
  freer_dropped_one ring h reason now sound =
      cases (head_of now.queues ring).found (λ e. simp e (freer_freed rows octets now.queues sound ring h))
      (λ e. simp e (freer_none rows octets ring now.queues sound))

  -- so many are
  pub freer_dropped : (ring : ℕ) → ring < 33 → (reason many : ℕ) (now : State) → SoundIn rows octets now.queues
      → Freer rows octets ring now.queues (dropped rows ring reason many now).queues
  unfolding dropped
  freer_dropped ring h reason = freer_many ring (dropped_one rows ring reason) (freer_dropped_one ring h reason)

  module _ (plan : Plan) (links marks : List ℕ) where
    -- or move
    freer_moved_one : (ring : ℕ) → ring < 33 → (now : State) → SoundIn rows octets now.queues
        → Freer rows octets ring now.queues (moved_one plan links marks rows ring now).queues
    unfolding moved_one
    freer_moved_one ring h now sound =
        let link : ℕ = goes_to plan links marks rows (head_of now.queues ring).slot in
        cases (head_of now.queues ring).found
        (λ some.
        cases (ltb link none)
        (λ e.
        let there : link < none = ltb-true link none e in
        simp (some, e) (freer_move rows octets now.queues sound ring link h (omega arith)))
        (λ e. simp (some, e) (freer_dropped_one ring h 1 now sound)))
        (λ gone. simp gone (freer_none rows octets ring now.queues sound))

    -- all of them do
    pub freer_moved : (ring : ℕ) → ring < 33 → (now : State) → SoundIn rows octets now.queues
        → Freer rows octets ring now.queues (moved_all plan links marks rows ring now).queues
    unfolding moved_all
    freer_moved ring h now sound =
        freer_many ring (moved_one plan links marks rows ring) (freer_moved_one ring h) (count_of now.queues.spans ring) now sound

    -- those held apart for a point move
    freer_released_one : (point : ℕ) (now : State) → SoundIn rows octets now.queues
        → Freer rows octets apart now.queues (released_one plan links marks rows point now).queues
    unfolding released_one
    freer_released_one point now sound =
        cases (eqb (point_of rows (head_of now.queues apart).slot) point)
        (λ e. simp e (freer_moved_one apart (omega arith) now sound))
        (λ e. simp e (freer_move rows octets now.queues sound apart apart (omega arith) (omega arith)))

    -- each is looked at once
    pub freer_released : (point : ℕ) (now : State) → SoundIn rows octets now.queues
        → Freer rows octets apart now.queues (released plan links marks rows point now).queues
    unfolding released
    freer_released point now sound =
        freer_many apart (released_one plan links marks rows point) (freer_released_one point) (count_of now.queues.spans apart) now sound
