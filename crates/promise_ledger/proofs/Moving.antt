-- What is held and what is told of drops stay the same together while a queue moves, and while those held apart for a point are let go,
-- wherever the messages go.
-- Assumes nothing.
use mathlib.Core.Path.{sym, ap}
use mathlib.Core.Bool.{Bool}
use mathlib.Core.List.{List}
use Prim.Native.Nat.{ℕ, ◌≤◌, ◌<◌}
use native.Mathlib.Omega.{arith}
use lib.Dec.{ltb, eqb}
use borrow.Author.Tests.{ltb-true}
use borrow.Table.Steps.{cases}
use Rattle.plan.specs.declared.data.Plan.{Plan}
use Rattle.plan.proofs.Split.{alike}
use Rattle.queue_rings.specs.Ring.{count_of, spans_taken}
use Rattle.queue_rings.proofs.Spans.{taken_count, put_count}
use Rattle.queue_store.specs.Sound.{Sound}
use Rattle.route_choice.specs.Which.{none}
use Rattle.queue_heads.specs.Head.{Queues, head_of, moved}
use Rattle.queue_retiring.specs.Leave.{State}
use Rattle.queue_moving.specs.Move.{point_of, goes_to, moved_one, moved_all, apart}
use Rattle.rerouting_releasing.specs.Release.{released_one, released}
use Rattle.promise_runs.proofs.Counts.{move_sound, move_from}
use Rattle.promise_ledger.proofs.Balance.{moved_some, moved_none, head_some, head_long, head_room, held_move}
use Rattle.promise_ledger.proofs.FreeKinds.{kinds_queue}
use Rattle.promise_ledger.proofs.Gone.{Ready, Even, even_none, even_many, dropped_one_even}

module _ (test : ℕ → Bool) (rows octets : List ℕ) (ring : ℕ) (within : ring < 33) where
  -- a ring whose head moves, to its own end or elsewhere, has no more messages than before
  module _ (queues : Queues) (sound : Sound queues.spans queues.rings rows octets) where
    turned_count : count_of (moved queues ring ring).spans ring ≤ count_of queues.spans ring
    turned_count =
        cases (head_of queues ring).found
        (λ found.
        let some = head_some rows octets queues sound ring found in
        let same = ap (λ (q : Queues). count_of q.spans ring) (moved_some queues ring ring found) in
        omega (
          arith,
          put_count (spans_taken queues.spans ring) ring
              (head_long rows octets queues sound ring found)
              (head_room rows octets queues sound ring found ring (omega arith)),
          taken_count queues.spans ring sound.spans_long some,
        ))
        (λ gone. omega (arith, ap (λ (q : Queues). count_of q.spans ring) (moved_none queues ring ring gone)))

    moved_count : (to : ℕ) → to < 35 → count_of (moved queues ring to).spans ring ≤ count_of queues.spans ring
    moved_count to h =
        alike to ring
        (λ same. simp same turned_count)
        (λ other. omega (arith, move_from queues rows octets sound ring to h (λ e. other (sym e))))

  -- the first message goes to a queue
  move_even : (to : ℕ) → to < 33 → (now : State) → Ready rows octets ring now
      → Even test rows octets ring now (record { queues = moved now.queues ring to; log = now.log })
  move_even to h now ready =
      let wide : to < 35 = omega arith in
      record {
        ready =
            record {
              sound = move_sound now.queues rows octets ready.sound ring to wide;
              spare = omega (arith, ready.spare, moved_count now.queues ready.sound to wide);
            };
        kinds = λ apart. kinds_queue rows octets now.queues ready.sound apart ring to h;
        even = omega (arith, held_move rows octets now.queues ready.sound test ring to within h);
      }

  module _ (plan : Plan) (links marks : List ℕ) where
    -- it moves, or is dropped
    pub moved_one_even : (now : State) → Ready rows octets ring now
        → Even test rows octets ring now (moved_one plan links marks rows ring now)
    unfolding moved_one
    moved_one_even now ready =
        let link : ℕ = goes_to plan links marks rows (head_of now.queues ring).slot in
        cases (head_of now.queues ring).found
        (λ some.
        cases (ltb link none)
        (λ e.
        let there : link < none = ltb-true link none e in
        simp (some, e) (move_even link (omega arith) now ready))
        (λ e. simp (some, e) (dropped_one_even test rows octets ring within now ready 1 (omega arith))))
        (λ gone. simp gone (even_none test rows octets ring within now ready))

    -- all of them do
    pub moved_even : (now : State) → Ready rows octets ring now
        → Even test rows octets ring now (moved_all plan links marks rows ring now)
    unfolding moved_all
    moved_even now ready =
        even_many test rows octets ring within (moved_one plan links marks rows ring) moved_one_even
        (count_of now.queues.spans ring)
        now
        ready

module _ (test : ℕ → Bool) (rows octets : List ℕ) (plan : Plan) (links marks : List ℕ) (point : ℕ) where
  -- of the messages held apart those for a point move, and the others go behind
  pub released_one_even : (now : State) → Ready rows octets apart now
      → Even test rows octets apart now (released_one plan links marks rows point now)
  unfolding released_one
  released_one_even now ready =
      cases (eqb (point_of rows (head_of now.queues apart).slot) point)
      (λ e. simp e (moved_one_even test rows octets apart (omega arith) plan links marks now ready))
      (λ e. simp e (move_even test rows octets apart (omega arith) apart (omega arith) now ready))

  pub released_even : (now : State) → Ready rows octets apart now
      → Even test rows octets apart now (released plan links marks rows point now)
  unfolding released
  released_even now ready =
      even_many test rows octets apart (omega arith) (released_one plan links marks rows point) released_one_even
      (count_of now.queues.spans apart)
      now
      ready
