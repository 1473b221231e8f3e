-- The free slots stay apart by kind, user slots in their ring and management slots in theirs: where a message goes to a queue, where it is
-- given up, and where a new one is queued.
-- Assumes nothing.
use mathlib.Core.List.{List, []}
use Prim.Native.Nat.{ℕ, zero, suc, ◌<◌}
use native.Mathlib.Omega.{arith}
use lib.Dec.{ltb, eqb}
use borrow.Table.Steps.{cases}
use Rattle.queue_store.specs.Sound.{Sound, Kinds, Suits}
use Rattle.queue_store.proofs.KindsApart.{kinds_move}
use Rattle.queue_heads.specs.Head.{Queues, head_of, moved, free_ring, freed, repeat}
use Rattle.queue_retiring.specs.Leave.{retired}
use Rattle.queue_joining.specs.Queue.{user_reply, user_queues, management_reply, management_queues}
use Rattle.promise_runs.proofs.Leaving.{left_freed}
use Rattle.promise_ledger.proofs.Balance.{free_there}

abbrev pub Apart : Queues → Type 0
Apart queues = Kinds queues.spans queues.rings

-- any slot may go to a queue, and each to the ring that it goes back to
suits_queue : (slot to : ℕ) → to < 33 → Suits slot to
suits_queue slot to h = record { to_user = λ e. absurd (omega arith); to_management = λ e. absurd (omega arith) }

suits_free : (slot : ℕ) → Suits slot (free_ring slot)
suits_free slot =
    cases (ltb slot 192)
    (λ e. simp e (record { to_user = λ same. e; to_management = λ same. absurd (omega arith) }))
    (λ e. simp e (record { to_user = λ same. absurd (omega arith); to_management = λ same. simp e }))

module _ (rows octets : List ℕ) (queues : Queues) (sound : Sound queues.spans queues.rings rows octets) (apart : Apart queues) where
  -- a message goes to a queue
  pub kinds_queue : (from to : ℕ) → to < 33 → Apart (moved queues from to)
  unfolding moved head_of
  kinds_queue from to h =
      kinds_move queues.spans queues.rings rows octets sound from to (omega arith)
      (suits_queue (head_of queues from).slot to h) apart

  -- or is given up
  pub kinds_freed : (ring : ℕ) → Apart (freed queues ring)
  unfolding freed moved head_of
  kinds_freed ring =
      let slot : ℕ = (head_of queues ring).slot in
      kinds_move queues.spans queues.rings rows octets sound ring (free_ring slot) (free_there slot) (suits_free slot) apart

  -- a new one is queued, or none
  pub kinds_user : (arrivals : List ℕ) (ring : ℕ) → ring < 33 → Apart (user_queues queues arrivals ring)
  unfolding user_queues
  kinds_user arrivals ring h =
      cases (eqb (user_reply queues.spans arrivals) 0) (λ e. simp e (kinds_queue 33 ring h)) (λ e. simp e apart)

  pub kinds_management : (arrivals : List ℕ) (ring : ℕ) → ring < 33 → Apart (management_queues queues arrivals ring)
  unfolding management_queues
  kinds_management arrivals ring h =
      cases (eqb (management_reply queues.spans arrivals) 0) (λ e. simp e (kinds_queue 34 ring h)) (λ e. simp e apart)

-- so many are retired
pub kinds_retired : (rows octets : List ℕ) (ring : ℕ) → ring < 33 → (many : ℕ) (queues : Queues)
    → Sound queues.spans queues.rings rows octets → Apart queues → Apart (retired ring many queues)
unfolding retired repeat
kinds_retired rows octets ring h zero queues sound apart = apart
kinds_retired rows octets ring h (suc more) queues sound apart =
    kinds_retired rows octets ring h more (freed queues ring) (left_freed [] ring rows octets h queues sound).kept.sound
    (kinds_freed rows octets queues sound apart ring)
