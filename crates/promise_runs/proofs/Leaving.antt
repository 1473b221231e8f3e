-- Messages that leave a queue for good: so many less stand there, and no other link's queue has fewer.
-- Assumes nothing.
use mathlib.Core.Path.{◌≡◌}
use mathlib.Core.List.{List}
use Prim.Native.Nat.{ℕ, zero, suc, ◌+◌, ◌-◌, ◌<◌}
use native.Mathlib.Omega.{arith}
use lib.Dec.{ltb}
use borrow.Table.Steps.{cases}
use Rattle.queue_rings.specs.Ring.{count_of}
use Rattle.queue_store.specs.Sound.{Sound}
use Rattle.queue_rings.proofs.Queues.{found_none}
use Rattle.queue_heads.specs.Head.{Queues, head_of, moved, free_ring, freed, repeat}
use Rattle.queue_retiring.specs.Leave.{State, retired, dropped_one, dropped}
use Rattle.promise_runs.proofs.Counts.{move_from}
use Rattle.promise_runs.proofs.Growing.{Goes, goes_free, Kept, kept_none, kept_on, kept_move}

-- what holds of each turn holds of all: R says what so many turns do from a state of which P holds
module _
    {A : Type 0}
    (step : A → A)
    (P : A → Type 0)
    (R : ℕ → A → A → Type 0)
    (still : (now : A) → P now → P (step now))
    (none : (now : A) → P now → R 0 now now)
    (more : (n : ℕ) (now last : A) → P now → R n (step now) last → R (suc n) now last) where
  pub repeated : (n : ℕ) (now : A) → P now → R n now (repeat step n now)
  unfolding repeat
  repeated zero now holds = none now holds
  repeated (suc n) now holds = more n now (repeat step n (step now)) holds (repeated n (step now) (still now holds))

-- so many messages left a ring, as far as it had them
pub record Left (links : List ℕ) (ring : ℕ) (rows octets : List ℕ) (many : ℕ) (before after : Queues) : Type 0 where
  pub kept : Kept links ring rows octets before after
  pub fewer : count_of after.spans ring ≡ count_of before.spans ring - many

module _ (links : List ℕ) (ring : ℕ) (rows octets : List ℕ) where
  abbrev pub SoundAt : Queues → Type 0
  SoundAt queues = Sound queues.spans queues.rings rows octets

  abbrev pub Leaves : ℕ → Queues → Queues → Type 0
  Leaves many before after = Left links ring rows octets many before after

  pub left_none : (queues : Queues) → SoundAt queues → Leaves 0 queues queues
  left_none queues sound = record { kept = kept_none links ring rows octets queues sound; fewer = omega arith }

  pub left_on : (n m all : ℕ) → all ≡ n + m → (first next last : Queues) → Leaves n first next → Leaves m next last
      → Leaves all first last
  left_on n m all sum first next last one other = record {
    kept = kept_on links ring rows octets first next last one.kept other.kept;
    fewer = omega (arith, one.fewer, other.fewer);
  }

  -- a step that takes one off, done so many times
  module _
      {A : Type 0}
      (queues : A → Queues)
      (step : A → A)
      (one : (now : A) → SoundAt (queues now) → Leaves 1 (queues now) (queues (step now))) where
    pub left_many : (n : ℕ) (now : A) → SoundAt (queues now) → Leaves n (queues now) (queues (repeat step n now))
    left_many =
        repeated step (λ (now : A). SoundAt (queues now)) (λ (n : ℕ) (now last : A). Leaves n (queues now) (queues last))
        (λ now sound. (one now sound).kept.sound)
        (λ now sound. left_none (queues now) sound)
        (λ n now last sound rest.
        left_on 1 n (suc n) (omega arith) (queues now) (queues (step now)) (queues last) (one now sound) rest)

  -- a message goes from the ring to another
  pub left_move : (queues : Queues) → SoundAt queues → (to : ℕ) → Goes links to → (ring ≡ to → ⊥)
      → Leaves 1 queues (moved queues ring to)
  left_move queues sound to goes apart = record {
    kept = kept_move links ring rows octets queues sound to goes;
    fewer = move_from queues rows octets sound ring to goes.there apart;
  }

  -- the ring of free slots that a slot goes back to
  free_ring_lem : (slot : ℕ) → (32 < free_ring slot) × (free_ring slot < 35)
  free_ring_lem slot = cases (ltb slot 192) (λ e. simp e (omega arith)) (λ e. simp e (omega arith))

  module _ (within : ring < 33) where
    -- its head is given up
    pub left_freed : (queues : Queues) → SoundAt queues → Leaves 1 queues (freed queues ring)
    unfolding freed
    left_freed queues sound =
        let slot : ℕ = (head_of queues ring).slot in
        let to = free_ring_lem slot in
        left_move queues sound (free_ring slot) (goes_free links (free_ring slot) (omega arith) to.1) (λ e. omega arith)

    -- so many are retired
    pub left_retired : (n : ℕ) (queues : Queues) → SoundAt queues → Leaves n queues (retired ring n queues)
    unfolding retired
    left_retired = left_many (λ (q : Queues). q) (λ (q : Queues). freed q ring) left_freed

    -- or dropped
    pub left_dropped_one : (reason : ℕ) (now : State) → SoundAt now.queues → Leaves 1 now.queues (dropped_one rows ring reason now).queues
    unfolding dropped_one head_of
    left_dropped_one reason now sound =
        cases (head_of now.queues ring).found
        (λ e. simp e (left_freed now.queues sound))
        (λ e.
        let empty = found_none now.queues.spans now.queues.rings ring e in
        simp e (record { kept = kept_none links ring rows octets now.queues sound; fewer = omega arith }))

    pub left_dropped : (reason n : ℕ) (now : State) → SoundAt now.queues → Leaves n now.queues (dropped rows ring reason n now).queues
    unfolding dropped
    left_dropped reason = left_many (λ (s : State). s.queues) (dropped_one rows ring reason) (left_dropped_one reason)
