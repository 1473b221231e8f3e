-- Messages that leave a queue for good: what is no longer held is retired, or told as a drop. So what is held and what is told of drops
-- stay the same together while messages are dropped.
-- Assumes nothing.
use mathlib.Core.Path.{◌≡◌, refl, sym, ap, ◌∙◌}
use mathlib.Core.Bool.{Bool, true}
use mathlib.Core.List.{List, [], ◌∷◌, map}
use Prim.Native.Nat.{ℕ, zero, suc, ◌+◌, ◌≤◌, ◌<◌}
use native.Mathlib.Omega.{arith}
use lib.ListN.{take}
use borrow.Table.Steps.{cases}
use Rattle.queue_rings.specs.Ring.{count_of, queue, spans_taken}
use Rattle.queue_rings.proofs.Queues.{taken_queue, put_other}
use Rattle.queue_store.specs.Sound.{tally, Sound}
use Rattle.reports.specs.Report.{room, told}
use Rattle.queue_heads.specs.Head.{Queues, head_of, free_ring, freed, repeat}
use Rattle.queue_retiring.specs.Leave.{State, retired, dropped_one, dropped}
use Rattle.promise_runs.proofs.Leaving.{repeated, left_freed}
use Rattle.promise_ledger.specs.Held.{arrival_of, numbers, held_of}
use Rattle.promise_ledger.specs.Reported.{reports_of, drops_of}
use Rattle.promise_ledger.proofs.Balance.{moved_some, head_found, head_some, free_apart, held_freed}
use Rattle.promise_ledger.proofs.FreeKinds.{Apart, kinds_freed}
use Rattle.promise_ledger.proofs.Told.{told_count, told_room, told_drop}

-- a sound store, and reports with room for a drop of each message of a ring
pub record Ready (rows octets : List ℕ) (ring : ℕ) (now : State) : Type 0 where
  pub sound : Sound now.queues.spans now.queues.rings rows octets
  pub spare : now.log.count + count_of now.queues.spans ring ≤ room now.log.area

-- what is held and what is told of drops are together as before, all is ready for more, and free slots are apart by kind if they were
pub record Even (test : ℕ → Bool) (rows octets : List ℕ) (ring : ℕ) (before after : State) : Type 0 where
  pub ready : Ready rows octets ring after
  pub kinds : Apart before.queues → Apart after.queues
  pub even : held_of test rows after.queues + tally test (drops_of (reports_of after.log))
      ≡ held_of test rows before.queues + tally test (drops_of (reports_of before.log))

module _ (test : ℕ → Bool) (rows octets : List ℕ) (ring : ℕ) (within : ring < 33) where
  module _ (queues : Queues) (sound : Sound queues.spans queues.rings rows octets) where
    -- a head that is given up was the first of the numbers, and the others are left in their order
    pub numbers_freed : (head_of queues ring).found ≡ true
        → numbers rows queues ring ≡ arrival_of rows (head_of queues ring).slot ∷ numbers rows (freed queues ring) ring
    unfolding numbers freed head_of
    numbers_freed found =
        let spans : List ℕ = queues.spans in
        let slot : ℕ = (head_of queues ring).slot in
        let to : ℕ = free_ring slot in
        let left : queue (freed queues ring).spans (freed queues ring).rings ring ≡ queue (spans_taken spans ring) queues.rings ring =
        ap (λ (q : Queues). queue q.spans q.rings ring) (moved_some queues ring to found)
        ∙ put_other (spans_taken spans ring) queues.rings to slot ring
        (λ e. omega (arith, free_apart slot))
        in
        ap (map (arrival_of rows))
        (taken_queue spans queues.rings ring sound.spans_long (head_some rows octets queues sound ring found)
        ∙ ap (λ (rest : List ℕ). slot ∷ rest) (sym left))

  -- those retired are the first of their queue
  pub retired_even : (many : ℕ) (queues : Queues) → Sound queues.spans queues.rings rows octets
      → many ≤ count_of queues.spans ring
      → held_of test rows (retired ring many queues) + tally test (take many (numbers rows queues ring)) ≡ held_of test rows queues
  unfolding retired repeat tally
  retired_even zero queues sound h = omega arith
  retired_even (suc more) queues sound h =
      let found = head_found queues ring (omega arith) in
      let left = left_freed [] ring rows octets within queues sound in
      let later = retired_even more (freed queues ring) left.kept.sound (omega (arith, left.fewer)) in
      let first = ap (λ (all : List ℕ). tally test (take (suc more) all)) (numbers_freed queues sound found) in
      omega (arith, held_freed rows octets queues sound test ring within found)

  -- nothing done keeps all even, and so does one thing after another
  pub even_none : (now : State) → Ready rows octets ring now → Even test rows octets ring now now
  even_none now ready = record { ready = ready; kinds = λ apart. apart; even = refl }

  pub even_on : (first next last : State) → Even test rows octets ring first next → Even test rows octets ring next last
      → Even test rows octets ring first last
  even_on first next last one other =
      record { ready = other.ready; kinds = λ apart. other.kinds (one.kinds apart); even = other.even ∙ one.even }

  -- what holds of each turn holds of all
  pub even_many : (step : State → State)
      → ((now : State) → Ready rows octets ring now → Even test rows octets ring now (step now)) → (many : ℕ) (now : State)
      → Ready rows octets ring now → Even test rows octets ring now (repeat step many now)
  even_many step one =
      repeated step (Ready rows octets ring) (λ (n : ℕ) (now last : State). Even test rows octets ring now last)
      (λ now ready. (one now ready).ready)
      even_none
      (λ n now last ready rest. even_on now (step now) last (one now ready) rest)

  module _ (now : State) (ready : Ready rows octets ring now) where
    -- the head is given up and told
    drop_even : (reason : ℕ) → reason < 4 → (head_of now.queues ring).found ≡ true
        → Even test rows octets ring now
        (record { queues = freed now.queues ring; log = told now.log reason (arrival_of rows (head_of now.queues ring).slot) })
    drop_even reason h found =
        let number : ℕ = arrival_of rows (head_of now.queues ring).slot in
        let left = left_freed [] ring rows octets within now.queues ready.sound in
        let some = head_some rows octets now.queues ready.sound ring found in
        let free : now.log.count < room now.log.area = omega (arith, ready.spare) in
        record {
          ready =
              record {
                sound = left.kept.sound;
                spare =
                    omega (
                      arith,
                      ready.spare,
                      left.fewer,
                      told_count now.log reason number free,
                      told_room now.log reason number,
                    );
              };
          kinds = λ apart. kinds_freed rows octets now.queues ready.sound apart ring;
          even =
              omega (
                arith,
                held_freed rows octets now.queues ready.sound test ring within found,
                told_drop now.log reason number h free test,
              );
        }

    -- or there is none
    pub dropped_one_even : (reason : ℕ) → reason < 4 → Even test rows octets ring now (dropped_one rows ring reason now)
    unfolding dropped_one
    dropped_one_even reason h =
        cases (head_of now.queues ring).found (λ e. simp e (drop_even reason h e)) (λ e. simp e (even_none now ready))

  -- so many are dropped
  pub dropped_even : (reason : ℕ) → reason < 4 → (many : ℕ) (now : State) → Ready rows octets ring now
      → Even test rows octets ring now (dropped rows ring reason many now)
  unfolding dropped
  dropped_even reason h = even_many (dropped_one rows ring reason) (λ now ready. dropped_one_even now ready reason h)
