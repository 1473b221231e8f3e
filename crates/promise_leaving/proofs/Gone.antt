-- Messages that leave a queue for good: no other queue gains them. Those retired aren't told, those dropped are, in queue order.
-- Assumes nothing.
use mathlib.Core.Path.{◌≡◌, refl, sym, ap, ◌∙◌, subst}
use mathlib.Core.List.{List, [], ◌∷◌, ◌++◌, append-nil}
use Prim.Native.Nat.{ℕ, ◌+◌, ◌≤◌, ◌<◌}
use native.Mathlib.Nat.{add-zero, le_refl}
use native.Mathlib.Omega.{arith}
use lib.ListN.{length, take, drop}
use Rattle.reports.specs.Report.{Log, room, told}
use Rattle.queue_heads.specs.Head.{Queues, freed}
use Rattle.queue_retiring.specs.Leave.{State, retired, dropped_one, dropped}
use Rattle.promise_ledger.specs.Held.{arrival_of}
use Rattle.promise_ledger.specs.Reported.{Report, report, reports_of}
use Rattle.promise_leaving.specs.Going.{slots_of, drops_for}
use Rattle.promise_leaving.proofs.Queues.{head_found, head_is, head_none, freed_none, freed_from, freed_other, freed_sound}
use Rattle.promise_ledger.proofs.Told.{told_there, told_count, told_long}
use Rattle.promise_leaving.proofs.Passing.{SoundIn, Passed, passed_many}

-- queues with a log
abbrev pub with : Log → Queues → State
with written queues = record { queues = queues; log = written }

-- no link is sent any of some slots
abbrev pub nowhere : ℕ → List ℕ → List ℕ
nowhere other slots = []

-- nothing is told of them
abbrev silence : List ℕ → List Report
silence slots = []

module _ (link : ℕ) (rows octets : List ℕ) (within : link < 32) where
  -- what leaves goes to no link
  abbrev Goes : List ℕ → List Report → State → State → Type 0
  Goes left tells before after = Passed link rows octets left (λ (other : ℕ). []) tells before after

  -- the first of the queue is given up, and something is told
  passed_freed : (slot : ℕ) (later : List ℕ) (now : State) → SoundIn link rows octets now
      → slots_of now.queues link ≡ slot ∷ later → (written : Log) (tells : List Report)
      → reports_of written ≡ reports_of now.log ++ tells → written.count ≡ now.log.count + length tells
      → length written.area ≡ length now.log.area → Goes later tells now (with written (freed now.queues link))
  passed_freed slot later now sound here written tells says counts long =
      let few : link < 33 = omega arith in
      let others = freed_other now.queues rows octets sound link slot later here few in
      record {
        sound = freed_sound now.queues rows octets sound link slot later here few;
        leaves = freed_from now.queues rows octets sound link slot later here few;
        joins = λ other h apart. others other (omega arith) apart ∙ sym (append-nil (slots_of now.queues other));
        stays = others 32 (omega arith) (λ same. omega arith);
        told = says;
        counted = counts;
        long = long;
      }

  -- so many are retired, if there are so many
  pub passed_retired : (n : ℕ) (slots : List ℕ) (now : State) → SoundIn link rows octets now → slots_of now.queues link ≡ slots
      → now.log.count + length slots ≤ room now.log.area
      → Goes (drop n slots) [] now (with now.log (retired link n now.queues))
  unfolding retired
  passed_retired n slots now sound here enough =
      passed_many link rows octets (with now.log) (λ (q : Queues). freed q link) nowhere silence (λ other. refl) refl
      (λ other slot slots. refl)
      (λ slot slots. refl)
      (λ slot. omega arith)
      (λ queues none. freed_none queues link none)
      (λ slot later queues sound here less.
      passed_freed slot later (with now.log queues) sound here now.log [] (sym (append-nil (reports_of now.log)))
      (sym (add-zero now.log.count))
      refl)
      n
      slots
      now.queues
      sound
      here
      enough

  module _ (reason : ℕ) where
    -- the first is dropped: its queues, and what is told
    dropped_is : (slot : ℕ) (later : List ℕ) (now : State) → slots_of now.queues link ≡ slot ∷ later
        → with (told now.log reason (arrival_of rows slot)) (freed now.queues link) ≡ dropped_one rows link reason now
    unfolding dropped_one
    dropped_is slot later now here =
        simp (head_found now.queues link slot later here)
        (ap (λ (s : ℕ). with (told now.log reason (arrival_of rows s)) (freed now.queues link))
        (sym (head_is now.queues link slot later here)))

    -- it leaves, and is told
    pub passed_dropped_one : (slot : ℕ) (later : List ℕ) (now : State) → SoundIn link rows octets now
        → slots_of now.queues link ≡ slot ∷ later → now.log.count < room now.log.area
        → Goes later (drops_for reason rows (slot ∷ [])) now (dropped_one rows link reason now)
    passed_dropped_one slot later now sound here less =
        let number : ℕ = arrival_of rows slot in
        subst (λ (after : State). Goes later (drops_for reason rows (slot ∷ [])) now after) (dropped_is slot later now here)
        (passed_freed slot later now sound here (told now.log reason number) (report reason number ∷ [])
        (told_there now.log reason number less)
        (told_count now.log reason number less)
        (told_long now.log reason number))

    -- of an empty queue none is
    dropped_none : (now : State) → slots_of now.queues link ≡ [] → dropped_one rows link reason now ≡ now
    unfolding dropped_one
    dropped_none now none = simp (head_none now.queues link none)

    -- so many are dropped
    pub passed_dropped : (n : ℕ) (slots : List ℕ) (now : State) → SoundIn link rows octets now → slots_of now.queues link ≡ slots
        → now.log.count + length slots ≤ room now.log.area
        → Goes (drop n slots) (drops_for reason rows (take n slots)) now (dropped rows link reason n now)
    unfolding dropped
    passed_dropped =
        passed_many link rows octets (λ (s : State). s) (dropped_one rows link reason) nowhere (drops_for reason rows) (λ other. refl) refl
        (λ other slot slots. refl)
        (λ slot slots. refl)
        (λ slot. le_refl 1)
        dropped_none
        passed_dropped_one
