-- The messages held apart, each looked at once: what is told are the drops of those for a point that have no route, in their order.
-- Assumes nothing.
use mathlib.Core.Path.{◌≡◌, refl, sym, ap, ap₂, ◌∙◌}
use mathlib.Core.List.{List, [], ◌∷◌, ◌++◌, append-nil, append_assoc}
use Prim.Native.Nat.{ℕ, ◌+◌, ◌≤◌, ◌<◌}
use native.Mathlib.Omega.{arith}
use lib.Dec.{eqb}
use lib.ListN.{length, drop}
use borrow.Author.Tests.{lt-ltb, le-ltb, eqb-true, eqb-false}
use borrow.Table.Steps.{cases}
use Rattle.plan.specs.declared.data.Plan.{Plan}
use Rattle.plan.proofs.Split.{split}
use Rattle.queue_rings.specs.Ring.{count_of}
use Rattle.queue_rings.proofs.Queues.{queue_length, taken_queue}
use Rattle.queue_store.specs.Sound.{Sound}
use Rattle.queue_store.proofs.Moves.{moved_queue}
use Rattle.reports.specs.Report.{room, told}
use Rattle.queue_heads.specs.Head.{Queues, head_of, moved, freed, repeat}
use Rattle.queue_retiring.specs.Leave.{State, dropped_one}
use Rattle.queue_moving.specs.Move.{point_of, goes_to, moved_one, apart}
use Rattle.rerouting_releasing.specs.Release.{released_one, released}
use Rattle.promise_runs.proofs.Counts.{move_sound}
use Rattle.promise_ledger.proofs.Balance.{moved_some, head_some}
use Rattle.promise_ledger.specs.Held.{arrival_of}
use Rattle.promise_ledger.specs.Reported.{Report, report, reports_of}
use Rattle.promise_ledger.proofs.Told.{told_there, told_count, told_long}
use Rattle.promise_leaving.specs.Going.{slots_of, going, stranded, drops_for}
use Rattle.promise_leaving.proofs.Queues.{head_found, head_is, moved_from, freed_from, freed_sound}
use Rattle.promise_leaving.proofs.Passing.{SoundIn, none_behind, none_counted}
use Rattle.promise_leaving.proofs.Gone.{with}
use Rattle.promise_leaving.proofs.Going.{going_none, going_more, going_there, going_elsewhere, stranded_none, stranded_there, stranded_here, strays, strays_more, strays_one}

module _ (plan : Plan) (links marks rows octets : List ℕ) (point : ℕ) where
  abbrev goes : ℕ → ℕ
  goes slot = goes_to plan links marks rows slot

  -- those of some slots that are for the point, and what is told of them
  abbrev theirs : List ℕ → List ℕ
  theirs slots = going (point_of rows) point slots

  abbrev says : List ℕ → List Report
  says slots = strays goes rows (theirs slots)

  says_none : says [] ≡ []
  says_none = ap (strays goes rows) (going_none (point_of rows) point) ∙ ap (drops_for 1 rows) (stranded_none goes)

  -- of one, by whether it is for the point
  says_of : (slot : ℕ) → point_of rows slot ≡ point → says (slot ∷ []) ≡ strays goes rows (slot ∷ [])
  says_of slot same = ap (strays goes rows) (going_there (point_of rows) point slot same)

  says_other : (slot : ℕ) → (point_of rows slot ≡ point → ⊥) → says (slot ∷ []) ≡ []
  says_other slot differs =
      ap (strays goes rows) (going_elsewhere (point_of rows) point slot differs) ∙ ap (drops_for 1 rows) (stranded_none goes)

  -- of more, the first first
  says_more : (slot : ℕ) (slots : List ℕ) → says (slot ∷ slots) ≡ says (slot ∷ []) ++ says slots
  says_more slot slots =
      let first = ap (strays goes rows) (going_more (point_of rows) point slot slots) in
      cases (eqb (point_of rows slot) point)
      (λ e.
      let here = going_there (point_of rows) point slot (eqb-true (point_of rows slot) point e) in
      first
      ∙ ap (λ (l : List ℕ). strays goes rows (l ++ theirs slots)) here
      ∙ strays_more goes rows slot (theirs slots)
      ∙ ap (λ (l : List ℕ). strays goes rows l ++ says slots) (sym here))
      (λ e.
      let differs = eqb-false (point_of rows slot) point e in
      first
      ∙ ap (λ (l : List ℕ). strays goes rows (l ++ theirs slots)) (going_elsewhere (point_of rows) point slot differs)
      ∙ ap (λ (l : List Report). l ++ says slots) (sym (says_other slot differs)))

  says_one : (slot : ℕ) → length (says (slot ∷ [])) ≤ 1
  says_one slot =
      cases (eqb (point_of rows slot) point)
      (λ e.
      let same = ap length (says_of slot (eqb-true (point_of rows slot) point e)) in
      omega (arith, same, strays_one goes rows slot))
      (λ e.
      let none = ap length (says_other slot (eqb-false (point_of rows slot) point e)) in
      omega (arith, none))

  -- the first of a queue that goes to its end stands behind the others
  moved_back : (queues : Queues) → Sound queues.spans queues.rings rows octets → (slot : ℕ) (later : List ℕ)
      → slots_of queues apart ≡ slot ∷ later → slots_of (moved queues apart apart) apart ≡ later ++ (slot ∷ [])
  unfolding head_of
  moved_back queues sound slot later here =
      let found = head_found queues apart slot later here in
      let some = head_some rows octets queues sound apart found in
      let parted = sym (taken_queue queues.spans queues.rings apart sound.spans_long some) ∙ here in
      ap (λ (q : Queues). slots_of q apart) (moved_some queues apart apart found)
      ∙ moved_queue queues.spans queues.rings rows octets sound apart found apart (omega arith)
      ∙ ap₂ (λ (l : List ℕ) (s : ℕ). l ++ (s ∷ [])) (ap (drop 1) parted) (head_is queues apart slot later here)

  -- one of them is looked at: those behind it are next, and what is told of it is behind what was told
  record Turned (slot : ℕ) (later : List ℕ) (before after : State) : Type 0 where
    pub sound : SoundIn apart rows octets after
    pub back : List ℕ
    pub leaves : slots_of after.queues apart ≡ later ++ back
    pub told : reports_of after.log ≡ reports_of before.log ++ says (slot ∷ [])
    pub counted : after.log.count ≡ before.log.count + length (says (slot ∷ []))
    pub long : length after.log.area ≡ length before.log.area

  module _
      (slot : ℕ)
      (later : List ℕ)
      (now : State)
      (sound : SoundIn apart rows octets now)
      (here : slots_of now.queues apart ≡ slot ∷ later) where
    -- it goes to a queue, and nothing is told
    turned_silent : (to : ℕ) → to < 35 → (back : List ℕ) → slots_of (moved now.queues apart to) apart ≡ later ++ back
        → says (slot ∷ []) ≡ [] → Turned slot later now (with now.log (moved now.queues apart to))
    turned_silent to h back leaves silent =
        record {
          sound = move_sound now.queues rows octets sound apart to h;
          back = back;
          leaves = leaves;
          told = none_behind (reports_of now.log) (says (slot ∷ [])) silent;
          counted = none_counted now.log.count (says (slot ∷ [])) silent;
          long = refl;
        }

    -- one for another point goes behind the others
    turned_back : (point_of rows slot ≡ point → ⊥) → Turned slot later now (with now.log (moved now.queues apart apart))
    turned_back differs =
        turned_silent apart (omega arith) (slot ∷ []) (moved_back now.queues sound slot later here)
        (says_other slot differs)

    module _ (same : point_of rows slot ≡ point) where
      -- one for the point goes to its link
      turned_away : goes slot < 32 → Turned slot later now (with now.log (moved now.queues apart (goes slot)))
      turned_away h =
          turned_silent (goes slot) (omega arith) []
          (moved_from now.queues rows octets sound apart slot later here (goes slot) (omega arith) (λ e. omega arith)
          ∙ sym (append-nil later))
          (says_of slot same ∙ ap (drops_for 1 rows) (stranded_there goes slot h))

      -- or is dropped
      turned_dropped : 32 ≤ goes slot → now.log.count < room now.log.area
          → Turned slot later now (with (told now.log 1 (arrival_of rows slot)) (freed now.queues apart))
      turned_dropped h less =
          let number : ℕ = arrival_of rows slot in
          let is : says (slot ∷ []) ≡ report 1 number ∷ [] = says_of slot same ∙ ap (drops_for 1 rows) (stranded_here goes slot h) in
          record {
            sound = freed_sound now.queues rows octets sound apart slot later here (omega arith);
            back = [];
            leaves = freed_from now.queues rows octets sound apart slot later here (omega arith) ∙ sym (append-nil later);
            told = told_there now.log 1 number less ∙ ap (λ (l : List Report). reports_of now.log ++ l) (sym is);
            counted = told_count now.log 1 number less ∙ ap (λ (l : List Report). now.log.count + length l) (sym is);
            long = told_long now.log 1 number;
          }

      turned_moved : now.log.count < room now.log.area → Turned slot later now (moved_one plan links marks rows apart now)
      unfolding moved_one dropped_one
      turned_moved less =
          let found = head_found now.queues apart slot later here in
          let is = head_is now.queues apart slot later here in
          split (goes slot) 32
          (λ h. simp (found, is, lt-ltb (goes slot) 32 h) (turned_away h))
          (λ h. simp (found, is, le-ltb (goes slot) 32 h) (turned_dropped h less))

    turned_one : now.log.count < room now.log.area → Turned slot later now (released_one plan links marks rows point now)
    unfolding released_one
    turned_one less =
        let is = head_is now.queues apart slot later here in
        cases (eqb (point_of rows slot) point)
        (λ e. simp (is, e) (turned_moved (eqb-true (point_of rows slot) point e) less))
        (λ e. simp (is, e) (turned_back (eqb-false (point_of rows slot) point e)))

  -- so many are looked at
  turned_many : (todo back : List ℕ) (now : State) → SoundIn apart rows octets now → slots_of now.queues apart ≡ todo ++ back
      → now.log.count + length todo ≤ room now.log.area
      → reports_of (repeat (released_one plan links marks rows point) (length todo) now).log ≡ reports_of now.log ++ says todo
  unfolding repeat
  turned_many [] back now sound here enough = none_behind (reports_of now.log) (says []) says_none
  turned_many (slot ∷ todo) back now sound here enough =
      let one = turned_one slot (todo ++ back) now sound here (omega arith) in
      let next : State = released_one plan links marks rows point now in
      let left : next.log.count + length todo ≤ room next.log.area = omega (arith, one.counted, one.long, says_one slot) in
      turned_many todo (back ++ one.back) next one.sound (one.leaves ∙ append_assoc todo back one.back) left
      ∙ ap (λ (l : List Report). l ++ says todo) one.told
      ∙ append_assoc (reports_of now.log) (says (slot ∷ [])) (says todo)
      ∙ ap (λ (l : List Report). reports_of now.log ++ l) (sym (says_more slot todo))

  -- all of them
  pub released_told : (now : State) → SoundIn apart rows octets now → now.log.count + count_of now.queues.spans apart ≤ room now.log.area
      → reports_of (released plan links marks rows point now).log
      ≡ reports_of now.log ++ drops_for 1 rows (stranded goes (going (point_of rows) point (slots_of now.queues apart)))
  unfolding released
  released_told now sound enough =
      let slots : List ℕ = slots_of now.queues apart in
      let size : length slots ≡ count_of now.queues.spans apart = queue_length now.queues.spans now.queues.rings apart in
      ap (λ (n : ℕ). reports_of (repeat (released_one plan links marks rows point) n now).log) (sym size)
      ∙ turned_many slots [] now sound (sym (append-nil slots)) (omega (arith, size))
