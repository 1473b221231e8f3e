-- The rest of a queue moves: each message with a route to the end of its link's queue, in order, and each with none is dropped,
-- reason 1.
-- Assumes nothing.
use mathlib.Core.Path.{◌≡◌, refl, sym, ap, ◌∙◌, subst}
use mathlib.Core.List.{List, [], ◌∷◌, ◌++◌}
use Prim.Native.Nat.{ℕ, ◌+◌, ◌≤◌, ◌<◌}
use native.Mathlib.Omega.{arith}
use lib.ListN.{length, take, drop, drop_of_length-le}
use lib.Seq.{take_all}
use borrow.Author.Tests.{lt-ltb, le-ltb}
use Rattle.plan.specs.declared.data.Plan.{Plan}
use Rattle.plan.proofs.Split.{split, alike}
use Rattle.area_links.specs.LinkRecords.{record_at}
use Rattle.reports.specs.Report.{room}
use Rattle.route_choice.specs.Which.{none}
use Rattle.queue_heads.specs.Head.{moved, repeat}
use Rattle.queue_retiring.specs.Leave.{State, dropped_one}
use Rattle.queue_moving.specs.Move.{point_of, sls_of, need_of, goes_to, moved_one, moved_all}
use Rattle.queue_rings.specs.Ring.{count_of}
use Rattle.queue_rings.proofs.Queues.{queue_length}
use Rattle.promise_runs.proofs.Counts.{move_sound}
use Rattle.promise_runs.proofs.Carrying.{way_carries}
use Rattle.promise_ledger.specs.Reported.{Report, reports_of}
use Rattle.promise_leaving.specs.Going.{slots_of, going, drops_for}
use Rattle.promise_leaving.proofs.Queues.{head_found, head_is, head_none, moved_from, moved_to, moved_other}
use Rattle.promise_leaving.proofs.Passing.{none_behind, none_counted, SoundIn, Passed, passed_many}
use Rattle.promise_leaving.proofs.Gone.{with, passed_dropped_one}
use Rattle.promise_leaving.proofs.Going.{going_none, stranded_none, going_more, going_there, going_elsewhere, stranded_there, stranded_here, strays, strays_more, strays_one}

module _
    (plan : Plan)
    (links marks rows octets : List ℕ)
    (link : ℕ)
    (within : link < 32)
    (out : (record_at links link).state ≡ 0) where
  abbrev goes : ℕ → ℕ
  goes slot = goes_to plan links marks rows slot

  -- nothing goes to a link that is out
  goes_on : (slot : ℕ) → goes slot < 32 → link ≡ goes slot → ⊥
  unfolding goes_to
  goes_on slot h same =
      way_carries plan links marks (need_of slot) (point_of rows slot) (sls_of rows slot) h
      (ap (λ (l : ℕ). (record_at links l).state) (sym same) ∙ out)

  -- the first of the queue
  module _
      (slot : ℕ)
      (later : List ℕ)
      (now : State)
      (sound : SoundIn link rows octets now)
      (here : slots_of now.queues link ≡ slot ∷ later) where
    -- what is done with it
    moved_is : goes slot < 32 → with now.log (moved now.queues link (goes slot)) ≡ moved_one plan links marks rows link now
    unfolding moved_one
    moved_is h =
        let found = head_found now.queues link slot later here in
        let is = head_is now.queues link slot later here in
        simp (found, is, lt-ltb (goes slot) 32 h)

    dropped_is : 32 ≤ goes slot → dropped_one rows link 1 now ≡ moved_one plan links marks rows link now
    unfolding moved_one
    dropped_is h =
        let found = head_found now.queues link slot later here in
        let is = head_is now.queues link slot later here in
        simp (found, is, le-ltb (goes slot) 32 h)

    -- what the queues are then
    abbrev Does : State → Type 0
    Does after =
        Passed link rows octets later (λ (other : ℕ). going goes other (slot ∷ [])) (strays goes rows (slot ∷ [])) now after

    -- with a route it joins its link's queue
    passed_route : goes slot < 32 → Does (with now.log (moved now.queues link (goes slot)))
    passed_route h =
        let there : goes slot < 35 = omega arith in
        let leaves = goes_on slot h in
        let silent : strays goes rows (slot ∷ []) ≡ [] = ap (drops_for 1 rows) (stranded_there goes slot h) in
        let others = moved_other now.queues rows octets sound link slot later here (goes slot) there in
        let comes = moved_to now.queues rows octets sound link slot later here (goes slot) there (λ e. leaves (sym e)) in
        record {
          sound = move_sound now.queues rows octets sound link (goes slot) there;
          leaves = moved_from now.queues rows octets sound link slot later here (goes slot) there leaves;
          joins =
              λ other low apart.
              alike (goes slot) other
              (λ same.
              ap (slots_of (moved now.queues link (goes slot))) (sym same)
              ∙ comes
              ∙ ap (λ (o : ℕ). slots_of now.queues o ++ (slot ∷ [])) same
              ∙ ap (λ (l : List ℕ). slots_of now.queues other ++ l) (sym (going_there goes other slot same)))
              (λ differs.
              others other apart (λ e. differs (sym e))
              ∙ none_behind (slots_of now.queues other) (going goes other (slot ∷ [])) (going_elsewhere goes other slot differs));
          stays = others 32 (λ e. omega arith) (λ e. omega arith);
          told = none_behind (reports_of now.log) (strays goes rows (slot ∷ [])) silent;
          counted = none_counted now.log.count (strays goes rows (slot ∷ [])) silent;
          long = refl;
        }

    -- with none it is dropped
    passed_stray : 32 ≤ goes slot → now.log.count < room now.log.area → Does (dropped_one rows link 1 now)
    passed_stray h less =
        let gone = passed_dropped_one link rows octets within 1 slot later now sound here less in
        let says : strays goes rows (slot ∷ []) ≡ drops_for 1 rows (slot ∷ []) = ap (drops_for 1 rows) (stranded_here goes slot h) in
        record {
          sound = gone.sound;
          leaves = gone.leaves;
          joins =
              λ other low apart.
              gone.joins other low apart
              ∙ ap (λ (l : List ℕ). slots_of now.queues other ++ l) (sym (going_elsewhere goes other slot (λ e. omega arith)));
          stays = gone.stays;
          told = gone.told ∙ ap (λ (l : List Report). reports_of now.log ++ l) (sym says);
          counted = gone.counted ∙ ap (λ (l : List Report). now.log.count + length l) (sym says);
          long = gone.long;
        }

    -- one or the other
    passed_moved_one : now.log.count < room now.log.area → Does (moved_one plan links marks rows link now)
    passed_moved_one less =
        split (goes slot) 32
        (λ h. subst Does (moved_is h) (passed_route h))
        (λ h. subst Does (dropped_is h) (passed_stray h less))

  -- of an empty queue none moves
  moved_none : (now : State) → slots_of now.queues link ≡ [] → moved_one plan links marks rows link now ≡ now
  unfolding moved_one
  moved_none now none = simp (head_none now.queues link none)

  -- all of them
  abbrev Moves : List ℕ → List ℕ → State → State → Type 0
  Moves left slots now after =
      Passed link rows octets left (λ (other : ℕ). going goes other slots) (strays goes rows slots) now after

  pub passed_moved : (slots : List ℕ) (now : State) → SoundIn link rows octets now → slots_of now.queues link ≡ slots
      → now.log.count + length slots ≤ room now.log.area → Moves [] slots now (moved_all plan links marks rows link now)
  unfolding moved_all
  passed_moved slots now sound here enough =
      let many : ℕ = count_of now.queues.spans link in
      let long : length slots ≡ many = sym (ap length here) ∙ queue_length now.queues.spans now.queues.rings link in
      let after : State = repeat (moved_one plan links marks rows link) many now in
      let none_left : drop many slots ≡ [] = drop_of_length-le slots {i = many} (omega (arith, long)) in
      let all : take many slots ≡ slots = take_all many slots (omega (arith, long)) in
      subst (λ (l : List ℕ). Moves [] l now after) all
      (subst (λ (l : List ℕ). Moves l (take many slots) now after) none_left
      (passed_many link rows octets (λ (s : State). s) (moved_one plan links marks rows link) (going goes) (strays goes rows)
      (going_none goes)
      (ap (drops_for 1 rows) (stranded_none goes))
      (going_more goes)
      (strays_more goes rows)
      (strays_one goes rows)
      moved_none
      (λ slot later s sound here less. passed_moved_one slot later s sound here less)
      many
      slots
      now
      sound
      here
      enough))
