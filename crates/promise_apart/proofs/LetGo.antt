-- Each message held apart is looked at once: those for a point go to the ends of their links' queues, in order, or are dropped, reason 1,
-- and the others stay, in their order.
-- Assumes nothing.
use mathlib.Core.Path.{◌≡◌, refl, sym, ap, ◌∙◌, subst}
use mathlib.Core.Bool.{true, false}
use mathlib.Core.List.{List, [], ◌∷◌, ◌++◌, append_assoc, append-nil}
use Prim.Native.Nat.{ℕ, ◌+◌, ◌≤◌, ◌<◌}
use native.Mathlib.Omega.{arith}
use lib.Dec.{eqb}
use lib.ListN.{length, length-append}
use borrow.Author.Tests.{lt-ltb, le-ltb}
use borrow.Table.Steps.{cases}
use Rattle.plan.specs.declared.data.Plan.{Plan}
use Rattle.plan.proofs.Split.{split, alike}
use Rattle.queue_store.specs.Sound.{Sound}
use Rattle.reports.specs.Report.{room, told}
use Rattle.queue_heads.specs.Head.{moved, freed, repeat}
use Rattle.queue_retiring.specs.Leave.{State, dropped_one}
use Rattle.queue_moving.specs.Move.{point_of, goes_to, moved_one, apart}
use Rattle.rerouting_releasing.specs.Release.{released_one}
use Rattle.promise_runs.proofs.Counts.{move_sound}
use Rattle.promise_ledger.specs.Held.{arrival_of}
use Rattle.promise_ledger.specs.Reported.{Report, report, reports_of}
use Rattle.promise_ledger.proofs.Told.{told_there, told_count, told_long}
use Rattle.promise_leaving.specs.Going.{slots_of, going, drops_for}
use Rattle.promise_leaving.proofs.Queues.{head_found, head_is, moved_from, moved_to, moved_other, freed_from, freed_other, freed_sound}
use Rattle.promise_leaving.proofs.Passing.{none_behind, none_counted}
use Rattle.promise_leaving.proofs.Gone.{with}
use Rattle.promise_leaving.proofs.Going.{going_none, going_more, going_there, going_elsewhere, stranded_none, stranded_there, stranded_here, strays, strays_more, strays_one}
use Rattle.promise_apart.specs.LetGo.{for_others}
use Rattle.promise_apart.proofs.Turned.{turned}

module _ (plan : Plan) (links marks rows octets : List ℕ) (point : ℕ) where
  abbrev goes : ℕ → ℕ
  goes slot = goes_to plan links marks rows slot

  -- whether a message is for the point
  abbrev is_for : ℕ → Type 0
  is_for slot = eqb (point_of rows slot) point ≡ true

  -- what a link is sent of some slots, and what is told of them
  abbrev pub sent : ℕ → List ℕ → List ℕ
  sent link slots = going goes link (going (point_of rows) point slots)

  abbrev pub tells : List ℕ → List Report
  tells slots = strays goes rows (going (point_of rows) point slots)

  -- of more slots, the first first
  sent_more : (link slot : ℕ) (slots : List ℕ) → sent link (slot ∷ slots) ≡ sent link (slot ∷ []) ++ sent link slots
  unfolding going
  sent_more link slot slots =
      cases (eqb (point_of rows slot) point)
      (λ e. simp e (going_more goes link slot (going (point_of rows) point slots)))
      (λ e. simp (e, going_none goes link))

  tells_more : (slot : ℕ) (slots : List ℕ) → tells (slot ∷ slots) ≡ tells (slot ∷ []) ++ tells slots
  unfolding going
  tells_more slot slots =
      cases (eqb (point_of rows slot) point)
      (λ e. simp e (strays_more goes rows slot (going (point_of rows) point slots)))
      (λ e. simp (e, stranded_none goes))

  others_more : (slot : ℕ) (slots : List ℕ)
      → for_others rows point (slot ∷ slots) ≡ for_others rows point (slot ∷ []) ++ for_others rows point slots
  unfolding for_others
  others_more slot slots = cases (eqb (point_of rows slot) point) (λ e. simp e) (λ e. simp e)

  tells_one : (slot : ℕ) → length (tells (slot ∷ [])) ≤ 1
  unfolding going
  tells_one slot =
      cases (eqb (point_of rows slot) point)
      (λ e. simp e (strays_one goes rows slot))
      (λ e. simp (e, stranded_none goes) (omega arith))

  abbrev pub SoundIn : State → Type 0
  SoundIn now = Sound now.queues.spans now.queues.rings rows octets

  -- what is held apart after some slots are looked at, what each link gains, and what is told
  pub record Looked (slots left : List ℕ) (before after : State) : Type 0 where
    pub sound : SoundIn after
    pub stays : slots_of after.queues apart ≡ left ++ for_others rows point slots
    pub joins : (link : ℕ) → link < 32 → slots_of after.queues link ≡ slots_of before.queues link ++ sent link slots
    pub told : reports_of after.log ≡ reports_of before.log ++ tells slots
    pub counted : after.log.count ≡ before.log.count + length (tells slots)
    pub long : length after.log.area ≡ length before.log.area

  -- the first of those held apart
  module _
      (slot : ℕ)
      (later : List ℕ)
      (now : State)
      (sound : SoundIn now)
      (here : slots_of now.queues apart ≡ slot ∷ later) where
    abbrev Does : State → Type 0
    Does after = Looked (slot ∷ []) later now after

    -- one for the point: nothing of it stays, and the links and the log have what comes of it
    module _ (e : is_for slot) where
      picked : going (point_of rows) point (slot ∷ []) ≡ slot ∷ []
      unfolding going
      picked = simp e

      none_stays : for_others rows point (slot ∷ []) ≡ []
      unfolding for_others
      none_stays = simp e

      -- with a route it joins its link's queue
      routed : goes slot < 32 → Does (with now.log (moved now.queues apart (goes slot)))
      routed h =
          let there : goes slot < 35 = omega arith in
          let silent : tells (slot ∷ []) ≡ [] = ap (strays goes rows) picked ∙ ap (drops_for 1 rows) (stranded_there goes slot h) in
          let comes = moved_to now.queues rows octets sound apart slot later here (goes slot) there (λ back. omega arith) in
          record {
            sound = move_sound now.queues rows octets sound apart (goes slot) there;
            stays =
                moved_from now.queues rows octets sound apart slot later here (goes slot) there (λ back. omega arith)
                ∙ none_behind later (for_others rows point (slot ∷ [])) none_stays;
            joins =
                λ link low.
                alike (goes slot) link
                (λ same.
                ap (slots_of (moved now.queues apart (goes slot))) (sym same)
                ∙ comes
                ∙ ap (λ (o : ℕ). slots_of now.queues o ++ (slot ∷ [])) same
                ∙ ap (λ (l : List ℕ). slots_of now.queues link ++ l) (sym (ap (going goes link) picked ∙ going_there goes link slot same)))
                (λ differs.
                moved_other now.queues rows octets sound apart slot later here (goes slot) there link (λ back. omega arith) (λ back. differs (sym back))
                ∙ none_behind (slots_of now.queues link) (sent link (slot ∷ []))
                (ap (going goes link) picked ∙ going_elsewhere goes link slot differs));
            told = none_behind (reports_of now.log) (tells (slot ∷ [])) silent;
            counted = none_counted now.log.count (tells (slot ∷ [])) silent;
            long = refl;
          }

      -- with none it is dropped
      lost : 32 ≤ goes slot → now.log.count < room now.log.area
          → Does (with (told now.log 1 (arrival_of rows slot)) (freed now.queues apart))
      lost h less =
          let says : tells (slot ∷ []) ≡ report 1 (arrival_of rows slot) ∷ [] =
          ap (strays goes rows) picked ∙ ap (drops_for 1 rows) (stranded_here goes slot h)
          in
          record {
            sound = freed_sound now.queues rows octets sound apart slot later here (omega arith);
            stays =
                freed_from now.queues rows octets sound apart slot later here (omega arith)
                ∙ none_behind later (for_others rows point (slot ∷ [])) none_stays;
            joins =
                λ link low.
                freed_other now.queues rows octets sound apart slot later here (omega arith) link (omega arith) (λ back. omega arith)
                ∙ none_behind (slots_of now.queues link) (sent link (slot ∷ []))
                (ap (going goes link) picked ∙ going_elsewhere goes link slot (λ same. omega arith));
            told =
                told_there now.log 1 (arrival_of rows slot) less
                ∙ ap (λ (l : List Report). reports_of now.log ++ l) (sym says);
            counted =
                told_count now.log 1 (arrival_of rows slot) less
                ∙ ap (λ (l : List Report). now.log.count + length l) (sym says);
            long = told_long now.log 1 (arrival_of rows slot);
          }

      -- which of the two is done
      routed_is : goes slot < 32 → with now.log (moved now.queues apart (goes slot)) ≡ released_one plan links marks rows point now
      unfolding released_one moved_one
      routed_is h =
          simp (head_is now.queues apart slot later here, e, head_found now.queues apart slot later here, lt-ltb (goes slot) 32 h)

      lost_is : 32 ≤ goes slot
          → with (told now.log 1 (arrival_of rows slot)) (freed now.queues apart) ≡ released_one plan links marks rows point now
      unfolding released_one moved_one dropped_one
      lost_is h =
          simp (head_is now.queues apart slot later here, e, head_found now.queues apart slot later here, le-ltb (goes slot) 32 h)

      for_point : now.log.count < room now.log.area → Does (released_one plan links marks rows point now)
      for_point less =
          split (goes slot) 32
          (λ h. subst Does (routed_is h) (routed h))
          (λ h. subst Does (lost_is h) (lost h less))

    -- one for another goes behind the others
    module _ (e : eqb (point_of rows slot) point ≡ false) where
      none_picked : going (point_of rows) point (slot ∷ []) ≡ []
      unfolding going
      none_picked = simp e

      one_stays : for_others rows point (slot ∷ []) ≡ slot ∷ []
      unfolding for_others
      one_stays = simp e

      turns : Does (with now.log (moved now.queues apart apart))
      turns =
          let silent : tells (slot ∷ []) ≡ [] = ap (strays goes rows) none_picked ∙ ap (drops_for 1 rows) (stranded_none goes) in
          record {
            sound = move_sound now.queues rows octets sound apart apart (omega arith);
            stays =
                turned now.queues rows octets sound apart slot later here (omega arith)
                ∙ ap (λ (l : List ℕ). later ++ l) (sym one_stays);
            joins =
                λ link low.
                moved_other now.queues rows octets sound apart slot later here apart (omega arith) link (λ back. omega arith) (λ back. omega arith)
                ∙ none_behind (slots_of now.queues link) (sent link (slot ∷ [])) (ap (going goes link) none_picked ∙ going_none goes link);
            told = none_behind (reports_of now.log) (tells (slot ∷ [])) silent;
            counted = none_counted now.log.count (tells (slot ∷ [])) silent;
            long = refl;
          }

      turns_is : with now.log (moved now.queues apart apart) ≡ released_one plan links marks rows point now
      unfolding released_one
      turns_is = simp (head_is now.queues apart slot later here, e)

      for_another : Does (released_one plan links marks rows point now)
      for_another = subst Does turns_is turns

    -- one or the other
    looked_one : now.log.count < room now.log.area → Does (released_one plan links marks rows point now)
    looked_one less = cases (eqb (point_of rows slot) point) (λ e. for_point e less) for_another

  -- all of them, the first first: those looked at before stand behind
  pub looked : (slots left : List ℕ) (now : State) → SoundIn now → slots_of now.queues apart ≡ slots ++ left
      → now.log.count + length slots ≤ room now.log.area
      → Looked slots left now (repeat (released_one plan links marks rows point) (length slots) now)
  unfolding repeat going for_others
  looked [] left now sound here enough = record {
    sound = sound;
    stays = here ∙ sym (append-nil left);
    joins = λ link low. none_behind (slots_of now.queues link) (sent link []) (going_none goes link);
    told = none_behind (reports_of now.log) (tells []) (ap (drops_for 1 rows) (stranded_none goes));
    counted = none_counted now.log.count (tells []) (ap (drops_for 1 rows) (stranded_none goes));
    long = refl;
  }
  looked (slot ∷ slots) left now sound here enough =
      let next : State = released_one plan links marks rows point now in
      let first = looked_one slot (slots ++ left) now sound here (omega arith) in
      let behind : List ℕ = left ++ for_others rows point (slot ∷ []) in
      let rest =
      looked slots behind next first.sound (first.stays ∙ append_assoc slots left (for_others rows point (slot ∷ [])))
      (omega (arith, first.counted, first.long, tells_one slot))
      in
      record {
        sound = rest.sound;
        stays =
            rest.stays
            ∙ append_assoc left (for_others rows point (slot ∷ [])) (for_others rows point slots)
            ∙ ap (λ (l : List ℕ). left ++ l) (sym (others_more slot slots));
        joins =
            λ link low.
            rest.joins link low
            ∙ ap (λ (l : List ℕ). l ++ sent link slots) (first.joins link low)
            ∙ append_assoc (slots_of now.queues link) (sent link (slot ∷ [])) (sent link slots)
            ∙ ap (λ (l : List ℕ). slots_of now.queues link ++ l) (sym (sent_more link slot slots));
        told =
            rest.told
            ∙ ap (λ (l : List Report). l ++ tells slots) first.told
            ∙ append_assoc (reports_of now.log) (tells (slot ∷ [])) (tells slots)
            ∙ ap (λ (l : List Report). reports_of now.log ++ l) (sym (tells_more slot slots));
        counted =
            omega (arith, rest.counted, first.counted, length-append (tells (slot ∷ [])) (tells slots))
            ∙ ap (λ (l : List Report). now.log.count + length l) (sym (tells_more slot slots));
        long = rest.long ∙ first.long;
      }
