-- What leaves the front of a link's queue: the other queues gain what is sent to them, the log gains what is told, and what holds of
-- one message holds of many.
-- Assumes nothing.
use mathlib.Core.Path.{◌≡◌, refl, sym, ap, ◌∙◌, subst}
use mathlib.Core.List.{List, [], ◌∷◌, ◌++◌, append_assoc, append-nil}
use Prim.Native.Nat.{ℕ, zero, suc, ◌+◌, ◌≤◌, ◌<◌}
use native.Mathlib.Nat.{add-zero}
use native.Mathlib.Omega.{arith}
use lib.ListN.{length, take, drop, length-append}
use Rattle.queue_store.specs.Sound.{Sound}
use Rattle.reports.specs.Report.{room}
use Rattle.queue_heads.specs.Head.{repeat}
use Rattle.queue_retiring.specs.Leave.{State}
use Rattle.promise_ledger.specs.Reported.{Report, reports_of}
use Rattle.promise_leaving.specs.Going.{slots_of}

-- a list with none behind it is as it was, and counts as much
pub none_behind : {A : Type 0} (list more : List A) → more ≡ [] → list ≡ list ++ more
none_behind {A} list more none = sym (append-nil list) ∙ ap (λ (l : List A). list ++ l) (sym none)

pub none_counted : {A : Type 0} (count : ℕ) (more : List A) → more ≡ [] → count ≡ count + length more
none_counted {A} count more none = sym (add-zero count) ∙ ap (λ (l : List A). count + length l) (sym none)

module _ (link : ℕ) (rows octets : List ℕ) where
  abbrev pub SoundIn : State → Type 0
  SoundIn now = Sound now.queues.spans now.queues.rings rows octets

  -- what is left of the link's queue, what each other link is sent, and what is told
  pub record Passed (left : List ℕ) (sent : ℕ → List ℕ) (tells : List Report) (before after : State) : Type 0 where
    pub sound : SoundIn after
    pub leaves : slots_of after.queues link ≡ left
    pub joins : (other : ℕ) → other < 32 → (other ≡ link → ⊥)
        → slots_of after.queues other ≡ slots_of before.queues other ++ sent other
    pub stays : slots_of after.queues 32 ≡ slots_of before.queues 32
    pub told : reports_of after.log ≡ reports_of before.log ++ tells
    pub counted : after.log.count ≡ before.log.count + length tells
    pub long : length after.log.area ≡ length before.log.area

  -- nothing is done
  pub passed_none : (left : List ℕ) (sent : ℕ → List ℕ) (tells : List Report) (now : State) → SoundIn now
      → slots_of now.queues link ≡ left → ((other : ℕ) → sent other ≡ []) → tells ≡ []
      → Passed left sent tells now now
  passed_none left sent tells now sound here empty silent = record {
    sound = sound;
    leaves = here;
    joins = λ other h apart. none_behind (slots_of now.queues other) (sent other) (empty other);
    stays = refl;
    told = none_behind (reports_of now.log) tells silent;
    counted = none_counted now.log.count tells silent;
    long = refl;
  }

  -- one after the other
  pub passed_on : (middle left : List ℕ) (one two sent : ℕ → List ℕ) (first second tells : List Report)
      → ((other : ℕ) → sent other ≡ one other ++ two other) → tells ≡ first ++ second → (before now after : State)
      → Passed middle one first before now → Passed left two second now after → Passed left sent tells before after
  passed_on middle left one two sent first second tells sends says before now after p q = record {
    sound = q.sound;
    leaves = q.leaves;
    joins =
        λ other h apart.
        q.joins other h apart
        ∙ ap (λ (l : List ℕ). l ++ two other) (p.joins other h apart)
        ∙ append_assoc (slots_of before.queues other) (one other) (two other)
        ∙ ap (λ (l : List ℕ). slots_of before.queues other ++ l) (sym (sends other));
    stays = q.stays ∙ p.stays;
    told =
        q.told
        ∙ ap (λ (l : List Report). l ++ second) p.told
        ∙ append_assoc (reports_of before.log) first second
        ∙ ap (λ (l : List Report). reports_of before.log ++ l) (sym says);
    counted =
        omega (arith, q.counted, p.counted, length-append first second)
        ∙ ap (λ (l : List Report). before.log.count + length l) (sym says);
    long = q.long ∙ p.long;
  }

  -- a step that takes the first of the queue off, if there is one, done so many times: each link is sent, and the log is told, what
  -- comes of each
  module _
      {A : Type 0}
      (state_of : A → State)
      (step : A → A)
      (sent : ℕ → List ℕ → List ℕ)
      (tells : List ℕ → List Report)
      (sent-none : (other : ℕ) → sent other [] ≡ [])
      (Tells-none : tells [] ≡ [])
      (sent_more : (other slot : ℕ) (slots : List ℕ) → sent other (slot ∷ slots) ≡ sent other (slot ∷ []) ++ sent other slots)
      (Tells-more : (slot : ℕ) (slots : List ℕ) → tells (slot ∷ slots) ≡ tells (slot ∷ []) ++ tells slots)
      (tells_one : (slot : ℕ) → length (tells (slot ∷ [])) ≤ 1)
      (idle : (now : A) → slots_of (state_of now).queues link ≡ [] → step now ≡ now)
      (passed_one : (slot : ℕ) (later : List ℕ) (now : A) → SoundIn (state_of now)
      → slots_of (state_of now).queues link ≡ slot ∷ later → (state_of now).log.count < room (state_of now).log.area
      → Passed later (λ (other : ℕ). sent other (slot ∷ [])) (tells (slot ∷ [])) (state_of now) (state_of (step now))) where
    -- of an empty queue nothing comes
    idle_many : (n : ℕ) (now : A) → slots_of (state_of now).queues link ≡ [] → now ≡ repeat step n now
    unfolding repeat
    idle_many zero now here = refl
    idle_many (suc n) now here = idle_many n now here ∙ ap (repeat step n) (sym (idle now here))

    pub passed_many : (n : ℕ) (slots : List ℕ) (now : A) → SoundIn (state_of now) → slots_of (state_of now).queues link ≡ slots
        → (state_of now).log.count + length slots ≤ room (state_of now).log.area
        → Passed (drop n slots) (λ (other : ℕ). sent other (take n slots)) (tells (take n slots)) (state_of now)
        (state_of (repeat step n now))
    unfolding repeat
    passed_many zero slots now sound here enough =
        passed_none slots (λ (other : ℕ). sent other []) (tells []) (state_of now) sound here sent-none Tells-none
    passed_many (suc n) [] now sound here enough =
        subst (λ (after : A). Passed [] (λ (other : ℕ). sent other []) (tells []) (state_of now) (state_of after))
        (idle_many (suc n) now here)
        (passed_none [] (λ (other : ℕ). sent other []) (tells []) (state_of now) sound here sent-none Tells-none)
    passed_many (suc n) (slot ∷ slots) now sound here enough =
        let one = passed_one slot slots now sound here (omega arith) in
        let next : (state_of (step now)).log.count + length slots ≤ room (state_of (step now)).log.area =
        omega (arith, one.counted, one.long, tells_one slot)
        in
        passed_on slots (drop n slots) (λ (other : ℕ). sent other (slot ∷ [])) (λ (other : ℕ). sent other (take n slots))
        (λ (other : ℕ). sent other (slot ∷ take n slots))
        (tells (slot ∷ []))
        (tells (take n slots))
        (tells (slot ∷ take n slots))
        (λ other. sent_more other slot (take n slots))
        (Tells-more slot (take n slots))
        (state_of now)
        (state_of (step now))
        (state_of (repeat step n (step now)))
        one
        (passed_many n slots (step now) one.sound one.leaves next)
