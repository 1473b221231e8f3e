-- What is read off the fates of a part is what is read off each queue's numbers, queue by queue, where the queues hold at most 256 together. Assumes nothing.
use mathlib.Core.Path.{◌≡◌, refl, sym, ap, ap₂, ◌∙◌}
use mathlib.Core.List.{List, [], ◌∷◌, ◌++◌, map, append_assoc, append-nil}
use Prim.Native.Nat.{ℕ, zero, suc, ◌+◌, ◌-◌, ◌≤◌, ◌<◌, min}
use native.Mathlib.Numerals.{add-one}
use native.Mathlib.Omega.{arith}
use Rattle.plan.proofs.Split.{alike}
use Rattle.area_slots.specs.declared.Slot.{Slot}
use Rattle.area_slots.specs.SlotRows.{slot_at}
use Rattle.queue_rings.specs.Run.{run}
use Rattle.queue_rings.specs.Ring.{count_of, entry, queue}
use Rattle.queue_store.specs.Sound.{tally, is}
use Rattle.queue_heads.specs.Head.{both}
use Rattle.fate_places.specs.Places.{Held, places, message_at}
use Rattle.fate_lines.specs.declared.Fate.{Fate}
use Rattle.replay_fates.specs.declared.deciding.Part.{Part}
use Rattle.replay_fates.specs.Fates.{fate_at, fates_at, fates_from, fates_in}
use Rattle.replay_fates.specs.Holds.{together}
use Rattle.promise_ledger.specs.Held.{arrival_of, numbers}
use Rattle.promise_fates.specs.Lines.{picked}
use Rattle.promise_fates.proofs.Standing.{message_is}
use Rattle.promise_fates.proofs.Counting.{counts_first, counts_later}

module _ {A B : Type 0} (read : A → List B) where
  -- of one list and another behind it
  pub picked_on : (one other : List A) → picked read (one ++ other) ≡ picked read one ++ picked read other
  unfolding picked
  picked_on [] other = refl
  picked_on (fate ∷ one) other =
      ap (λ (l : List B). read fate ++ l) (picked_on one other) ∙ sym (append_assoc (read fate) (picked read one) (picked read other))

module _ {B : Type 0} (read : ℕ → List B) where
  -- of numbers that each give a line
  pub picked_all : (line : ℕ → B) (l : List ℕ) → ((n : ℕ) → 1 ≤ tally (is n) l → read n ≡ line n ∷ []) → picked read l ≡ map line l
  unfolding picked
  picked_all line [] each = refl
  picked_all line (number ∷ later) each =
      ap₂ (λ (one rest : List B). one ++ rest) (each number (counts_first number later))
      (picked_all line later (λ n h. each n (counts_later n number later h)))

  -- of numbers that give none
  pub picked_none : (l : List ℕ) → ((n : ℕ) → 1 ≤ tally (is n) l → read n ≡ []) → picked read l ≡ []
  unfolding picked
  picked_none [] each = refl
  picked_none (number ∷ later) each =
      ap₂ (λ (one rest : List B). one ++ rest) (each number (counts_first number later))
      (picked_none later (λ n h. each n (counts_later n number later h)))

-- by what gives the same
pub picked_same : {A B : Type 0} (read other : A → List B) (l : List A) → ((x : A) → read x ≡ other x) → picked read l ≡ picked other l
unfolding picked
picked_same read other [] same = refl
picked_same {B = B} read other (one ∷ later) same = ap₂ (λ (x y : List B). x ++ y) (same one) (picked_same read other later same)

-- of what stands for others
pub picked_map : {A B C : Type 0} (read : B → List C) (f : A → B) (l : List A) → picked read (map f l) ≡ picked (λ (x : A). read (f x)) l
unfolding picked
picked_map read f [] = refl
picked_map {C = C} read f (one ∷ later) = ap (λ (l : List C). read (f one) ++ l) (picked_map read f later)

-- one list behind the other, of so many queues from one on
unfoldable pub in_queues : {B : Type 0} → (ℕ → List B) → ℕ → ℕ → List B
in_queues of queue zero = []
in_queues of queue (suc more) = of queue ++ in_queues of (queue + 1) more

in_same : {B : Type 0} (of other : ℕ → List B) (from more : ℕ) → ((queue : ℕ) → of queue ≡ other queue)
    → in_queues of from more ≡ in_queues other from more
unfolding in_queues
in_same of other from zero same = refl
in_same {B = B} of other from (suc more) same = ap₂ (λ (one rest : List B). one ++ rest) (same from) (in_same of other (from + 1) more same)

module _ {B : Type 0} (of : ℕ → List B) where
  pub in_none : (from more : ℕ) → ((queue : ℕ) → from ≤ queue → queue < from + more → of queue ≡ []) → in_queues of from more ≡ []
  unfolding in_queues
  in_none from zero none = refl
  in_none from (suc more) none =
      ap₂ (λ (one rest : List B). one ++ rest) (none from (omega arith) (omega arith))
      (in_none (from + 1) more (λ queue h below. none queue (omega arith) (omega arith)))

  -- where all but one have none
  pub in_one : (only from more : ℕ) → from ≤ only → only < from + more
      → ((queue : ℕ) → from ≤ queue → queue < from + more → (queue ≡ only → ⊥) → of queue ≡ []) → in_queues of from more ≡ of only
  unfolding in_queues
  in_one only from zero h below others = absurd (omega arith)
  in_one only from (suc more) h below others =
      alike from only
      (λ same.
      ap₂ (λ (one rest : List B). one ++ rest) (ap of same)
      (in_none (from + 1) more (λ queue after short. others queue (omega arith) (omega arith) (λ e. omega arith)))
      ∙ append-nil (of only))
      (λ apart.
      ap₂ (λ (one rest : List B). one ++ rest) (others from (omega arith) (omega arith) apart)
      (in_one only (from + 1) more (omega (arith, apart)) (omega arith) (λ queue after short other. others queue (omega arith) (omega arith) other)))

module _ {B : Type 0} (part : Part) (walked after : Held) (reports : List ℕ) (count : ℕ) (read : Fate → List B) where
  -- by what is known of each message
  module _ (give : ℕ → Slot → List B)
      (each : (queue place : ℕ) → read (fate_at part walked after reports count queue place) ≡ give queue (message_at walked queue place)) where
    -- what is read off the message in a slot
    abbrev pub give_in : ℕ → ℕ → List B
    give_in ring slot = give ring (slot_at walked.rows slot)

    abbrev pub slots_in_lem : ℕ → List ℕ
    slots_in_lem ring = queue walked.spans walked.rings ring

    slots_at : (ring place more : ℕ) → place + more ≤ count_of walked.spans ring
        → picked read (fates_at part walked after reports count ring place more)
        ≡ picked (give_in ring) (run (entry walked.spans walked.rings ring) place more)
    unfolding fates_at picked run
    slots_at ring place zero short = refl
    slots_at ring place (suc more) short =
        ap₂ (λ (one rest : List B). one ++ rest) (each ring place ∙ ap (give ring) (message_is walked ring place (omega arith)))
        (slots_at ring (place + 1) more (omega arith)
        ∙ ap (λ (k : ℕ). picked (give_in ring) (run (entry walked.spans walked.rings ring) k more)) (add-one place))

    module _ (short : (ring : ℕ) → count_of walked.spans ring ≤ 256) where
      slots_from : (ring rings left : ℕ) → together walked ring rings ≤ left
          → picked read (fates_from part walked after reports count ring rings left)
          ≡ in_queues (λ (r : ℕ). picked (give_in r) (slots_in_lem r)) ring rings
      unfolding fates_from in_queues together places queue picked
      slots_from ring zero left few = refl
      slots_from ring (suc rings) left few =
          let many : ℕ = min (places walked ring) left in
          let all : many ≡ count_of walked.spans ring = omega (arith, short ring) in
          picked_on read (fates_at part walked after reports count ring 0 many)
          (fates_from part walked after reports count (ring + 1) rings (left - many))
          ∙ ap₂ (λ (one rest : List B). one ++ rest)
          (slots_at ring 0 many (omega (arith, all))
          ∙ ap (λ (k : ℕ). picked (give_in ring) (run (entry walked.spans walked.rings ring) 0 k)) all)
          (slots_from (ring + 1) rings (left - many) (omega (arith, all)))

      pub slots_in : together walked 0 33 ≤ 256
          → picked read (fates_in part walked after reports count) ≡ in_queues (λ (r : ℕ). picked (give_in r) (slots_in_lem r)) 0 33
      unfolding fates_in
      slots_in few = slots_from 0 33 256 few

  -- by its arrival number
  module _ (give : ℕ → ℕ → List B)
      (each : (queue place : ℕ) → read (fate_at part walked after reports count queue place) ≡ give queue (message_at walked queue place).arrival)
      (short : (ring : ℕ) → count_of walked.spans ring ≤ 256) where
    -- a queue by its numbers
    abbrev pub in_queue : ℕ → List ℕ
    in_queue ring = numbers walked.rows (both walked.spans walked.rings) ring

    pub walked_in : together walked 0 33 ≤ 256
        → picked read (fates_in part walked after reports count) ≡ in_queues (λ (r : ℕ). picked (give r) (in_queue r)) 0 33
    unfolding numbers
    walked_in few =
        slots_in (λ (ring : ℕ) (known : Slot). give ring known.arrival) each short few
        ∙ in_same (λ (ring : ℕ). picked (λ (slot : ℕ). give ring (arrival_of walked.rows slot)) (queue walked.spans walked.rings ring))
        (λ (ring : ℕ). picked (give ring) (map (arrival_of walked.rows) (queue walked.spans walked.rings ring)))
        0
        33
        (λ ring. sym (picked_map (give ring) (arrival_of walked.rows) (queue walked.spans walked.rings ring)))
