-- The lines of fates, message by message and queue by queue: those from one on are its own and those behind it. Assumes nothing.
use mathlib.Core.Path.{◌≡◌, refl, sym, ap, ◌∙◌}
use mathlib.Core.List.{List, [], ◌∷◌, ◌++◌, append_assoc}
use Prim.Native.Nat.{ℕ, suc, ◌+◌, ◌-◌, ◌≤◌, ◌<◌, min}
use native.Mathlib.Omega.{arith}
use Rattle.fate_places.specs.Places.{Held, places}
use Rattle.fate_lines.specs.declared.Fate.{Fate}
use Rattle.fate_lines.specs.Lines.{fate_line, fate_lines}
use Rattle.replay_fates.specs.declared.deciding.Part.{Part}
use Rattle.replay_fates.specs.Fates.{fate_at, fates_at, fates_from}

-- fates behind fates
pub lines_append : (number : ℕ) (one other : List Fate) → fate_lines number (one ++ other) ≡ fate_lines number one ++ fate_lines number other
unfolding fate_lines
lines_append number [] other = refl
lines_append number (fate ∷ one) other =
    ap (λ (l : List (List ℕ)). fate_line number fate ++ l) (lines_append number one other)
    ∙ sym (append_assoc (fate_line number fate) (fate_lines number one) (fate_lines number other))

module _ (number : ℕ) (part : Part) (walked after : Held) (reports : List ℕ) (count : ℕ) where
  module _ (queue k m : ℕ) where
    pub places_on : k < m
        → fate_lines number (fates_at part walked after reports count queue k (m - k))
        ≡ fate_line number (fate_at part walked after reports count queue k)
        ++ fate_lines number (fates_at part walked after reports count queue (k + 1) (m - (k + 1)))
    unfolding fate_lines fates_at
    places_on h =
        let left : m - k ≡ suc (m - (k + 1)) = omega arith in
        ap (λ (n : ℕ). fate_lines number (fates_at part walked after reports count queue k n)) left

    pub places_end : m ≤ k → fate_lines number (fates_at part walked after reports count queue k (m - k)) ≡ []
    unfolding fate_lines fates_at
    places_end h =
        let none : m - k ≡ 0 = omega arith in
        ap (λ (n : ℕ). fate_lines number (fates_at part walked after reports count queue k n)) none

  module _ (queue m left : ℕ) where
    abbrev many : ℕ
    many = min (places walked queue) left

    pub queues_on : queue < m
        → fate_lines number (fates_from part walked after reports count queue (m - queue) left)
        ≡ fate_lines number (fates_at part walked after reports count queue 0 many)
        ++ fate_lines number (fates_from part walked after reports count (queue + 1) (m - (queue + 1)) (left - many))
    unfolding fates_from
    queues_on h =
        let on : m - queue ≡ suc (m - (queue + 1)) = omega arith in
        ap (λ (n : ℕ). fate_lines number (fates_from part walked after reports count queue n left)) on
        ∙ lines_append number (fates_at part walked after reports count queue 0 many)
        (fates_from part walked after reports count (queue + 1) (m - (queue + 1)) (left - many))

    pub queues_end : m ≤ queue → fate_lines number (fates_from part walked after reports count queue (m - queue) left) ≡ []
    unfolding fate_lines fates_from
    queues_end h =
        let none : m - queue ≡ 0 = omega arith in
        ap (λ (n : ℕ). fate_lines number (fates_from part walked after reports count queue n left)) none

-- all that is told of a call: what is new, what was sent, and what left
pub three_parts : (number : ℕ) (new : List Fate) (sent : Fate) (left : List Fate)
    → fate_lines number new ++ (fate_line number sent ++ fate_lines number left) ≡ fate_lines number (new ++ (sent ∷ left))
unfolding fate_lines
three_parts number new sent left = sym (lines_append number new (sent ∷ left))

pub four_parts : (number : ℕ) (new : List Fate) (sent : Fate) (left moved : List Fate)
    → fate_lines number new ++ (fate_line number sent ++ (fate_lines number left ++ fate_lines number moved))
    ≡ fate_lines number (new ++ (sent ∷ (left ++ moved)))
four_parts number new sent left moved =
    ap (λ (l : List (List ℕ)). fate_lines number new ++ (fate_line number sent ++ l)) (sym (lines_append number left moved))
    ∙ three_parts number new sent (left ++ moved)
