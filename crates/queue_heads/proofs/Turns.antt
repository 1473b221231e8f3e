-- The turns of a loop that does one step so many times.
-- Assumes nothing.
use mathlib.Core.Path.{◌≡◌, refl, sym, ap, ◌∙◌}
use Prim.Native.Nat.{ℕ, suc, ◌+◌, ◌-◌, ◌≤◌, ◌<◌}
use native.Mathlib.Omega.{arith}
use Rattle.queue_heads.specs.Head.{repeat}

module _ {A : Type 0} (step : A → A) where
  -- one time more is the step done first
  pub repeat_turn : (more : ℕ) (state : A) → repeat step (suc more) state ≡ repeat step more (step state)
  unfolding repeat
  repeat_turn more state = refl

  -- no time changes nothing
  pub repeat_end : (state : A) → repeat step 0 state ≡ state
  unfolding repeat
  repeat_end state = refl

  -- after k turns of so many, what is left to do comes to the whole
  module _ (many k : ℕ) (now whole : A) (inv : repeat step (many - k) now ≡ whole) where
    -- a turn: what is left after it comes to the same whole
    pub turn_done : k < many → {next : A} → next ≡ step now → repeat step (many - (k + 1)) next ≡ whole
    turn_done some stepped =
        let one : many - k ≡ suc (many - (k + 1)) = omega arith in
        let again : repeat step (many - k) now ≡ repeat step (suc (many - (k + 1))) now = ap (λ (n : ℕ). repeat step n now) one in
        ap (repeat step (many - (k + 1))) stepped ∙ sym (repeat_turn (many - (k + 1)) now) ∙ sym again ∙ inv

    -- the end: with none left the whole is reached
    pub turns_done : many ≤ k → now ≡ whole
    turns_done none =
        let last : many - k ≡ 0 = omega arith in
        sym (repeat_end now) ∙ sym (ap (λ (n : ℕ). repeat step n now) last) ∙ inv
