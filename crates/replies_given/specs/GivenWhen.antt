-- When a row of a table is given: "The first row after 0 that applies is the reply" (R60).
use Rattle.std.specs.Prelude.{ℕ, true, false, List, [], ◌∷◌, ◌≡◌}
use Rattle.replies.specs.Reply.{Row}

-- a row with this number applies, and no row before it does
pub data Gives : List Row → ℕ → Type 0 where
  here : (now : Row) (later : List Row) → now.applies ≡ true → Gives (now ∷ later) now.number
  there : (now : Row) (later : List Row) (n : ℕ) → now.applies ≡ false → Gives later n → Gives (now ∷ later) n

-- no row applies
pub data None : List Row → Type 0 where
  end : None []
  next : (now : Row) (later : List Row) → now.applies ≡ false → None later → None (now ∷ later)
