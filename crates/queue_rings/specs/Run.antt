-- Runs: lists that are given place by place.
use Rattle.std.specs.Prelude.{ℕ, zero, suc, List, [], ◌∷◌}

-- what stands at the n places from k on
unfoldable pub run : (ℕ → ℕ) → ℕ → ℕ → List ℕ
run f k zero = []
run f k (suc n) = f k ∷ run f (suc k) n
