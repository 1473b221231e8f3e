-- A list searched by a test.
use Rattle.std.specs.Prelude.{ℕ, suc, Bool, false, cond, ◌||◌, List, [], ◌∷◌}

-- whether one of some values passes the test
unfoldable pub one : {A : Type 0} → (A → Bool) → List A → Bool
one test [] = false
one test (value ∷ rest) = test value || one test rest

-- how many of them do
unfoldable pub many : {A : Type 0} → (A → Bool) → List A → ℕ
many test [] = 0
many test (value ∷ rest) = cond (test value) (suc (many test rest)) (many test rest)
