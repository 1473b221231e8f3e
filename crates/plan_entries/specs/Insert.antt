-- A value put in among the values of an array: those from its place on move up by one, and the last falls off.
use Rattle.std.specs.Prelude.{ℕ, List, ◌∷◌, ◌++◌, length, take, drop}

abbrev pub inserted : {A : Type 0} → ℕ → A → List A → List A
inserted place value values = take (length values) (take place values ++ (value ∷ drop place values))
