-- Two texts are the same octet by octet where they are equal lists. Assumes nothing.
use mathlib.Core.Path.{◌≡◌, refl, ap}
use mathlib.Core.Bool.{Bool, ◌&&◌}
use mathlib.Core.List.{List, [], ◌∷◌}
use Prim.Native.Nat.{ℕ}
use lib.Dec.{eqb}
use lib.Pointwise.{pointwise}
use Rattle.text.specs.Part.{same_text}

pub same_by_octets : (a b : List ℕ) → pointwise eqb a b ≡ same_text a b
unfolding same_text
same_by_octets [] [] = refl
same_by_octets [] (y ∷ b) = refl
same_by_octets (x ∷ a) [] = refl
same_by_octets (x ∷ a) (y ∷ b) = ap (λ (rest : Bool). eqb x y && rest) (same_by_octets a b)
