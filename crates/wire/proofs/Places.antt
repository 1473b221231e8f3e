-- A part of a message, octet by octet.
-- Assumes nothing.
use mathlib.Core.Path.{◌≡◌, refl, ap}
use mathlib.Core.List.{List, [], ◌∷◌}
use Prim.Native.Nat.{ℕ, zero, suc, ◌+◌, ◌≤◌, ◌<◌}
use native.Mathlib.Omega.{arith}
use lib.ListN.{length, get_or, take, drop}
use lib.Seq.{drop-cons}

-- the octets at so many places from a place on
abbrev pub places : List ℕ → ℕ → ℕ → List ℕ
places s at zero = []
places s at (suc n) = get_or s at 0 ∷ places s (suc at) n

-- a part that is there is the octets at its places
pub part_places : (s : List ℕ) (at n : ℕ) → at + n ≤ length s → take n (drop at s) ≡ places s at n
part_places s at zero h = refl
part_places s at (suc n) h =
    let here : at < length s = omega arith in
    rw (drop-cons s at 0 here) (ap (λ (rest : List ℕ). get_or s at 0 ∷ rest) (part_places s (suc at) n (omega arith)))
