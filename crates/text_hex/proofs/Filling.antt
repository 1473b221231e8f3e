-- An area that is filled from its start: how far it is, one octet more, and all of them.
-- Assumes nothing.
use mathlib.Core.Path.{◌≡◌}
use mathlib.Core.List.{List, ◌++◌}
use Prim.Native.Nat.{ℕ, ◌+◌, ◌<◌}
use native.Mathlib.Nat.{zero-add}
use native.Mathlib.Numerals.{add-one}
use lib.ListN.{length, take, drop, get_or, set}
use lib.Seq.{take-length, paste-suc}

-- an area with the first n of some octets at its start
abbrev pub begun : List ℕ → List ℕ → ℕ → List ℕ
begun octets area n = take n octets ++ drop n area

-- the next octet is stored
pub begun_next : (octets area now : List ℕ) (n x : ℕ) → now ≡ begun octets area n → x ≡ get_or octets n 0
    → n < length octets → n < length area → set now n x ≡ begun octets area (n + 1)
begun_next octets area now n x so_far next h k =
    simp (so_far, next, add-one) (simp zero-add at (paste-suc area 0 octets n 0 (simp zero-add k) h))

-- all of them are
pub begun_all : (octets area : List ℕ) (n : ℕ) → n ≡ length octets → begun octets area n ≡ octets ++ drop (length octets) area
begun_all octets area n all = simp (all, take-length)
