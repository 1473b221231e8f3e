-- Octets written into a lent area from a place on. What has no room isn't written.
use Rattle.std.specs.Prelude.{ℕ, ◌+◌, Bool, cond, List, ◌++◌, length, take, drop, leb}

-- whether the octets have room from the place on
abbrev pub room : List ℕ → ℕ → List ℕ → Bool
room out at octets = leb (at + length octets) (length out)

-- the area with the octets written from the place on, all else as it was; with no room, as it was
abbrev pub written : List ℕ → ℕ → List ℕ → List ℕ
written out at octets = cond (room out at octets) (take at out ++ (octets ++ drop (at + length octets) out)) out

-- the place past the octets; with no room, the same place
abbrev pub past : List ℕ → ℕ → List ℕ → ℕ
past out at octets = cond (room out at octets) (at + length octets) at
