-- Facts on lent areas: a part of an area that was filled and comes back.
-- Assumes nothing.
use mathlib.Core.Path.{◌≡◌, refl}
use mathlib.Core.Bool.{true, false}
use mathlib.Core.List.{List, [], ◌++◌, append-nil}
use Prim.Native.Nat.{ℕ, ◌+◌, ◌-◌, ◌≤◌, ◌<◌}
use native.Mathlib.Omega.{arith}
use lib.ListN.{length, drop, length-drop, drop_of_length-le}
use lib.Seq.{take_all, drop-drop}
use borrow.Author.Tests.{le-leb, lt-leb}
use borrow.Rule.Slice.PartMut.{mid_of, put_mid}
use Rattle.text.specs.Put.{room, written, past}

-- what lies from a place on is the whole part from there to the end
pub rest_whole : (at n : ℕ) (area : List ℕ) → length area ≡ n → mid_of at (n - at) area ≡ drop at area
rest_whole at n area e = take_all (n - at) (drop at area) (simp length-drop (omega arith))

module _ (area : List ℕ) (at : ℕ) (octets : List ℕ) where
  -- what has no room isn't written
  pub no_room : length area < at + length octets → (at ≡ past area at octets) × (area ≡ written area at octets)
  no_room h =
      let full : room area at octets ≡ false = lt-leb (at + length octets) (length area) h in
      (simp full, simp full)

  -- the part from the place on was filled from its start, and comes back: the octets are written from the place on
  pub part_back : (part : List ℕ) → at + length octets ≤ length area
      → part ≡ octets ++ drop (length octets) (mid_of at (length area - at) area)
      → (at + length octets ≡ past area at octets) × (put_mid at (length area - at) area part ≡ written area at octets)
  part_back part h filled =
      let fits : room area at octets ≡ true = le-leb (at + length octets) (length area) h in
      let none : drop (length area - at) (drop at area) ≡ [] =
      drop_of_length-le (drop at area) {i = length area - at} (omega (arith, length-drop at area))
      in
      (simp fits, simp (fits, filled, rest_whole at (length area) area refl, none, append-nil, drop-drop))
