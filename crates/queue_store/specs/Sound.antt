-- What holds of the store from its beginning on: each slot is in one place of one ring.
use Rattle.std.specs.Prelude.{◌≡◌, ℕ, zero, suc, ◌+◌, ◌<◌, ◌≤◌, Bool, true, cond, not, List, [], ◌∷◌, length, ◌==◌, nat_lt}
use Rattle.constants.specs.Constants.{free_user_ring, free_management_ring}
use Rattle.queue_rings.specs.Ring.{count_of, queue}

-- 1 where a test holds, else 0
abbrev pub bit : Bool → ℕ
bit test = cond test 1 0

-- how many slots of a list pass a test
unfoldable pub tally : (ℕ → Bool) → List ℕ → ℕ
tally test [] = 0
tally test (slot ∷ slots) = bit (test slot) + tally test slots

-- the sum of the first n
unfoldable pub sum : (ℕ → ℕ) → ℕ → ℕ
sum f zero = 0
sum f (suc n) = sum f n + f n

-- how many slots that pass a test the rings hold together
unfoldable pub held : (ℕ → Bool) → List ℕ → List ℕ → ℕ
held test spans rings = sum (λ ring. tally test (queue spans rings ring)) 35

-- whether a slot is a given one
abbrev pub is : ℕ → ℕ → Bool
is given slot = slot == given

-- whether a slot is for user messages; the others are for management messages
abbrev pub user : ℕ → Bool
user slot = nat_lt slot 192

abbrev pub management : ℕ → Bool
management slot = not (user slot)

-- the areas have their lengths, the rings hold 256 together, none more than that, and each slot is held once
pub record Sound (spans rings rows octets : List ℕ) : Type 0 where
  pub spans_long : length spans ≡ 70
  pub rings_long : length rings ≡ 8960
  pub rows_long : length rows ≡ 2048
  pub octets_long : length octets ≡ 52416
  pub all : sum (count_of spans) 35 ≡ 256
  pub short : (ring : ℕ) → count_of spans ring ≤ 256
  pub once : (slot : ℕ) → slot < 256 → held (is slot) spans rings ≡ 1

-- the ring of free user slots has no management slot, and that of free management slots no user slot
pub record Kinds (spans rings : List ℕ) : Type 0 where
  pub free_user : tally management (queue spans rings free_user_ring) ≡ 0
  pub free_management : tally user (queue spans rings free_management_ring) ≡ 0

-- a slot may go to a ring: to one of free slots only if it is of that kind
pub record Suits (slot ring : ℕ) : Type 0 where
  pub to_user : ring ≡ free_user_ring → user slot ≡ true
  pub to_management : ring ≡ free_management_ring → management slot ≡ true
