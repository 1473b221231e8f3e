-- "Held at once: 192 user messages and 64 management messages; room given up is used again." (R17, R18, R19)
use Rattle.std.specs.Prelude.{ℕ, ◌+◌, ◌≡◌, Bool, eqb}
use Rattle.constants.specs.Constants.{free_user_ring, free_management_ring}
use Rattle.queue_rings.specs.Ring.{count_of, queue}
use Rattle.queue_store.specs.Sound.{sum, tally, user, management}
use Rattle.replies.specs.Areas.{Areas}
use Rattle.queue_joining.specs.Queue.{no_user_place, no_management_place}

-- how many messages of a kind are held: in the queues of 32 links, and among those held apart
unfoldable pub held_of_kind : (ℕ → Bool) → Areas → ℕ
held_of_kind kind a = sum (λ ring. tally kind (queue a.spans a.rings ring)) 33

-- the user messages, in places below 192
abbrev pub users_held : Areas → ℕ
users_held a = held_of_kind user a

-- the management messages, in the others
abbrev pub managements_held : Areas → ℕ
managements_held a = held_of_kind management a

pub record HeldAtOnce (a : Areas) : Type 0 where
  -- "192 user messages .. room given up is used again" (R17, R19): those held and the free places are 192 together
  pub users : users_held a + count_of a.spans free_user_ring ≡ 192
  -- "and 64 management messages" (R18)
  pub managements : managements_held a + count_of a.spans free_management_ring ≡ 64
  -- "192 user messages held" (R57): there is no place, as row 7 asks, exactly then
  pub users_full : no_user_place a.spans ≡ eqb (users_held a) 192
  -- the event finds no management place, as row 8 asks (R58), exactly if 64 are held
  pub managements_full : no_management_place a.spans ≡ eqb (managements_held a) 64

-- a reply, and what was held before: "192 user messages held and one more is needed" (R57), "the event needs more management places than are
-- free before it" (R58)
pub record OnlyIfFull (reply : ℕ) (before : Areas) : Type 0 where
  pub seven : reply ≡ 7 → users_held before ≡ 192
  pub eight : reply ≡ 8 → managements_held before ≡ 64
