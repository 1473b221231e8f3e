-- A regular state: what holds of every node that calls can reach.
use Rattle.std.specs.Prelude.{ℕ, ◌<◌, ◌≡◌, Bool, true, cond, not, ◌&&◌, ◌||◌, List, eqb, ltb, leb, length}
use Rattle.constants.specs.Constants.{state_out, state_waiting, state_open}
use Rattle.area_links.specs.declared.LinkRecord.{LinkRecord}
use Rattle.area_links.specs.LinkRecords.{record_at}
use Rattle.queue_rings.specs.Ring.{count_of}
use Rattle.queue_store.specs.Sound as Store

-- no timer of a link runs
abbrev pub no_timer : LinkRecord → Bool
no_timer known = eqb known.timer 0 && (not known.t3 && eqb known.code 0)

-- an out link: no timer runs, and its queue is empty (R91)
abbrev pub regular_out : LinkRecord → ℕ → Bool
regular_out known count = no_timer known && (eqb count 0 && eqb known.sent 0)

-- a waiting link: exactly one of T3 and T4 runs, T4 exactly while a code is unanswered, and nothing is sent
abbrev pub regular_waiting : LinkRecord → ℕ → Bool
regular_waiting known count =
    eqb known.timer 0 && (eqb known.sent 0 && cond known.t3 (eqb known.code 0) (ltb 0 known.code))

-- an open link: no timer runs, and at most its queue is sent
abbrev pub regular_open : LinkRecord → ℕ → Bool
regular_open known count = no_timer known && leb known.sent count

-- a changing link: exactly one of T1 and T2 runs
abbrev pub regular_changing : LinkRecord → ℕ → Bool
regular_changing known count =
    (eqb known.timer 1 || eqb known.timer 2)
    && (not known.t3 && (eqb known.code 0 && leb known.sent count))

-- a link with so many messages in its queue, by its state
unfoldable pub regular_link : LinkRecord → ℕ → Bool
regular_link known count =
    cond (eqb known.state state_out) (regular_out known count)
    (cond (eqb known.state state_waiting) (regular_waiting known count)
    (cond (eqb known.state state_open) (regular_open known count) (regular_changing known count)))

-- every link is regular, and every slot is in one place of one ring
pub record Regular (links spans rings rows octets : List ℕ) : Type 0 where
  pub links_long : length links ≡ 256
  pub each_link : (link : ℕ) → link < 32 → regular_link (record_at links link) (count_of spans link) ≡ true
  pub store : Store.Sound spans rings rows octets
