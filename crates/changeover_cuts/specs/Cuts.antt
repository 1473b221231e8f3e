-- How the queue of a link that goes out is cut, and the link's record then: "F in range: messages up to F are retired and the rest move."
-- (R125) Without such a number "the unacknowledged ones go over the alternative too." (R235)
use Rattle.std.specs.Prelude.{ℕ, false, cond}
use Rattle.constants.specs.Constants.{state_out}
use Rattle.counting.specs.Counting.{in_range, distance}
use Rattle.area_links.specs.declared.LinkRecord.{LinkRecord}
use Rattle.changeover_cuts.specs.declared.Cut.{Cut}

-- what becomes of a link's queue: the first so many are retired, the next so many dropped, and the rest move
abbrev pub cut : ℕ → ℕ → Cut
cut first next = record { retired = first; dropped = next }

-- the whole queue moves, sent and unsent: at T1's and T2's expiry (R235), and with "Failure of a waiting link: out, its timers stop, its queue
-- moves at once." (R115, R116)
abbrev pub cut_none : Cut
cut_none = cut 0 0

-- "F in range: messages up to F are retired and the rest move." With F not in range the whole queue moves (R125, R126, R198, R235)
unfoldable pub cut_at : LinkRecord → ℕ → Cut
cut_at known f = cond (in_range 128 known.acknowledged known.sent f) (cut (distance 128 known.acknowledged f) 0) cut_none

-- "ECO, ECA: sent ones dropped, reason 2; unsent ones move." (R127, R236)
abbrev pub cut_unknown : LinkRecord → Cut
cut_unknown known = cut 0 known.sent

-- a link that is out: no timer runs, nothing is sent; its numbers stay as they were (R131)
abbrev pub out_of : LinkRecord → LinkRecord
out_of known =
    record {
      state = state_out;
      acknowledged = known.acknowledged;
      received = known.received;
      sent = 0;
      timer = 0;
      t3 = false;
      code = 0;
    }
