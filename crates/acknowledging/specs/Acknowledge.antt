-- "Acknowledgement (open): B is in range if it is the last acknowledged number, or that of a sent unacknowledged message. Messages
-- up to B are retired." (R107, R108, R109)
use Rattle.std.specs.Prelude.{ℕ, Bool, not, ◌||◌, List, [], ◌∷◌, eqb, leb}
use Rattle.constants.specs.Constants.{link_count, state_open}
use Rattle.plan.specs.declared.data.Plan.{Plan}
use Rattle.counting.specs.Counting.{in_range}
use Rattle.area_numbers.specs.LinkWords.{with_acknowledged, with_sent}
use Rattle.area_links.specs.LinkRecords.{record_at}
use Rattle.replies.specs.Reply.{Row, row, first, if_done}
use Rattle.lookup.specs.Lookup.{is_link}
use Rattle.queue_heads.specs.Head.{Queues}
use Rattle.queue_retiring.specs.Leave.{retired}
use Rattle.numbers.specs.Numbers.{up_to, left_sent}

-- "an argument out of range" (R16, R42)
abbrev pub out_of_range : ℕ → ℕ → Bool
out_of_range link b = leb link_count link || leb 128 b

-- whether the event fits the link's state
abbrev pub link_open : List ℕ → ℕ → Bool
link_open links link = eqb (record_at links link).state state_open

-- "B is in range" (R47, R108)
abbrev pub b_in_range : List ℕ → ℕ → ℕ → Bool
b_in_range links link b = in_range 128 (record_at links link).acknowledged (record_at links link).sent b

-- the reply: 1, 2, 5 on a link that isn't open, 6 for a number that isn't in range (R47, R107)
abbrev pub refusals_of : Plan → List ℕ → ℕ → ℕ → List Row
refusals_of plan links link b =
    row 1 (out_of_range link b)
    ∷ row 2 (not (is_link plan link))
    ∷ row 5 (not (link_open links link))
    ∷ row 6 (not (b_in_range links link b))
    ∷ []

unfoldable pub reply_of : Plan → List ℕ → ℕ → ℕ → ℕ
reply_of plan links link b = first (refusals_of plan links link b)

-- the links after it: b is the last acknowledged, and the sent ones behind it are left
unfoldable pub links_after : Plan → List ℕ → ℕ → ℕ → List ℕ
links_after plan links link b =
    if_done (reply_of plan links link b)
    (with_acknowledged (with_sent links link (left_sent (record_at links link) b)) link b)
    links

-- the queues after it
unfoldable pub queues_after : Plan → List ℕ → Queues → ℕ → ℕ → Queues
queues_after plan links queues link b =
    if_done (reply_of plan links link b) (retired link (up_to (record_at links link) b) queues) queues
