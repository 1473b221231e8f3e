-- The numbers of one link, "counted modulo 128 on from the last acknowledged" (R103).
use Rattle.std.specs.Prelude.{ℕ, Bool, not, ◌||◌, List, eqb}
use Rattle.counting.specs.Counting.{onward, next, distance}
use Rattle.area_links.specs.declared.LinkRecord.{LinkRecord}
use Rattle.area_numbers.specs.LinkWords.{with_received}

-- how many are sent with one message more
abbrev pub one_more : LinkRecord → ℕ
one_more known = next 128 known.sent

-- "the next FSN" (R103): that many on as there will be sent
abbrev pub next_number : LinkRecord → ℕ
next_number known = onward 128 known.acknowledged (one_more known)

-- how many messages there are up to b
abbrev pub up_to : LinkRecord → ℕ → ℕ
up_to known b = distance 128 known.acknowledged b

-- "Messages up to B are retired" (R109): how many of the sent ones are left behind b
abbrev pub left_sent : LinkRecord → ℕ → ℕ
left_sent known b = distance 128 (up_to known b) known.sent

-- whether a message that was looked at is taken: not with 7, 8 or 10, which leave all "unchanged" (R48), but with every other reply (R62)
abbrev pub is_taken : ℕ → Bool
is_taken reply = not (eqb reply 7 || (eqb reply 8 || eqb reply 10))

-- "\"Taken\" moves that link's last received FSN on and changes nothing else" (R62)
unfoldable pub taken : List ℕ → ℕ → ℕ → List ℕ
taken links link fsn = with_received links link fsn
