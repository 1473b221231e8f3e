-- A new message is queued: "Held at once: 192 user messages and 64 management messages" (R17, R18); "Each queued message, of both kinds,
-- gets an arrival number counted up from 0; the last is 2^63 - 1." (R20, R21)
use Rattle.std.specs.Prelude.{ℕ, ◌+◌, Bool, true, ◌&&◌, List, [], ◌∷◌, eqb, leb, get_or, set}
use Rattle.constants.specs.Constants.{free_user_ring, free_management_ring}
use Rattle.queue_rings.specs.Ring.{count_of}
use Rattle.queue_slots.specs.Message.{user_rows, management_rows}
use Rattle.queue_slots.specs.Message as Written
use Rattle.wire_messages.specs.declared.management.Message.{Message}
use Rattle.wire_messages.specs.Management.{heading_of, field_of}
use Rattle.replies.specs.Reply.{Row, row, first, if_done}
use Rattle.queue_heads.specs.Head.{Queues, both, head_of, moved}

-- the areas that hold messages, but for the octets of user messages
pub record Held : Type 0 where
  pub queues : Queues
  pub rows : List ℕ
  pub arrivals : List ℕ

abbrev pub held : List ℕ → List ℕ → List ℕ → List ℕ → Held
held spans rings rows arrivals = record { queues = both spans rings; rows = rows; arrivals = arrivals }

-- those lent to a call, as they stand before it and after it
abbrev pub held_before : List ℕ → List ℕ → List ℕ → List ℕ → Held
held_before spans rings rows arrivals = held spans rings rows arrivals

abbrev pub held_after : List ℕ → List ℕ → List ℕ → List ℕ → Held
held_after spans rings rows arrivals = held spans rings rows arrivals

-- the next arrival number
abbrev pub next_of : List ℕ → ℕ
next_of arrivals = get_or arrivals 0 0

-- row 7: "192 user messages held" (R57): no user slot is free
abbrev pub no_user_place : List ℕ → Bool
no_user_place spans = eqb (count_of spans free_user_ring) 0

-- row 8: no management slot is free
abbrev pub no_management_place : List ℕ → Bool
no_management_place spans = eqb (count_of spans free_management_ring) 0

-- row 10: no arrival number is left (R59)
abbrev pub no_number : List ℕ → Bool
no_number arrivals = leb 9223372036854775808 (next_of arrivals)

-- the rows of a user message, which needs a place and a number, and the reply
abbrev pub user_refusals : List ℕ → List ℕ → List Row
user_refusals spans arrivals = row 7 (no_user_place spans) ∷ row 10 (no_number arrivals) ∷ []

unfoldable pub user_reply : List ℕ → List ℕ → ℕ
user_reply spans arrivals = first (user_refusals spans arrivals)

-- the rows of an event that needs a management place and a number, or doesn't
abbrev pub management_refusals : Bool → List ℕ → List ℕ → List Row
management_refusals needs spans arrivals = row 8 (needs && no_management_place spans) ∷ row 10 (needs && no_number arrivals) ∷ []

-- the reply to one that does (R58)
unfoldable pub management_reply : List ℕ → List ℕ → ℕ
management_reply spans arrivals = first (management_refusals true spans arrivals)

-- the number used up
abbrev pub counted : List ℕ → List ℕ
counted arrivals = set arrivals 0 (next_of arrivals + 1)

-- a user message queued at the end of a ring: a free slot goes there (R214)
unfoldable pub user_queues : Queues → List ℕ → ℕ → Queues
user_queues queues arrivals ring = if_done (user_reply queues.spans arrivals) (moved queues free_user_ring ring) queues

-- what is known of it is written in the slot's row
unfoldable pub rows_with_user : Queues → List ℕ → List ℕ → ℕ → ℕ → ℕ → List ℕ
rows_with_user queues arrivals rows point sls size =
    if_done (user_reply queues.spans arrivals)
    (user_rows rows (head_of queues free_user_ring).slot (next_of arrivals) point sls size)
    rows

-- and "all their octets" (R68) in the slot
unfoldable pub user_octets : Queues → List ℕ → List ℕ → List ℕ → List ℕ
user_octets queues arrivals octets message =
    if_done (user_reply queues.spans arrivals) (Written.user_octets octets (head_of queues free_user_ring).slot message) octets

unfoldable pub user_arrivals : List ℕ → List ℕ → List ℕ
user_arrivals spans arrivals = if_done (user_reply spans arrivals) (counted arrivals) arrivals

-- what is held then, but for its octets
abbrev pub with_user : ℕ → ℕ → ℕ → ℕ → Held → Held
with_user ring point sls size now =
    record {
      queues = user_queues now.queues now.arrivals ring;
      rows = rows_with_user now.queues now.arrivals now.rows point sls size;
      arrivals = user_arrivals now.queues.spans now.arrivals;
    }

-- a management message queued at the end of a ring
unfoldable pub management_queues : Queues → List ℕ → ℕ → Queues
management_queues queues arrivals ring = if_done (management_reply queues.spans arrivals) (moved queues free_management_ring ring) queues

-- it is held as its fields
unfoldable pub rows_with_management : Queues → List ℕ → List ℕ → ℕ → ℕ → ℕ → ℕ → List ℕ
rows_with_management queues arrivals rows heading point slc field =
    if_done (management_reply queues.spans arrivals)
    (management_rows rows (head_of queues free_management_ring).slot (next_of arrivals) heading point slc field)
    rows

unfoldable pub management_arrivals : List ℕ → List ℕ → List ℕ
management_arrivals spans arrivals = if_done (management_reply spans arrivals) (counted arrivals) arrivals

-- what is held then: of the message its heading octet and its field
abbrev pub with_management : ℕ → Message → ℕ → ℕ → Held → Held
with_management ring message point slc now =
    record {
      queues = management_queues now.queues now.arrivals ring;
      rows = rows_with_management now.queues now.arrivals now.rows (heading_of message) point slc (field_of message);
      arrivals = management_arrivals now.queues.spans now.arrivals;
    }
