-- "The record of one link is brought up to date where it lies by the card driver's calls" (R185): the last sent and the last acknowledged number,
-- as a send and an acknowledgement change them.
use Rattle.std.specs.Prelude.{ℕ, ◌%◌, Bool, true, false, cond}
use Rattle.counting.specs.Counting.{next, distance, in_range}
use Rattle.library_card.specs.declared.Record.{Record}
use Rattle.library_card.specs.declared.Sent.{Sent}
use Rattle.library_card.specs.declared.Acknowledged.{Acknowledged}

-- "Into service (from out): last acknowledged and last received number are 127, the queue is empty" (R89, R90, R91): so is the last sent
abbrev pub begun : Record
begun = record { sent = 127; acknowledged = 127 }

-- "the first unsent message leaves with the next FSN" (R102, R103): that is the last sent from now on (R206)
abbrev pub sent_one : Record → Sent
sent_one link =
    record {
      link = record { sent = next 128 link.sent; acknowledged = link.acknowledged };
      number = next 128 link.sent;
    }

-- how many are sent and unacknowledged: the last sent number is so many on from the last acknowledged, modulo 128
abbrev pub outstanding : Record → ℕ
outstanding link = distance 128 link.acknowledged link.sent

-- "B is in range if it is the last acknowledged number, or that of a sent unacknowledged message." (R108)
abbrev pub accepts : Record → ℕ → Bool
accepts link b = in_range 128 link.acknowledged (outstanding link) b

-- "Messages up to B are retired" (R109): B is the last acknowledged from now on; one that isn't in range leaves the record "unchanged" (R48)
abbrev pub acknowledged_to : Record → ℕ → Acknowledged
acknowledged_to link b =
    cond (accepts link b)
    (record { link = record { sent = link.sent; acknowledged = b % 128 }; accepted = true })
    (record { link = link; accepted = false })
