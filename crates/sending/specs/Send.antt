-- "Send (open): the first unsent message leaves with the next FSN, counted modulo 128 on from the last acknowledged, and stays in the queue.
-- None unsent, or 127 unacknowledged: reply 5." (R101, R102, R103, R104, R105)
use Rattle.std.specs.Prelude.{ℕ, ◌/◌, ◌%◌, false, cond, not, ◌||◌, List, [], ◌∷◌, eqb, ltb, leb, length, Option, Some, None}
use Rattle.constants.specs.Constants.{link_count, state_open}
use Rattle.plan.specs.declared.data.Plan.{Plan}
use Rattle.area_slots.specs.declared.Slot.{Slot}
use Rattle.area_numbers.specs.LinkWords.{with_sent}
use Rattle.area_links.specs.LinkRecords.{record_at}
use Rattle.area_slots.specs.SlotRows.{slot_at}
use Rattle.queue_rings.specs.Ring.{count_of, at_of}
use Rattle.queue_slots.specs.Message.{copied, copied_size}
use Rattle.wire.specs.declared.header.Label.{Label}
use Rattle.wire_messages.specs.declared.management.Message.{Message}
use Rattle.wire_writing.specs.Writing.{octets_of, written_into, written_count}
use Rattle.wire_messages.specs.Management.{listed}
use Rattle.replies.specs.declared.Answer.{Answer}
use Rattle.replies.specs.Reply.{Row, row, first, plain, if_done}
use Rattle.lookup.specs.Lookup.{is_link}
use Rattle.numbers.specs.Numbers.{one_more, next_number}

-- the reply: 1, 2, 5; on an open link, with a message unsent, and fewer than 127 unacknowledged (R22, R23, R101, R105)
abbrev pub refusals_of : Plan → List ℕ → List ℕ → ℕ → ℕ → List Row
refusals_of plan links spans link room =
    row 1 (leb link_count link || ltb room 273)
    ∷ row 2 (not (is_link plan link))
    ∷ row 5 (not (eqb (record_at links link).state state_open)
    || (leb (count_of spans link) (record_at links link).sent || leb 127 (record_at links link).sent))
    ∷ []

unfoldable pub reply_of : Plan → List ℕ → List ℕ → ℕ → ℕ → ℕ
reply_of plan links spans link room = first (refusals_of plan links spans link room)

-- the links after it: one message more is sent
unfoldable pub links_after : Plan → List ℕ → List ℕ → ℕ → ℕ → List ℕ
links_after plan links spans link room =
    if_done (reply_of plan links spans link room) (with_sent links link (one_more (record_at links link))) links

-- the first unsent message: the sent ones stand before it
unfoldable pub first_unsent : List ℕ → List ℕ → List ℕ → ℕ → ℕ
first_unsent links spans rings link = (at_of spans rings link (record_at links link).sent).slot

-- the management message that is held as its fields
abbrev pub held_message : Slot → Option Message
held_message known = listed (known.heading % 256) (known.field % 256) (known.field / 256 % 256)

-- its label: the DPC is the point that it goes to, the OPC is ours (R30)
abbrev pub held_label : Plan → Slot → Label
held_label plan known = record { dpc = known.point % 16384; opc = plan.code; sls = known.sls % 16 }

-- the octets that leave of it, by what it is
unfoldable pub held_count_by : Plan → Slot → List ℕ → Option Message → ℕ
held_count_by plan known out None = 0
held_count_by plan known out (Some message) = written_count out (octets_of plan.ni (held_label plan known) message)

unfoldable pub held_out_by : Plan → Slot → List ℕ → Option Message → List ℕ
held_out_by plan known out None = out
held_out_by plan known out (Some message) = written_into out (octets_of plan.ni (held_label plan known) message)

abbrev pub held_count : Plan → Slot → List ℕ → ℕ
held_count plan known out = held_count_by plan known out (held_message known)

abbrev pub held_out : Plan → Slot → List ℕ → List ℕ
held_out plan known out = held_out_by plan known out (held_message known)

-- how many octets leave of the message in a slot: "Messages passed on keep all their octets." (R68)
unfoldable pub slot_count : Plan → List ℕ → ℕ → List ℕ → ℕ
slot_count plan rows slot out =
    cond (ltb slot 192)
    (copied_size slot (slot_at rows slot).field (length out))
    (held_count plan (slot_at rows slot) out)

-- the output with them
unfoldable pub slot_out : Plan → List ℕ → List ℕ → ℕ → List ℕ → List ℕ
slot_out plan rows octets slot out =
    cond (ltb slot 192)
    (copied octets slot (slot_at rows slot).field out)
    (held_out plan (slot_at rows slot) out)

-- the answer: the number, and how many octets leave
unfoldable pub answer_of : Plan → List ℕ → List ℕ → List ℕ → List ℕ → ℕ → List ℕ → Answer
answer_of plan links spans rings rows link out =
    if_done (reply_of plan links spans link (length out))
    (record {
      reply = 0;
      fsn = next_number (record_at links link);
      octets = slot_count plan rows (first_unsent links spans rings link) out;
      reports = 0;
      delivers = false;
    })
    (plain (reply_of plan links spans link (length out)))

-- the output after it
unfoldable pub out_after : Plan → List ℕ → List ℕ → List ℕ → List ℕ → List ℕ → ℕ → List ℕ → List ℕ
out_after plan links spans rings rows octets link out =
    if_done (reply_of plan links spans link (length out))
    (slot_out plan rows octets (first_unsent links spans rings link) out)
    out
