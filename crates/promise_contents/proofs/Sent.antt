-- What leaves with a send that gets reply 0: of a user message, as many octets as it has, and those that stand in its slot; of a management
-- message, the octets of what its row reads as.
-- Assumes nothing.
use mathlib.Core.Path.{◌≡◌, sym, ap, ◌∙◌}
use mathlib.Core.Bool.{true, not, ◌||◌}
use mathlib.Core.List.{List, [], ◌++◌}
use Prim.Native.Nat.{ℕ, ◌≤◌, ◌<◌}
use native.Mathlib.Omega.{arith}
use lib.Dec.{eqb, ltb, leb}
use lib.ListN.{length, take, drop}
use lib.Seq.{take-append_seam}
use borrow.Author.Tests.{lt-ltb, le-ltb, le-leb, ltb-false, eq-eqb}
use Rattle.std.specs.Prelude.{Some}
use Rattle.plan.specs.declared.data.Plan.{Plan}
use Rattle.plan.proofs.Split.{both_false}
use Rattle.area_links.specs.LinkRecords.{record_at}
use Rattle.area_slots.specs.declared.Slot.{Slot}
use Rattle.area_slots.specs.SlotRows.{slot_at}
use Rattle.queue_rings.specs.Ring.{count_of}
use Rattle.queue_slots.specs.Message.{octets_at, copies, copied_size, copied}
use Rattle.queue_slots.proofs.Messages.{fits_there, octets_length}
use Rattle.replies.specs.declared.Answer.{Answer}
use Rattle.lookup.specs.Lookup.{is_link}
use Rattle.wire_messages.specs.declared.management.Message.{Message}
use Rattle.wire_writing.specs.Writing.{octets_of}
use Rattle.sending.specs.Send.{reply_of, first_unsent, held_message, held_label, held_count_by, held_out_by, slot_count, slot_out, answer_of, out_after}
use Rattle.node.specs.declared.call.Event.TheVariants.{Send}
use Rattle.node.specs.Memory.{Memory, Result}
use Rattle.node.specs.Call.{sends, call_of}
use Rattle.promise_runs.proofs.Outcomes.{if_done_lem, rows_passed}
use Rattle.promise_contents.specs.Content.{content_of, row_in, octets_in, next_slot, Leave}
use Rattle.promise_contents.specs.Made.{Writes}

-- a copy of all octets of a user slot into an output that has room for them
module _ (octets out : List ℕ) (slot size : ℕ) (user : slot < 192) (small : size ≤ 273) (room : 273 ≤ length out) where
  -- they can be copied
  copies_all : copies slot size (length out) ≡ true
  unfolding copies
  copies_all = simp (fits_there slot size user small, le-leb size (length out) (omega arith))

  -- all of them are
  copied_size_lem : copied_size slot size (length out) ≡ size
  unfolding copied_size
  copied_size_lem = simp copies_all

  -- to the start of the output, and the rest stays
  copied_whole : copied octets slot size out ≡ octets_at octets slot size ++ drop size out
  unfolding copied
  copied_whole = simp copies_all

module _ (plan : Plan) (links spans rings rows octets : List ℕ) (link : ℕ) (out : List ℕ) where
  abbrev reply : ℕ
  reply = reply_of plan links spans link (length out)

  abbrev slot : ℕ
  slot = first_unsent links spans rings link

  -- an answer of 0 is a send that is done
  pub done_there : (answer_of plan links spans rings rows link out).reply ≡ 0 → reply ≡ 0
  unfolding answer_of
  done_there = if_done_lem (λ (r : Answer). r.reply ≡ 0 → reply ≡ 0) reply _ _ (λ done none. done) (λ none. none)

  -- and then the output has its room
  room_there : reply ≡ 0 → 273 ≤ length out
  unfolding reply_of
  room_there done =
      let passed =
      rows_passed (leb 32 link || ltb (length out) 273) (not (is_link plan link))
      (not (eqb (record_at links link).state 2)
      || (leb (count_of spans link) (record_at links link).sent || leb 127 (record_at links link).sent))
      []
      done
      in
      ltb-false (length out) 273 (both_false (leb 32 link) (ltb (length out) 273) passed.0).1

  module _ (done : reply ≡ 0) (user : slot < 192) (small : (slot_at rows slot).field ≤ 273) where
    -- of a user message as many octets as the row says
    sent_size : (answer_of plan links spans rings rows link out).octets ≡ (slot_at rows slot).field
    unfolding answer_of slot_count
    sent_size =
        simp (eq-eqb reply 0 done, lt-ltb slot 192 user)
        (copied_size_lem octets out slot (slot_at rows slot).field user small (room_there done))

    -- and they stand at the start of the output
    sent_out : out_after plan links spans rings rows octets link out
        ≡ octets_at octets slot (slot_at rows slot).field ++ drop (slot_at rows slot).field out
    unfolding out_after slot_out
    sent_out =
        simp (eq-eqb reply 0 done, lt-ltb slot 192 user)
        (copied_whole octets out slot (slot_at rows slot).field user small (room_there done))

  -- a management message that the row reads as
  module _ (done : reply ≡ 0) (there : 192 ≤ slot) (message : Message) (reads : held_message (slot_at rows slot) ≡ Some message) where
    abbrev known : Slot
    known = slot_at rows slot

    abbrev spelt : List ℕ
    spelt = octets_of plan.ni (held_label plan known) message

    spelt_count : held_count_by plan known out (Some message) ≡ length spelt
    unfolding held_count_by
    spelt_count = simp (le-ltb (length out) 273 (room_there done))

    spelt_out : held_out_by plan known out (Some message) ≡ spelt ++ drop (length spelt) out
    unfolding held_out_by
    spelt_out = simp (le-ltb (length out) 273 (room_there done))

    -- as many octets as it has
    made_size : (answer_of plan links spans rings rows link out).octets ≡ length spelt
    unfolding answer_of slot_count
    made_size = simp (eq-eqb reply 0 done, le-ltb slot 192 there) (ap (held_count_by plan known out) reads ∙ spelt_count)

    -- and they stand at the start of the output
    made_out : out_after plan links spans rings rows octets link out ≡ spelt ++ drop (length spelt) out
    unfolding out_after slot_out
    made_out = simp (eq-eqb reply 0 done, le-ltb slot 192 there) (ap (held_out_by plan known out) reads ∙ spelt_out)

-- what is written leaves
pub written_leaves : (call : Result) (lent octets : List ℕ) → Writes call lent octets → Leave call octets
written_leaves call lent octets writes =
    record {
      many = writes.many;
      these =
          ap (λ (n : ℕ). take n call.after.out) writes.many
          ∙ ap (take (length octets)) writes.these
          ∙ take-append_seam octets (drop (length octets) lent);
    }

-- a send with reply 0
module _ (plan : Plan) (link : ℕ) (given : List ℕ) (m : Memory) (none : (call_of plan (Send link) given m).answer.reply ≡ 0) where
  abbrev next : ℕ
  next = next_slot m link

  abbrev row : Slot
  row = row_in (content_of m) next

  finished : reply_of plan m.areas.links m.areas.spans link (length m.out) ≡ 0
  unfolding call_of sends
  finished =
      let a = m.areas in
      done_there plan a.links a.spans a.rings a.rows m.octets link m.out none

  -- the octets of a user slot leave, as many as its row says
  pub user_writes : next < 192 → row.field ≤ 273
      → Writes (call_of plan (Send link) given m) m.out (octets_in (content_of m) next row.field)
  unfolding call_of sends
  user_writes user small =
      let a = m.areas in
      let size = octets_length m.octets next row.field in
      record {
        many = sent_size plan a.links a.spans a.rings a.rows m.octets link m.out finished user small ∙ sym size;
        these =
            sent_out plan a.links a.spans a.rings a.rows m.octets link m.out finished user small
            ∙ ap (λ (n : ℕ). octets_in (content_of m) next row.field ++ drop n m.out) (sym size);
      }

  -- the octets of the message that a management slot's row reads as leave
  pub made_writes : 192 ≤ next → (message : Message) → held_message row ≡ Some message
      → Writes (call_of plan (Send link) given m) m.out (octets_of plan.ni (held_label plan row) message)
  unfolding call_of sends
  made_writes there message reads =
      let a = m.areas in
      record {
        many = made_size plan a.links a.spans a.rings a.rows m.octets link m.out finished there message reads;
        these = made_out plan a.links a.spans a.rings a.rows m.octets link m.out finished there message reads;
      }
