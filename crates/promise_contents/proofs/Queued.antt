-- A message that is passed on and gets reply 0 stands in the slot that was free, with the next number and all its octets.
-- Assumes nothing.
use mathlib.Core.Path.{◌≡◌, ap}
use mathlib.Core.Bool.{true, false}
use mathlib.Core.List.{List}
use Prim.Native.Nat.{ℕ, ◌+◌, ◌≤◌, ◌<◌}
use native.Mathlib.Omega.{arith}
use lib.Dec.{eqb}
use lib.ListN.{length}
use lib.Seq.{get_or-set_same}
use borrow.Author.Tests.{eqb-true, eqb-false, eq-eqb}
use Rattle.plan.specs.declared.data.Plan.{Plan}
use Rattle.area_slots.specs.declared.Slot.{Slot}
use Rattle.queue_rings.specs.Ring.{count_of}
use Rattle.queue_slots.specs.Message.{fits}
use Rattle.queue_slots.proofs.Messages.{fits_there}
use Rattle.queue_slots.proofs.ReadBack.{user_read, octets_read, row_kept}
use Rattle.queue_slots.specs.Write.{Write}
use Rattle.area_slots.specs.SlotRows.{slot_at}
use Rattle.queue_store.specs.Sound.{Sound, Kinds}
use Rattle.queue_store.proofs.KindsApart.{taken_user}
use Rattle.wire.specs.declared.header.Label.{Label}
use Rattle.replies.specs.Reply.{done}
use Rattle.replies.specs.Areas.{Areas, Outcome, judged, refused}
use Rattle.replies.proofs.Rows.{none_applies}
use Rattle.queue_heads.specs.Head.{Queues, both, head_of}
use Rattle.queue_joining.specs.Queue.{next_of, no_user_place, user_reply, user_queues, rows_with_user, user_octets, user_arrivals}
use Rattle.passing_passage.specs.Passage.{unreachable, ring_of, place_reply, queued, octets_queued}
use Rattle.promise_runs.proofs.Outcomes.{by_test}
use Rattle.promise_ledger.proofs.Balance.{head_found}
use Rattle.promise_contents.specs.Content.{Content, content, next_in, Holds}
use Rattle.promise_contents.proofs.Kept.{content_in}
use Rattle.promise_contents.proofs.Free.{free_in, others_stay}
use Rattle.promise_contents.proofs.FreeEvents.{queues_in}
use Rattle.promise_contents.proofs.FreeQueued.{ring_within}

-- a reply isn't both 0 and not
pub not_done : {A : Type 0} (reply : ℕ) → eqb reply 0 ≡ false → reply ≡ 0 → A
not_done reply e none = absurd (eqb-false reply 0 e none)

module _
    (plan : Plan)
    (a : Areas)
    (octets : List ℕ)
    (sound : Sound a.spans a.rings a.rows octets)
    (kinds : Kinds a.spans a.rings)
    (one : length a.arrivals ≡ 1)
    (message : List ℕ) where
  -- the slot that is free
  abbrev free : ℕ
  free = (head_of (both a.spans a.rings) 33).slot

  -- the message stands in it, and its number is used up
  abbrev Taken : Content → Type 0
  Taken held = Holds held free (next_of a.arrivals) message × (next_in held ≡ next_of a.arrivals + 1)

  -- another slot has the row that it had, and is free if it was
  abbrev Alone : List ℕ → Queues → ℕ → Type 0
  Alone rows queues slot = (slot_at rows slot ≡ slot_at a.rows slot) × (free_in (queues_in a) slot ≤ free_in queues slot)

  -- all this of areas, with these octets
  abbrev pub StandsQueued : Areas → List ℕ → Type 0
  StandsQueued b written =
      Taken (content_in b written) × ((slot : ℕ) → (slot ≡ free → ⊥) → Alone b.rows (queues_in b) slot)

  -- it stands there where the reply is 0
  abbrev pub Does : Outcome → List ℕ → Type 0
  Does o written = o.answer.reply ≡ 0 → StandsQueued o.after written

  -- where there is a place a slot is free
  free_found : user_reply a.spans a.arrivals ≡ 0 → (head_of (queues_in a) 33).found ≡ true
  unfolding user_reply
  free_found done =
      let some = eqb-false (count_of a.spans 33) 0 (none_applies 6 (no_user_place a.spans) _ done).0 in
      head_found (queues_in a) 33 (omega (arith, some))

  -- and it is one for user messages
  free_user_lem : user_reply a.spans a.arrivals ≡ 0 → free < 192
  unfolding head_of
  free_user_lem done = taken_user a.spans a.rings a.rows octets sound kinds (free_found done)

  -- the other slots where a message is queued
  user_alone : user_reply a.spans a.arrivals ≡ 0 → (ring : ℕ) → ring < 33 → (point sls slot : ℕ) → (slot ≡ free → ⊥)
      → Alone (rows_with_user (queues_in a) a.arrivals a.rows point sls (length message)) (user_queues (queues_in a) a.arrivals ring) slot
  unfolding rows_with_user user_queues
  user_alone done ring h point sls slot other =
      simp (eq-eqb (user_reply a.spans a.arrivals) 0 done) (
        row_kept a.rows (Write.user free (next_of a.arrivals) point sls message) slot other,
        others_stay a.rows octets (queues_in a) sound 33 ring (free_found done) (omega arith) h slot other,
      )

  module _ (small : length message ≤ 273) where
    -- queued
    user_stands : user_reply a.spans a.arrivals ≡ 0 → (point sls : ℕ)
        → Taken
        (content (rows_with_user (both a.spans a.rings) a.arrivals a.rows point sls (length message))
        (user_octets (both a.spans a.rings) a.arrivals octets message)
        (user_arrivals a.spans a.arrivals))
    unfolding rows_with_user user_octets user_arrivals
    user_stands done point sls =
        let fit : fits free (length message) ≡ true = fits_there free (length message) (free_user_lem done) small in
        let row = user_read a.rows free (next_of a.arrivals) point sls (length message) sound.rows_long fit in
        simp (eq-eqb (user_reply a.spans a.arrivals) 0 done) (
          record {
            user = free_user_lem done;
            short = small;
            arrival = ap (λ (s : Slot). s.arrival) row;
            size = ap (λ (s : Slot). s.field) row;
            octets = octets_read octets free message sound.octets_long fit;
          },
          get_or-set_same a.arrivals 0 (next_of a.arrivals + 1) 0 (omega (arith, one)),
        )

    -- with the areas and the octets that it leaves
    pub queued_stands : (label : Label) → unreachable plan a label ≡ false → user_reply a.spans a.arrivals ≡ 0
        → StandsQueued (queued plan a label (length message)) (octets_queued a octets message)
    unfolding queued octets_queued
    queued_stands label reached done = (
      user_stands done label.dpc label.sls,
      user_alone done (ring_of plan a label) (ring_within plan a label reached) label.dpc label.sls,
    )

    -- a message that has a way
    pub place_stands : (o : Outcome) → (user_reply a.spans a.arrivals ≡ 0 → Does o (octets_queued a octets message))
        → Does (judged (place_reply a) o a) (octets_queued a octets message)
    place_stands o stands =
        by_test (λ (o : Outcome). Does o (octets_queued a octets message)) (eqb (place_reply a) 0) o (refused (place_reply a) a)
        (λ e. stands (eqb-true (place_reply a) 0 e))
        (not_done (place_reply a))
