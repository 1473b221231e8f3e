-- A message that is queued: it is written into the slot that it takes, and the other slots have their rows and stay free if they are.
-- Assumes nothing.
use mathlib.Core.Path.{◌≡◌, refl, ap}
use mathlib.Core.Logic.{inl, inr}
use mathlib.Core.Bool.{false}
use mathlib.Core.List.{List}
use Prim.Native.Nat.{ℕ, ◌≤◌, ◌<◌}
use native.Mathlib.Omega.{arith}
use lib.Dec.{eqb, ltb}
use lib.ListN.{length}
use borrow.Author.Tests.{ltb-true, eqb-true, eqb-false, not-false}
use borrow.Table.Steps.{cases}
use Rattle.plan.specs.declared.data.Plan.{Plan}
use Rattle.plan.specs.Find.{place_of}
use Rattle.plan.proofs.Split.{alike}
use Rattle.area_flags.specs.Flags.{flag_at}
use Rattle.wire.specs.declared.header.Label.{Label}
use Rattle.queue_moving.specs.Move.{apart}
use Rattle.constants.specs.Constants.{t6}
use Rattle.passing_passage.specs.Passage.{link_of, unreachable, ring_by, ring_of}
use Rattle.area_slots.specs.declared.Slot.{Slot}
use Rattle.queue_rings.specs.Ring.{count_of}
use Rattle.queue_slots.proofs.Messages.{fits_there}
use Rattle.queue_slots.proofs.ReadBack.{user_read, management_read, row_kept}
use Rattle.queue_slots.specs.Write.{Write}
use Rattle.queue_store.specs.Sound.{Kinds}
use Rattle.queue_store.proofs.KindsApart.{taken_user, taken_management}
use Rattle.replies.specs.Areas.{Areas}
use Rattle.replies.proofs.Rows.{none_applies}
use Rattle.route_choice.specs.Which.{none}
use Rattle.queue_heads.specs.Head.{Queues, head_of}
use Rattle.queue_joining.specs.Queue.{next_of, no_user_place, no_management_place, user_reply, user_queues, rows_with_user, management_reply, management_queues, rows_with_management}
use Rattle.wire_messages.specs.Management.{heading_of, field_of}
use Rattle.management_making.specs.declared.Draft.{Draft}
use Rattle.management_making.specs.Make.{Held, path_of, has_path, made, held_in, with_made}
use Rattle.promise_runs.proofs.Outcomes.{RegularIn, by_test}
use Rattle.promise_ledger.proofs.Balance.{head_found}
use Rattle.promise_ledger.proofs.Free.{slot_below}
use Rattle.promise_contents.specs.Made.{User, Made, Written}
use Rattle.promise_contents.proofs.Free.{SoundIn, others_stay}
use Rattle.promise_contents.proofs.FreeEvents.{queues_in, StaysAt, Stays}

module _ (rows octets : List ℕ) (queues : Queues) (sound : SoundIn rows octets queues) (kinds : Kinds queues.spans queues.rings)
    (arrivals : List ℕ)
    (ring : ℕ)
    (h : ring < 33) where
  -- a management message is queued: it is written into the slot that it takes
  pub management_stays : (draft : Draft) (slot : ℕ) → slot < 256
      → StaysAt (Made draft) (next_of arrivals) queues (management_queues queues arrivals ring) rows
      (rows_with_management queues arrivals rows (heading_of draft.message) draft.point draft.slc (field_of draft.message))
      slot
  unfolding management_queues rows_with_management management_reply head_of Written
  management_stays draft slot k =
      let head : ℕ = (head_of queues 34).slot in
      let heading : ℕ = heading_of draft.message in
      let field : ℕ = field_of draft.message in
      cases (eqb (management_reply queues.spans arrivals) 0)
      (λ e.
      let done = eqb-true (management_reply queues.spans arrivals) 0 e in
      let some = eqb-false (count_of queues.spans 34) 0 (none_applies 7 (no_management_place queues.spans) _ done).0 in
      let found = head_found queues 34 (omega (arith, some)) in
      simp e
      (alike slot head
      (λ same.
      simp same
      (inr (
        taken_management queues.spans queues.rings rows octets sound kinds found,
        management_read rows head (next_of arrivals) heading draft.point draft.slc field sound.rows_long
            (slot_below rows octets queues sound 34 found),
      )))
      (λ other.
      inl (
        row_kept rows (Write.management head (next_of arrivals) heading draft.point draft.slc field) slot other,
        others_stay rows octets queues sound 34 ring found (omega arith) h slot other,
      ))))
      (λ e. simp e (inl (refl, omega arith)))

  -- and so is a user message that a slot has room for
  pub user_stays : (point sls : ℕ) (message : List ℕ) → 5 ≤ length message → length message ≤ 273 → (slot : ℕ) → slot < 256
      → StaysAt (User (length message)) (next_of arrivals) queues (user_queues queues arrivals ring) rows
      (rows_with_user queues arrivals rows point sls (length message))
      slot
  unfolding user_queues rows_with_user user_reply head_of Written
  user_stays point sls message least small slot k =
      let size : ℕ = length message in
      let head : ℕ = (head_of queues 33).slot in
      cases (eqb (user_reply queues.spans arrivals) 0)
      (λ e.
      let done = eqb-true (user_reply queues.spans arrivals) 0 e in
      let some = eqb-false (count_of queues.spans 33) 0 (none_applies 6 (no_user_place queues.spans) _ done).0 in
      let found = head_found queues 33 (omega (arith, some)) in
      let user = taken_user queues.spans queues.rings rows octets sound kinds found in
      let row = user_read rows head (next_of arrivals) point sls size sound.rows_long (fits_there head size user small) in
      simp e
      (alike slot head
      (λ same.
      simp same
      (inr (user, least, small, ap (λ (s : Slot). s.field) row, ap (λ (s : Slot). s.arrival) row, ap (λ (s : Slot). s.heading) row)))
      (λ other.
      inl (
        row_kept rows (Write.user head (next_of arrivals) point sls message) slot other,
        others_stay rows octets queues sound 33 ring found (omega arith) h slot other,
      ))))
      (λ e. simp e (inl (refl, omega arith)))

-- a message that the node makes
pub made_stays : (a : Areas) (octets : List ℕ) → RegularIn a octets → Kinds a.spans a.rings → (plan : Plan) (draft : Draft)
    → Stays (Made draft) a (with_made plan draft a)
unfolding made
made_stays a octets regular kinds plan draft slot k =
    let path = path_of plan a.links a.marks draft in
    by_test
    (λ (then : Held). StaysAt (Made draft) (next_of a.arrivals) (queues_in a) then.queues a.rows then.rows slot)
    (has_path plan a.links a.marks draft)
    _
    (held_in a)
    (λ e.
    let within = ltb-true path none e in
    management_stays a.rows octets (queues_in a) regular.store kinds a.arrivals path (omega arith) draft slot k)
    (λ e. inl (refl, omega arith))

-- the ring of a message that has a way is a queue
pub ring_within : (plan : Plan) (a : Areas) (label : Label) → unreachable plan a label ≡ false → ring_of plan a label < 33
unfolding ring_by
ring_within plan a label reached =
    let h = ltb-true (link_of plan a label) none (not-false (ltb (link_of plan a label) none) reached) in
    by_test (λ (ring : ℕ). ring < 33) (flag_at a.marks (place_of plan label.dpc) t6) apart (link_of plan a label)
    (λ e. omega arith)
    (λ e. omega arith)
