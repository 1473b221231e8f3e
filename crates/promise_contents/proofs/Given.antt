-- A message that is made, or passed on, is held with the next number in the first free slot of its kind; where none is, no number is given.
-- Assumes nothing.
use mathlib.Core.Path.{◌≡◌, refl, sym, ap, subst, ◌∙◌}
use mathlib.Core.Bool.{Bool, true, false, cond, not, ◌&&◌, and-eq-true_iff}
use mathlib.Core.List.{List}
use Prim.Native.Nat.{ℕ, ◌+◌, ◌≤◌, ◌<◌}
use native.Mathlib.Omega.{arith}
use lib.Dec.{eqb}
use lib.ListN.{length}
use lib.Seq.{get_or-set_same}
use borrow.Author.Tests.{ltb-true, eqb-true, eqb-false, eq-eqb}
use borrow.Table.Steps.{cases}
use Rattle.plan.specs.declared.data.Plan.{Plan}
use Rattle.area_slots.specs.declared.Slot.{Slot}
use Rattle.queue_rings.specs.Ring.{count_of, spans_taken}
use Rattle.queue_slots.proofs.Messages.{fits_there}
use Rattle.queue_slots.proofs.ReadBack.{user_read, management_read}
use Rattle.queue_store.specs.Sound.{bit, is, Kinds}
use Rattle.queue_store.proofs.Held.{put_tally}
use Rattle.queue_store.proofs.KindsApart.{taken_user, taken_management}
use Rattle.wire.specs.declared.header.Label.{Label}
use Rattle.wire_messages.specs.Management.{heading_of, field_of}
use Rattle.replies.specs.Areas.{Areas, Outcome, judged, refused}
use Rattle.replies.proofs.Rows.{none_applies}
use Rattle.queue_heads.specs.Head.{Queues, head_of, moved}
use Rattle.queue_joining.specs.Queue.{next_of, no_user_place, no_management_place, user_reply, user_queues, rows_with_user, user_arrivals, management_reply, management_queues, rows_with_management, management_arrivals, with_management}
use Rattle.management_making.specs.declared.Draft.{Draft}
use Rattle.management_making.specs.Make.{Held, path_of, has_path, reply_of, is_made, made, held_in, with_held, with_made, makes_reply}
use Rattle.passing_passage.specs.Passage.{unreachable, ring_of, queued}
use Rattle.promise_runs.proofs.Outcomes.{RegularIn, by_test}
use Rattle.promise_ledger.proofs.Balance.{head_found, moved_some, head_long, head_room}
use Rattle.promise_ledger.proofs.Free.{slot_below}
use Rattle.promise_contents.specs.Made.{New, User, Made, Written}
use Rattle.promise_contents.specs.Given.{makes, slot_for, Gains}
use Rattle.promise_contents.proofs.Free.{stands_in, SoundIn}
use Rattle.promise_contents.proofs.FreeEvents.{queues_in}
use Rattle.promise_contents.proofs.FreeQueued.{ring_within}

-- nothing is queued
pub unchanged : (a : Areas) → next_of a.arrivals ≡ next_of a.arrivals + bit false
unchanged a = omega arith

pub not_given : {A : Type 0} → false ≡ true → A
not_given e = let never : ◌≡◌ {A = ℕ} 0 1 = ap bit e in absurd (omega (arith, never))

-- one of two, by a test that something is given by too
module _ {A : Type 0} (P : Bool → A → Type 0) where
  -- where it holds
  pub if_and : (test given : Bool) (x y : A) → (test ≡ true → P given x) → P false y → P (test && given) (cond test x y)
  if_and true given x y on off = on refl
  if_and false given x y on off = off

  -- where it doesn't
  pub unless_and : (test given : Bool) (x y : A) → P false x → P given y → P (not test && given) (cond test x y)
  unless_and true given x y on off = on
  unless_and false given x y on off = off

  -- exactly where it holds
  pub if_and_only : (test : Bool) (x y : A) → (test ≡ true → P true x) → P false y → P test (cond test x y)
  if_and_only true x y on off = on refl
  if_and_only false x y on off = off

-- done, or refused
pub judged_gains : (new : New) (given : Bool) (a : Areas) (reply : ℕ) (does : Outcome) → (reply ≡ 0 → Gains new given a does.after)
    → Gains new (eqb reply 0 && given) a (judged reply does a).after
judged_gains new given a reply does gains =
    if_and (λ (g : Bool) (o : Outcome). Gains new g a o.after) (eqb reply 0) given does (refused reply a) (λ e. gains (eqb-true reply 0 e))
    (unchanged a, not_given)

-- a free slot that is moved to a queue stands there
moved_stands : (rows octets : List ℕ) (queues : Queues) → SoundIn rows octets queues → (from to : ℕ) → (head_of queues from).found ≡ true → to < 33
    → 1 ≤ stands_in (moved queues from to) (head_of queues from).slot to
moved_stands rows octets queues sound from to found h =
    let slot : ℕ = (head_of queues from).slot in
    let left : List ℕ = spans_taken queues.spans from in
    let after = ap (λ (q : Queues). stands_in q slot to) (moved_some queues from to found) in
    let put =
    put_tally (is slot) left queues.rings (head_long rows octets queues sound from found) to slot sound.rings_long
    (head_room rows octets queues sound from found to (omega arith))
    in
    let here : bit (is slot slot) ≡ 1 = simp (eq-eqb slot slot refl) in
    omega (arith, after, put, here)

module _ (a : Areas) (octets : List ℕ) (regular : RegularIn a octets) (kinds : Kinds a.spans a.rings) (one : length a.arrivals ≡ 1) where
  -- a management message that finds a place and a number
  pub joined_gains : (draft : Draft) (ring : ℕ) → ring < 33 → management_reply a.spans a.arrivals ≡ 0
      → Gains (Made draft) true a (with_held a (with_management ring draft.message draft.point draft.slc (held_in a)))
  unfolding management_queues rows_with_management management_arrivals management_reply head_of Written
  joined_gains draft ring h done =
      let head : ℕ = (head_of (queues_in a) 34).slot in
      let heading : ℕ = heading_of draft.message in
      let field : ℕ = field_of draft.message in
      let some = eqb-false (count_of a.spans 34) 0 (none_applies 7 (no_management_place a.spans) _ done).0 in
      let found = head_found (queues_in a) 34 (omega (arith, some)) in
      simp (eq-eqb (management_reply a.spans a.arrivals) 0 done) (
        get_or-set_same a.arrivals 0 (next_of a.arrivals + 1) 0 (omega (arith, one)),
        λ (given : true ≡ true). (
          (
            taken_management a.spans a.rings a.rows octets regular.store kinds found,
            management_read a.rows head (next_of a.arrivals) heading draft.point draft.slc field regular.store.rows_long
                (slot_below a.rows octets (queues_in a) regular.store 34 found),
          ),
          record { ring = ring; within = h; stands = moved_stands a.rows octets (queues_in a) regular.store 34 ring found h },
        ),
      )

  -- one that doesn't
  joined_none : (draft : Draft) (ring : ℕ) → eqb (management_reply a.spans a.arrivals) 0 ≡ false
      → Gains (Made draft) false a (with_held a (with_management ring draft.message draft.point draft.slc (held_in a)))
  unfolding rows_with_management management_arrivals
  joined_none draft ring e =
      let b = with_held a (with_management ring draft.message draft.point draft.slc (held_in a)) in
      let same : b.arrivals ≡ a.arrivals = simp e in
      (ap next_of same ∙ unchanged a, not_given)

  -- a user message that does
  pub queued_gains : (plan : Plan) (label : Label) (message : List ℕ) → (5 ≤ length message) × (length message ≤ 273)
      → unreachable plan a label ≡ false → user_reply a.spans a.arrivals ≡ 0
      → Gains (User (length message)) true a (queued plan a label (length message))
  unfolding queued user_queues rows_with_user user_arrivals user_reply head_of Written
  queued_gains plan label message small reached done =
      let size : ℕ = length message in
      let head : ℕ = (head_of (queues_in a) 33).slot in
      let some = eqb-false (count_of a.spans 33) 0 (none_applies 6 (no_user_place a.spans) _ done).0 in
      let found = head_found (queues_in a) 33 (omega (arith, some)) in
      let user = taken_user a.spans a.rings a.rows octets regular.store kinds found in
      let row =
      user_read a.rows head (next_of a.arrivals) label.dpc label.sls size regular.store.rows_long (fits_there head size user small.1)
      in
      simp (eq-eqb (user_reply a.spans a.arrivals) 0 done) (
        get_or-set_same a.arrivals 0 (next_of a.arrivals + 1) 0 (omega (arith, one)),
        λ (given : true ≡ true). (
          (user, small.0, small.1, ap (λ (s : Slot). s.field) row, ap (λ (s : Slot). s.arrival) row, ap (λ (s : Slot). s.heading) row),
          record {
            ring = ring_of plan a label;
            within = ring_within plan a label reached;
            stands =
                moved_stands a.rows octets (queues_in a) regular.store 33 (ring_of plan a label) found (ring_within plan a label reached);
          },
        ),
      )

  module _ (plan : Plan) (draft : Draft) where
    -- a message that the node makes
    pub made_gains : Gains (Made draft) (makes plan draft a) a (with_made plan draft a)
    unfolding is_made made
    made_gains =
        let path = path_of plan a.links a.marks draft in
        if_and (λ (g : Bool) (then : Held). Gains (Made draft) g a (with_held a then)) (has_path plan a.links a.marks draft)
        (eqb (management_reply a.spans a.arrivals) 0)
        (with_management path draft.message draft.point draft.slc (held_in a))
        (held_in a)
        (λ there.
        let joined = with_held a (with_management path draft.message draft.point draft.slc (held_in a)) in
        let reply = management_reply a.spans a.arrivals in
        cases (eqb reply 0)
        (λ e.
        subst (λ (g : Bool). Gains (Made draft) g a joined) (sym e)
        (joined_gains draft path (omega (arith, ltb-true path 32 there)) (eqb-true reply 0 e)))
        (λ e. subst (λ (g : Bool). Gains (Made draft) g a joined) (sym e) (joined_none draft path e)))
        (unchanged a, not_given)

    -- it stands in the queue of its path
    pub made_stands : makes plan draft a ≡ true
        → let path = path_of plan a.links a.marks draft in
        (path < 32) × (1 ≤ stands_in (queues_in (with_made plan draft a)) (slot_for (Made draft) a) path)
    unfolding is_made made management_queues management_reply
    made_stands given =
        let path = path_of plan a.links a.marks draft in
        let reply = management_reply a.spans a.arrivals in
        let two = (and-eq-true_iff (has_path plan a.links a.marks draft) (eqb reply 0)).0 given in
        let within = ltb-true path 32 two.0 in
        let some = eqb-false (count_of a.spans 34) 0 (none_applies 7 (no_management_place a.spans) _ (eqb-true reply 0 two.1)).0 in
        let found = head_found (queues_in a) 34 (omega (arith, some)) in
        (within, simp (two.0, two.1) (moved_stands a.rows octets (queues_in a) regular.store 34 path found (omega arith)))

    -- a reply that isn't 0 means that nothing is made
    pub not_made : eqb (makes_reply plan draft a) 0 ≡ false → makes plan draft a ≡ false
    unfolding reply_of is_made
    not_made refused =
        cases (has_path plan a.links a.marks draft)
        (λ e. let lacks : eqb (management_reply a.spans a.arrivals) 0 ≡ false = simp e at refused in simp (e, lacks))
        (λ e. simp e)

    -- done, or refused by that reply
    pub judged_made : (does : Outcome) → Gains (Made draft) (makes plan draft a) a does.after
        → Gains (Made draft) (makes plan draft a) a (judged (makes_reply plan draft a) does a).after
    judged_made does gains =
        by_test (λ (o : Outcome). Gains (Made draft) (makes plan draft a) a o.after) (eqb (makes_reply plan draft a) 0) does
        (refused (makes_reply plan draft a) a)
        (λ e. gains)
        (λ e. subst (λ (g : Bool). Gains (Made draft) g a a) (sym (not_made e)) (unchanged a, not_given))
