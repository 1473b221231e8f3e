-- The octets that leave with a message are those it was queued with, whatever calls come between.
-- Assumes nothing.
use mathlib.Core.Path.{◌≡◌, sym, ap, subst, ◌∙◌}
use mathlib.Core.List.{List}
use Prim.Native.Nat.{ℕ, ◌+◌, ◌≤◌, ◌<◌}
use native.Mathlib.Omega.{arith}
use lib.ListN.{length, get_or}
use Rattle.plan.specs.declared.data.Plan.{Plan}
use Rattle.area_slots.specs.declared.Slot.{Slot}
use Rattle.area_rows.specs.Rows.{word_at}
use Rattle.queue_rings.proofs.Runs.{run_same, run_at}
use Rattle.queue_slots.specs.Message.{octets_at}
use Rattle.queue_store.specs.Sound.{Kinds}
use Rattle.node.specs.declared.call.Event.{Event}
use Rattle.node.specs.declared.call.Event.TheVariants.{Send}
use Rattle.node.specs.View.{View, view_of}
use Rattle.node.proofs.Viewed.{EachKind, by_view}
use Rattle.node.specs.Memory.{Memory}
use Rattle.node.specs.Call.{receives, takes_over, call_of}
use Rattle.promise_runs.specs.Run.{Call, lent, called, ran}
use Rattle.promise_runs.proofs.KeepsCalls.{RegularAt}
use Rattle.promise_contents.specs.Content.{Content, content_of, row_in, octets_in, next_in, Same, Holds, free_slot, next_slot, PassedOn, Leave}
use Rattle.promise_contents.proofs.KeptRuns.{called_keeps, older_same}
use Rattle.promise_contents.proofs.Queued.{StandsQueued}
use Rattle.promise_contents.proofs.QueuedCalls.{sent_stands, received_stands}
use Rattle.promise_contents.proofs.Sent.{written_leaves, user_writes}

module _ (plan : Plan) (message : List ℕ) (m : Memory) (regular : RegularAt m)
    (kinds : Kinds m.areas.spans m.areas.rings)
    (one : length m.areas.arrivals ≡ 1) where
  -- a message that is passed on, with reply 0: it stands in the slot that was free, its number is used up, and the others stay
  abbrev StandsBy : View → Event → Type 0
  StandsBy view event =
      let r = call_of plan event message m in
      PassedOn plan message view → r.answer.reply ≡ 0
      → StandsQueued plan m.areas m.octets regular.store kinds one message r.after.areas r.after.octets

  by_kind : EachKind StandsBy
  unfolding call_of receives takes_over PassedOn
  by_kind =
      record {
        handed_over = λ passed none. sent_stands plan m.areas m.octets regular.store kinds one message none;
        arrives = λ link fsn passed none.
            received_stands plan m.areas m.octets regular.store kinds one message link fsn passed.0 passed.1 none;
        comes = λ link passed none. absurd passed;
        fails = λ link passed none. absurd passed;
        sends = λ link passed none. absurd passed;
        acknowledges = λ link b passed none. absurd passed;
        t1 = λ link passed none. absurd passed;
        t2 = λ link passed none. absurd passed;
        expires = λ event is passed none. absurd passed;
      }

  pub call_stands : (event : Event) → StandsBy (view_of event) event
  call_stands = by_view StandsBy by_kind

  -- it is held there with the next number and all its octets
  pub queued_octets : (event : Event) → PassedOn plan message (view_of event) → (call_of plan event message m).answer.reply ≡ 0
      → Holds (content_of (call_of plan event message m).after) (free_slot m) (next_in (content_of m)) message
      × (next_in (content_of (call_of plan event message m).after) ≡ next_in (content_of m) + 1)
  queued_octets event passed none = (call_stands event passed none).0

-- slots with the same 273 octets have the same first ones
first_same : (octets octets' : List ℕ) (slot size : ℕ) → size ≤ 273 → octets_at octets' slot 273 ≡ octets_at octets slot 273
    → octets_at octets' slot size ≡ octets_at octets slot size
unfolding octets_at
first_same octets octets' slot size h same =
    let was : ℕ → ℕ = word_at 192 273 octets slot in
    let is : ℕ → ℕ = word_at 192 273 octets' slot in
    run_same is was 0 0 size
    (λ i l.
    let within : i < 273 = omega arith in
    sym (run_at is 0 273 i within) ∙ ap (λ (l : List ℕ). get_or l i 0) same ∙ run_at was 0 273 i within)

-- what is the same holds the same message
holds_same : (before after : Content) (slot number : ℕ) (message : List ℕ) → Same before after slot → Holds before slot number message
    → Holds after slot number message
holds_same before after slot number message same holds =
    record {
      user = holds.user;
      short = holds.short;
      arrival = ap (λ (s : Slot). s.arrival) same.0 ∙ holds.arrival;
      size = ap (λ (s : Slot). s.field) same.0 ∙ holds.size;
      octets = first_same before.octets after.octets slot (length message) holds.short same.1 ∙ holds.octets;
    }

-- a held message that is sent leaves whole
pub held_leaves : (plan : Plan) (link : ℕ) (given : List ℕ) (m : Memory) (number : ℕ) (message : List ℕ)
    → Holds (content_of m) (next_slot m link) number message → (call_of plan (Send link) given m).answer.reply ≡ 0
    → Leave (call_of plan (Send link) given m) message
held_leaves plan link given m number message holds none =
    let slot = next_slot m link in
    let small : (row_in (content_of m) slot).field ≤ 273 = omega (arith, holds.size, holds.short) in
    let whole : octets_in (content_of m) slot (row_in (content_of m) slot).field ≡ message =
    ap (octets_in (content_of m) slot) holds.size ∙ holds.octets
    in
    subst (Leave (call_of plan (Send link) given m)) whole
    (written_leaves (call_of plan (Send link) given m) m.out (octets_in (content_of m) slot (row_in (content_of m) slot).field)
    (user_writes plan link given m none holds.user small))

module _ (plan : Plan) (m : Memory) (regular : RegularAt m) (kinds : Kinds m.areas.spans m.areas.rings)
    (one : length m.areas.arrivals ≡ 1)
    (queueing : Call) where
  -- while the number of the message stands in its slot, the slot holds it whole
  pub still_held : PassedOn plan queueing.message (view_of queueing.event)
      → (call_of plan queueing.event queueing.message (lent queueing m)).answer.reply ≡ 0
      → (calls : List Call)
      → let after = content_of (ran plan calls (called plan queueing m)) in
      (row_in after (free_slot m)).arrival ≡ next_in (content_of m)
      → Holds after (free_slot m) (next_in (content_of m)) queueing.message
  unfolding called
  still_held passed none calls named =
      let next : Memory = called plan queueing m in
      let stands = queued_octets plan queueing.message (lent queueing m) regular kinds one queueing.event passed none in
      let same =
      older_same plan calls next ((called_keeps plan queueing m regular.store.rows_long).long ∙ regular.store.rows_long) (free_slot m)
      (omega (arith, stands.0.user))
      (omega (arith, named, stands.1))
      in
      holds_same (content_of next) (content_of (ran plan calls next)) (free_slot m) (next_in (content_of m)) queueing.message same stands.0

  -- a message that is passed on, any calls, and the send of it: what leaves is what was queued, all of it
  pub octets_kept : PassedOn plan queueing.message (view_of queueing.event)
      → (call_of plan queueing.event queueing.message (lent queueing m)).answer.reply ≡ 0
      → (calls : List Call) (sending : Call) (link : ℕ)
      → let later = ran plan calls (called plan queueing m) in
      next_slot later link ≡ free_slot m
      → (row_in (content_of later) (free_slot m)).arrival ≡ next_in (content_of m)
      → (call_of plan (Send link) sending.message (lent sending later)).answer.reply ≡ 0
      → Leave (call_of plan (Send link) sending.message (lent sending later)) queueing.message
  octets_kept passed none calls sending link there named sent =
      let later : Memory = ran plan calls (called plan queueing m) in
      held_leaves plan link sending.message (lent sending later) (next_in (content_of m)) queueing.message
      (subst (λ (slot : ℕ). Holds (content_of later) slot (next_in (content_of m)) queueing.message) (sym there)
      (still_held passed none calls named))
      sent
