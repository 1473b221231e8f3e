-- A link that goes out of service leaves a regular state regular: its queue is empty, its timers stop, and what it held is moved or
-- gone.
-- Assumes nothing.
use mathlib.Core.Path.{◌≡◌, refl, ap, ◌∙◌}
use mathlib.Core.List.{List}
use Prim.Native.Nat.{ℕ, ◌<◌}
use native.Mathlib.Omega.{arith}
use Rattle.plan.specs.declared.data.Plan.{Plan}
use Rattle.area_links.specs.declared.LinkRecord.{LinkRecord}
use Rattle.area_links.specs.LinkRecords.{record_at}
use Rattle.queue_rings.specs.Ring.{count_of}
use Rattle.replies.specs.Areas.{Areas}
use Rattle.queue_heads.specs.Head.{Queues, both}
use Rattle.queue_retiring.specs.Leave.{State, state, retired, dropped}
use Rattle.queue_moving.specs.Move.{moved_all}
use Rattle.changeover_cuts.specs.declared.Cut.{Cut}
use Rattle.changeover_cuts.specs.Cuts.{out_of}
use Rattle.changeover_ending.specs.End.{links_out, cleared, ended, out_of_service}
use Rattle.promise_runs.specs.Regular.{Regular}
use Rattle.promise_runs.proofs.Records.{record_rewritten}
use Rattle.promise_runs.proofs.ByState.{is_out}
use Rattle.promise_runs.proofs.Growing.{Grows, Kept, kept_on}
use Rattle.promise_runs.proofs.Leaving.{SoundAt, left_retired, left_dropped}
use Rattle.promise_runs.proofs.Emptied.{emptied}
use Rattle.promise_runs.proofs.Keeping.{changed}
use Rattle.promise_runs.proofs.Outcomes.{RegularIn}

-- the queue of a link that is out is cleared: nothing is left in it
module _
    (plan : Plan)
    (links marks rows octets : List ℕ)
    (link : ℕ)
    (h : link < 32)
    (out : (record_at links link).state ≡ 0)
    (parts : Cut)
    (now : State)
    (sound : SoundAt links link rows octets now.queues) where
  pub cleared_kept : Kept links link rows octets now.queues (cleared plan links marks rows link parts now).queues
      × (count_of (cleared plan links marks rows link parts now).queues.spans link ≡ 0)
  unfolding cleared
  cleared_kept =
      let few : link < 33 = omega arith in
      let one : State = record { queues = retired link parts.retired now.queues; log = now.log } in
      let two : State = dropped rows link 2 parts.dropped one in
      let last : State = moved_all plan links marks rows link two in
      let first = left_retired links link rows octets few parts.retired now.queues sound in
      let next = left_dropped links link rows octets few 2 parts.dropped one first.kept.sound in
      let end = emptied plan links marks rows octets link few (λ within. out) two next.kept.sound in (
        kept_on links link rows octets now.queues one.queues last.queues first.kept
            (kept_on links link rows octets one.queues two.queues last.queues next.kept end.kept),
        omega (arith, end.fewer),
      )

-- queues that grow by one area of links grow by another that differs in the one link alone
grows_by : (links links' : List ℕ) (but : ℕ) → ((other : ℕ) → (other ≡ but → ⊥) → record_at links' other ≡ record_at links other)
    → (before after : List ℕ) → Grows links' but before after → Grows links but before after
grows_by links links' but others before after grows = record {
  no_less = grows.no_less;
  outs_same =
      λ link h apart is. grows.outs_same link h apart (ap (λ (k : LinkRecord). k.state) (others link apart) ∙ is);
}

module _ (a : Areas) (octets : List ℕ) (regular : RegularIn a octets) (plan : Plan) (link : ℕ) (h : link < 32) (parts : Cut) where
  abbrev known : LinkRecord
  known = record_at a.links link

  -- the link is out
  now_out : (record_at (links_out a.links link) link).state ≡ 0
  unfolding links_out
  now_out = ap (λ (k : LinkRecord). k.state) ((record_rewritten a.links link (out_of known)).there regular.links_long h)

  others : (other : ℕ) → (other ≡ link → ⊥) → record_at (links_out a.links link) other ≡ record_at a.links other
  unfolding links_out
  others = (record_rewritten a.links link (out_of known)).others

  -- with its queue empty
  in_place : (after : Queues) → Kept a.links link a.rows octets (both a.spans a.rings) after
      → count_of after.spans link ≡ 0
      → Regular (links_out a.links link) after.spans after.rings a.rows octets
  unfolding links_out
  in_place after kept none =
      changed a.links a.spans a.rings a.rows octets regular (record_rewritten a.links link (out_of known))
      (record { state_low = omega arith; sent_low = omega arith; timer_low = omega arith; code_low = omega arith })
      h
      a.rows
      octets
      after
      kept
      (is_out (out_of known) (count_of after.spans link) refl
      (record { no_change = refl; still = record { no_t3 = refl; no_code = refl }; empty = none; none_sent = refl }))

  pub out_regular : RegularIn (out_of_service plan a link parts).after octets
  unfolding out_of_service ended
  out_regular =
      let now : State = state a.spans a.rings a.reports 0 in
      let done = cleared_kept plan (links_out a.links link) a.marks a.rows octets link h now_out parts now regular.store in
      let after : Queues = (cleared plan (links_out a.links link) a.marks a.rows link parts now).queues in
      let grows = grows_by a.links (links_out a.links link) link others a.spans after.spans done.0.grows in
      in_place after (record { sound = done.0.sound; grows = grows }) done.1
