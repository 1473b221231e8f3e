-- A link that goes out: its queue is cleared by the rule without it, and the changes of access are told behind the drops.
-- Assumes nothing.
use mathlib.Core.Path.{◌≡◌, refl, ap, ◌∙◌}
use mathlib.Core.List.{List, [], ◌∷◌}
use Prim.Native.Nat.{ℕ, suc, ◌+◌, ◌*◌, ◌%◌, ◌≤◌, ◌<◌}
use native.Mathlib.Nat.{add-zero}
use native.Mathlib.Omega.{arith}
use lib.ListN.{length, get_or, set, get_or-eq_default, length-set}
use lib.Seq.{sets, get_or-set_same}
use borrow.Author.Tests.{lt-ltb}
use Rattle.plan.specs.declared.data.Plan.{Plan}
use Rattle.plan.specs.Find.{given}
use Rattle.plan.proofs.Split.{split}
use Rattle.area_rows.proofs.Laws.{set_after}
use Rattle.area_links.specs.declared.LinkRecord.{LinkRecord}
use Rattle.area_flags.specs.Flags.{word}
use Rattle.area_links.specs.LinkRecords.{record_at, with_record}
use Rattle.queue_rings.specs.Ring.{count_of}
use Rattle.queue_store.specs.Sound.{Sound}
use Rattle.reports.specs.Report.{room}
use Rattle.route_access.specs.Change.{is_accessible}
use Rattle.queue_retiring.specs.Leave.{State}
use Rattle.changeover_cuts.specs.declared.Cut.{Cut}
use Rattle.changeover_cuts.specs.Cuts.{out_of}
use Rattle.changeover_ending.specs.End.{links_out, cleared, ended}
use Rattle.promise_leaving.specs.Going.{Ended}
use Rattle.promise_leaving.proofs.Cleared.{passed_cleared, told_few, cleared_exactly}
use Rattle.promise_leaving.proofs.Changes.{changes_told_lem}

-- a word that is set to 0 is 0, in an area of any length
set_zero : (area : List ℕ) (at : ℕ) → get_or (set area at 0) at 0 ≡ 0
set_zero area at =
    split at (length area) (get_or-set_same area at 0 0)
    (λ past. get_or-eq_default (set area at 0) 0 (omega (arith, length-set area at 0)))

-- so a record whose state is 0 says so: the words behind it leave it
state_zero : (links : List ℕ) (link : ℕ) → link < 32 → (known : LinkRecord) → known.state ≡ 0
    → (record_at (with_record links link known) link).state ≡ 0
state_zero links link h known is =
    let others : List ℕ =
    known.acknowledged ∷ known.received ∷ known.sent ∷ known.timer ∷ word known.t3 ∷ known.code ∷ []
    in
    let zero_there : get_or (sets (set links (8 * link) 0) (suc (8 * link)) others) (8 * link) 0 ≡ 0 =
    set_after others (set links (8 * link) 0) (suc (8 * link)) (8 * link) (omega arith) ∙ set_zero links (8 * link)
    in
    simp (lt-ltb link 32 h, add-zero, is) (ap (λ (w : ℕ). w % 4) zero_there)

-- and a link that goes out is out
pub now_out : (links : List ℕ) (link : ℕ) → link < 32 → (record_at (links_out links link) link).state ≡ 0
unfolding links_out
now_out links link h = state_zero links link h (out_of (record_at links link)) refl

module _
    (plan : Plan)
    (links marks rows octets : List ℕ)
    (link : ℕ)
    (within : link < 32)
    (parts : Cut)
    (now : State)
    (sound : Sound now.queues.spans now.queues.rings rows octets)
    (enough : now.log.count + count_of now.queues.spans link + given plan ≤ room now.log.area) where
  -- the link goes out: what moves, what is dropped, and what is told
  pub ended_exactly : Ended plan links marks rows link parts now (ended plan links marks rows link parts now)
  unfolding ended
  ended_exactly =
      let out = now_out links link within in
      let middle : State = cleared plan (links_out links link) marks rows link parts now in
      let some : now.log.count + count_of now.queues.spans link ≤ room now.log.area = omega arith in
      let passed = passed_cleared plan (links_out links link) marks rows octets link within out parts now sound some in
      let short = told_few plan (links_out links link) marks rows octets link within out parts now sound some in
      let room-left : middle.log.count + given plan ≤ room middle.log.area =
      omega (arith, passed.counted, passed.long, short)
      in
      record {
        drops = middle.log;
        cleared = cleared_exactly plan (links_out links link) marks rows octets link within out parts now sound some;
        told =
            changes_told_lem plan (is_accessible plan links marks) (is_accessible plan (links_out links link) marks) (given plan) 0
            middle.log
            room-left;
      }
