-- A fresh node is regular, and so is every state that a run of calls reaches from it, by the plan that a text makes.
-- Assumes nothing.
use mathlib.Core.Path.{◌≡◌, refl, sym, ap, ◌∙◌}
use mathlib.Core.Bool.{true, false}
use mathlib.Core.List.{List, [], ◌∷◌}
use Prim.Native.Nat.{ℕ, ◌+◌, ◌*◌, ◌<◌}
use native.Mathlib.Nat.{zero-add}
use native.Mathlib.Omega.{arith}
use lib.ListN.{length, get_or}
use lib.Seq.{length-sets}
use borrow.Author.Tests.{lt-ltb}
use Rattle.plan.specs.declared.data.Plan.{Plan}
use Rattle.plan.specs.Sound as Plan
use Rattle.area_links.specs.declared.LinkRecord.{LinkRecord}
use Rattle.area_links.specs.LinkRecords.{record_at}
use Rattle.area_rows.proofs.Laws.{row_same}
use Rattle.queue_rings.specs.Run.{run}
use Rattle.queue_rings.specs.Ring.{count_of}
use Rattle.queue_store.specs.Fresh.{emptied}
use Rattle.queue_rings.proofs.Runs.{run_length, run_at}
use Rattle.queue_rings.proofs.Queues.{queue_length}
use Rattle.queue_store.proofs.FreshStore.{other_queue, fresh_sound}
use Rattle.plan_configuration.specs.Configure.{configured}
use Rattle.plan_configuration.proofs.Made.{configured_sound}
use Rattle.start.specs.Start.{fresh_links, fresh_spans, fresh_rings}
use Rattle.node.specs.Memory.{Memory}
use Rattle.promise_runs.specs.Regular.{regular_link}
use Rattle.promise_runs.specs.Run.{Call, lent, called, ran, Whole, fresh}
use Rattle.promise_runs.proofs.KeepsCalls.{RegularAt, call_regular}

-- the record of a link that never was in service
abbrev pub unused : LinkRecord
unused = record { state = 0; acknowledged = 0; received = 0; sent = 0; timer = 0; t3 = false; code = 0 }

module _ (links : List ℕ) (long : length links ≡ 256) where
  -- every word is 0
  all_none : (place : ℕ) → place < 256 → get_or (fresh_links links) place 0 ≡ 0
  unfolding emptied
  all_none place h =
      let words : List ℕ = run (λ i. 0) 0 256 in
      let size : length words ≡ 256 = run_length (λ i. 0) 0 256 in
      let there = row_same 1 256 links 0 words (omega arith) (omega arith) long place (omega arith) in
      simp zero-add at there ∙ run_at (λ i. 0) 0 256 place h

  fresh_length : length (fresh_links links) ≡ 256
  unfolding emptied
  fresh_length = length-sets links 0 (run (λ i. 0) 0 256) ∙ long

  pub fresh_record : (link : ℕ) → link < 32 → record_at (fresh_links links) link ≡ unused
  fresh_record link h =
      simp (
        lt-ltb link 32 h,
        all_none (8 * link + 0) (omega arith),
        all_none (8 * link + 1) (omega arith),
        all_none (8 * link + 2) (omega arith),
        all_none (8 * link + 3) (omega arith),
        all_none (8 * link + 4) (omega arith),
        all_none (8 * link + 5) (omega arith),
        all_none (8 * link + 6) (omega arith),
      )

-- a link that never was in service is regular
unused_regular : regular_link unused 0 ≡ true
unfolding regular_link
unused_regular = refl

-- a fresh node is regular
pub fresh_regular : (m : Memory) → Whole m → RegularAt (fresh m)
fresh_regular m whole =
    let a = m.areas in
    let none : (link : ℕ) → link < 32 → count_of (fresh_spans a.spans) link ≡ 0 =
    λ link h.
    sym (queue_length (fresh_spans a.spans) (fresh_rings a.rings) link)
    ∙ ap length (other_queue a.spans a.rings whole.spans_long whole.rings_long link (omega arith))
    in
    record {
      links_long = fresh_length a.links whole.links_long;
      each_link =
          λ link h.
          ap (λ (k : LinkRecord). regular_link k (count_of (fresh_spans a.spans) link)) (fresh_record a.links whole.links_long link h)
          ∙ ap (regular_link unused) (none link h)
          ∙ unused_regular;
      store = fresh_sound a.spans a.rings whole.spans_long whole.rings_long a.rows m.octets whole.rows_long whole.octets_long;
    }

module _ (plan : Plan) (sound : Plan.Sound plan) where
  -- a run leaves a regular state regular
  pub run_regular : (calls : List Call) (m : Memory) → RegularAt m → RegularAt (ran plan calls m)
  unfolding ran called
  run_regular [] m regular = regular
  run_regular (call ∷ later) m regular =
      run_regular later (called plan call m) (call_regular plan sound call.message (lent call m) regular call.event)

  -- every state that a run from a fresh node reaches is regular
  pub reached_regular : (m : Memory) → Whole m → (calls : List Call) → RegularAt (ran plan calls (fresh m))
  reached_regular m whole calls = run_regular calls (fresh m) (fresh_regular m whole)

-- the plan that a text makes is sound, so that all that its node reaches is regular
pub configured_regular : (text : List ℕ) (m : Memory) → Whole m → (calls : List Call)
    → RegularAt (ran (configured text).plan calls (fresh m))
configured_regular text = reached_regular (configured text).plan (configured_sound text)
