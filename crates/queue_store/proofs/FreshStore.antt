-- The fresh store: its queues are the free slots in order, and it is sound, with the kinds apart. Assumes nothing.
use Rattle.std.proofs.Common.{◌≡◌, ℕ, ◌+◌, ◌-◌, ◌*◌, ◌%◌, ◌<◌, ◌≤◌, not, ltb, List, [], length, get_or, sym, refl, ap, ◌∙◌, zero-add, arith, ltb-false, ltb-true, le-ltb, lt-ltb, eq-eqb, ne_eqb}
use lib.Seq.{length-sets}
use Rattle.area_rows.specs.Rows.{word_at}
use Rattle.area_spans.specs.SpanRows.{span_at, with_span}
use Rattle.area_spans.specs.declared.Span.{Span}
use Rattle.area_rows.proofs.Laws.{row_same, row_other, row_length}
use Rattle.queue_rings.specs.Run.{run}
use Rattle.queue_rings.specs.Ring.{cell, count_of, entry, queue}
use Rattle.queue_store.specs.Fresh.{emptied, in_order, ring_filled, fresh_spans, fresh_rings}
use Rattle.queue_store.specs.Sound.{tally, sum, held, is, user, management, Sound, Kinds}
use Rattle.queue_rings.proofs.Runs.{run_length, run_same, run_at}
use borrow.Table.Steps.{cases}
use Rattle.queue_rings.proofs.Spans.{span_same, span_other, span_length}
use Rattle.queue_rings.proofs.Queues.{queue_none}
use Rattle.queue_store.proofs.Moves.{count_part}
use Rattle.queue_store.proofs.Sums.{sum_none, sum_two}
use Rattle.queue_store.proofs.Tallies.{run_none, run_once}

abbrev users_free : Span
users_free = record { head = 0; count = 192 }

abbrev managements_free : Span
managements_free = record { head = 0; count = 64 }

module _ (spans : List ℕ) (long : length spans ≡ 70) where
  emptied_length : length (emptied spans 70) ≡ 70
  unfolding emptied
  emptied_length = length-sets spans 0 (run (λ i. 0) 0 70) ∙ long

  -- every word of the spans is 0
  emptied_word : (place : ℕ) → place < 70 → get_or (emptied spans 70) place 0 ≡ 0
  unfolding emptied
  emptied_word place h =
      let words : List ℕ = run (λ i. 0) 0 70 in
      let size : length words ≡ 70 = run_length (λ i. 0) 0 70 in
      let there = row_same 1 70 spans 0 words (omega arith) (omega arith) long place (omega arith) in
      simp zero-add at there ∙ run_at (λ i. 0) 0 70 place h

  emptied_span : (ring : ℕ) → ring < 35 → span_at (emptied spans 70) ring ≡ record { head = 0; count = 0 }
  emptied_span ring h =
      simp (lt-ltb ring 35 h, emptied_word (2 * ring + 0) (omega arith), emptied_word (2 * ring + 1) (omega arith))

  -- the rows of the rings: of the free slots each ring has its kind's, the others have none
  users_span : span_at (fresh_spans spans) 33 ≡ users_free
  unfolding fresh_spans
  users_span =
      span_other (with_span (emptied spans 70) 33 users_free) 34 managements_free 33 (omega arith)
      ∙ span_same (emptied spans 70) 33 users_free emptied_length (omega arith)

  managements_span : span_at (fresh_spans spans) 34 ≡ managements_free
  unfolding fresh_spans
  managements_span =
      span_same (with_span (emptied spans 70) 33 users_free) 34 managements_free
      (span_length (emptied spans 70) 33 users_free ∙ emptied_length)
      (omega arith)

  other_span : (ring : ℕ) → ring < 33 → span_at (fresh_spans spans) ring ≡ record { head = 0; count = 0 }
  unfolding fresh_spans
  other_span ring h =
      span_other (with_span (emptied spans 70) 33 users_free) 34 managements_free ring (omega arith)
      ∙ span_other (emptied spans 70) 33 users_free ring (omega arith)
      ∙ emptied_span ring (omega arith)

  pub fresh_spans_length : length (fresh_spans spans) ≡ 70
  unfolding fresh_spans
  fresh_spans_length =
      span_length (with_span (emptied spans 70) 33 users_free) 34 managements_free
      ∙ span_length (emptied spans 70) 33 users_free
      ∙ emptied_length

-- the places of a ring from its first on, once it is filled; and those of another ring
module _ (rings : List ℕ) (ring first size : ℕ) (short : size ≤ 256) where
  short_run : length (run (in_order first) 0 size) ≤ 256
  short_run = omega (arith, run_length (in_order first) 0 size)

  listed_same : length rings ≡ 8960 → ring < 35 → (i : ℕ) → i < size
      → word_at 35 256 (ring_filled rings ring first size) ring i ≡ (first + i) % 256
  unfolding ring_filled
  listed_same wide h i l =
      let slots : List ℕ = run (in_order first) 0 size in
      row_same 35 256 rings ring slots short_run h wide i (omega (arith, run_length (in_order first) 0 size))
      ∙ simp zero-add at (run_at (in_order first) 0 size i l)

  listed_other : (other : ℕ) → (other ≡ ring → ⊥) → (i : ℕ) → i < 256
      → word_at 35 256 (ring_filled rings ring first size) other i ≡ word_at 35 256 rings other i
  unfolding ring_filled
  listed_other other apart i l = row_other 35 256 rings ring (run (in_order first) 0 size) short_run other apart i l

  listed_length : length (ring_filled rings ring first size) ≡ length rings
  unfolding ring_filled
  listed_length = row_length 35 256 rings ring (run (in_order first) 0 size) short_run

-- a ring that begins at its first place has the slots that stand from there on
first_queue : (spans rings : List ℕ) (ring size : ℕ) (f : ℕ → ℕ) → ring < 35 → size ≤ 256
    → span_at spans ring ≡ record { head = 0; count = size }
    → ((i : ℕ) → i < size → word_at 35 256 rings ring i ≡ f i) → queue spans rings ring ≡ run f 0 size
unfolding queue count_of entry
first_queue spans rings ring size f h short span slots =
    ap (run (entry spans rings ring) 0) (ap (λ (s : Span). s.count) span)
    ∙ run_same (entry spans rings ring) f 0 0 size
    (λ i l.
    let head = ap (λ (s : Span). s.head) span in
    let place : cell ring (span_at spans ring).head (0 + i) ≡ 256 * ring + i = omega arith in
    let there : get_or rings (256 * ring + i) 0 ≡ f i = simp (lt-ltb ring 35 h) at (slots i l) in
    ap (λ (k : ℕ). get_or rings k 0) place ∙ there ∙ ap f (sym (zero-add i)))

-- how often a slot stands among so many in order from the first on
module _ (f : ℕ → ℕ) (first size : ℕ) (order : (i : ℕ) → f i ≡ first + i) (given : ℕ) where
  order_once : first ≤ given → given < first + size → tally (is given) (run f 0 size) ≡ 1
  order_once low high =
      let place : ℕ = given - first in
      run_once (is given) f 0 size place (omega arith)
      (eq-eqb (f (0 + place)) given (omega (arith, order (0 + place))))
      (λ i l apart. ne_eqb (f (0 + i)) given (λ q. apart (omega (arith, order (0 + i)))))

  order_none : ((i : ℕ) → i < size → first + i ≡ given → ⊥) → tally (is given) (run f 0 size) ≡ 0
  order_none apart = run_none (is given) f 0 size (λ i l. ne_eqb (f (0 + i)) given (λ q. apart i l (omega (arith, order (0 + i)))))

module _ (spans rings : List ℕ) (long : length spans ≡ 70) (wide : length rings ≡ 8960) where
  pub fresh_rings_length : length (fresh_rings rings) ≡ 8960
  unfolding fresh_rings
  fresh_rings_length =
      listed_length (ring_filled rings 33 0 192) 34 192 64 (omega arith) ∙ listed_length rings 33 0 192 (omega arith) ∙ wide

  users_slot : (i : ℕ) → i < 192 → word_at 35 256 (fresh_rings rings) 33 i ≡ i
  unfolding fresh_rings
  users_slot i h =
      listed_other (ring_filled rings 33 0 192) 34 192 64 (omega arith) 33 (omega arith) i (omega arith)
      ∙ listed_same rings 33 0 192 (omega arith) wide (omega arith) i h
      ∙ omega arith

  managements_slot : (i : ℕ) → i < 64 → word_at 35 256 (fresh_rings rings) 34 i ≡ 192 + i
  unfolding fresh_rings
  managements_slot i h =
      listed_same (ring_filled rings 33 0 192) 34 192 64 (omega arith) (listed_length rings 33 0 192 (omega arith) ∙ wide) (omega arith) i h
      ∙ omega arith

  -- the user slots are free, in order
  pub users_queue : queue (fresh_spans spans) (fresh_rings rings) 33 ≡ run (λ i. i) 0 192
  users_queue =
      first_queue (fresh_spans spans) (fresh_rings rings) 33 192 (λ i. i) (omega arith) (omega arith)
      (users_span spans long)
      users_slot

  -- and so are the management slots
  pub managements_queue : queue (fresh_spans spans) (fresh_rings rings) 34 ≡ run (λ i. 192 + i) 0 64
  managements_queue =
      first_queue (fresh_spans spans) (fresh_rings rings) 34 64 (λ i. 192 + i) (omega arith) (omega arith)
      (managements_span spans long)
      managements_slot

  -- the other rings are empty
  pub other_queue : (ring : ℕ) → ring < 33 → queue (fresh_spans spans) (fresh_rings rings) ring ≡ []
  unfolding count_of
  other_queue ring h =
      queue_none (fresh_spans spans) (fresh_rings rings) ring (ap (λ (s : Span). s.count) (other_span spans long ring h))

  -- each slot is in one of the two rings of free slots, and in no other
  fresh_once : (given : ℕ) → given < 256 → held (is given) (fresh_spans spans) (fresh_rings rings) ≡ 1
  unfolding held tally
  fresh_once given h =
      let slots : ℕ → ℕ = λ ring. tally (is given) (queue (fresh_spans spans) (fresh_rings rings) ring) in
      let others : sum slots 33 ≡ 0 = sum_none slots 33 (λ ring l. ap (tally (is given)) (other_queue ring l)) in
      let all = sum_two slots 33 in
      let users = ap (tally (is given)) users_queue in
      let managements = ap (tally (is given)) managements_queue in
      cases (ltb given 192)
      (λ e.
      let low = ltb-true given 192 e in
      let here = order_once (λ i. i) 0 192 (λ i. sym (zero-add i)) given (omega arith) (omega arith) in
      let not_there = order_none (λ i. 192 + i) 192 64 (λ i. refl) given (λ i l q. omega arith) in
      omega arith)
      (λ e.
      let high = ltb-false given 192 e in
      let not_here = order_none (λ i. i) 0 192 (λ i. sym (zero-add i)) given (λ i l q. omega arith) in
      let there = order_once (λ i. 192 + i) 192 64 (λ i. refl) given (omega arith) (omega arith) in
      omega arith)

  -- the rings hold 256, all of them free
  fresh_all : sum (count_of (fresh_spans spans)) 35 ≡ 256
  unfolding count_of
  fresh_all =
      let count : ℕ → ℕ = count_of (fresh_spans spans) in
      let others : sum count 33 ≡ 0 = sum_none count 33 (λ ring l. ap (λ (s : Span). s.count) (other_span spans long ring l)) in
      omega (
        arith,
        sum_two count 33,
        ap (λ (s : Span). s.count) (users_span spans long),
        ap (λ (s : Span). s.count) (managements_span spans long),
      )

  -- the fresh store is sound
  pub fresh_sound : (rows octets : List ℕ) → length rows ≡ 2048 → length octets ≡ 52416
      → Sound (fresh_spans spans) (fresh_rings rings) rows octets
  fresh_sound rows octets rows_long_here octets_long_lem =
      record {
        spans_long = fresh_spans_length spans long;
        rings_long = fresh_rings_length;
        rows_long = rows_long_here;
        octets_long = octets_long_lem;
        all = fresh_all;
        short = λ ring. omega (arith, count_part (fresh_spans spans) ring, fresh_all);
        once = fresh_once;
      }

  -- and has the kinds apart
  pub fresh_kinds : Kinds (fresh_spans spans) (fresh_rings rings)
  fresh_kinds =
      record {
        free_user = simp users_queue (run_none management (λ i. i) 0 192 (λ i l. ap not (lt-ltb (0 + i) 192 (omega arith))));
        free_management = simp managements_queue (run_none user (λ i. 192 + i) 0 64 (λ i l. le-ltb (192 + (0 + i)) 192 (omega arith)));
      }
