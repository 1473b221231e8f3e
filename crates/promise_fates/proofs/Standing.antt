-- A message stands in a queue exactly if its number is one of the queue's, as the promises over runs count them. Assumes nothing.
use mathlib.Core.Path.{◌≡◌, refl, sym, ap, ◌∙◌}
use mathlib.Core.Bool.{Bool, true, false, cond}
use mathlib.Core.List.{List, map}
use Prim.Native.Nat.{ℕ, zero, suc, ◌+◌, ◌≤◌, ◌<◌, min}
use native.Mathlib.Numerals.{add-one}
use native.Mathlib.Omega.{arith}
use lib.Dec.{eqb, ltb}
use borrow.Author.Tests.{lt-ltb}
use Rattle.area_slots.specs.declared.Slot.{Slot}
use Rattle.area_slots.specs.SlotRows.{slot_at}
use Rattle.queue_rings.specs.Run.{run}
use Rattle.queue_rings.specs.Ring.{count_of, entry, at_of, queue}
use Rattle.queue_store.specs.Sound.{bit, tally, is}
use Rattle.queue_heads.specs.Head.{both}
use Rattle.fate_places.specs.Places.{Held, seek, places, message_at, stands}
use Rattle.promise_ledger.specs.Held.{arrival_of, numbers}

module _ (h : Held) (ring : ℕ) where
  -- the message at a place that the queue has
  pub message_is : (place : ℕ) → place < count_of h.spans ring
      → message_at h ring place ≡ slot_at h.rows (entry h.spans h.rings ring place)
  unfolding message_at at_of
  message_is place below = simp (lt-ltb place (count_of h.spans ring) below)

module _ (h : Held) (ring number : ℕ) where
  abbrev test : ℕ → Bool
  test place = eqb (message_at h ring place).arrival number

  abbrev from : ℕ → ℕ → List ℕ
  from place more = map (arrival_of h.rows) (run (entry h.spans h.rings ring) place more)

  some_more : (n : ℕ) → ltb 0 (1 + n) ≡ true
  some_more n = lt-ltb 0 (1 + n) (omega arith)

  step : (b : Bool) (found : Bool) (n : ℕ) → found ≡ ltb 0 n → cond b true found ≡ ltb 0 (bit b + n)
  step true found n e = sym (some_more n)
  step false found n e =
      let same : n ≡ 0 + n = omega arith in
      e ∙ ap (ltb 0) same

  found_is : (place more : ℕ) → place + more ≤ count_of h.spans ring
      → seek test (λ (k : ℕ). true) false place more ≡ ltb 0 (tally (is number) (from place more))
  unfolding seek run tally
  found_is place zero short = refl
  found_is place (suc more) short =
      let later = found_is (place + 1) more (omega arith) ∙ ap (λ (k : ℕ). ltb 0 (tally (is number) (from k more))) (add-one place) in
      step (test place) (seek test (λ (k : ℕ). true) false (place + 1) more) (tally (is number) (from (suc place) more)) later
      ∙ ap (λ (known : Slot). ltb 0 (bit (eqb known.arrival number) + tally (is number) (from (suc place) more)))
      (message_is h ring place (omega arith))

  -- a queue of at most 256
  pub standing : count_of h.spans ring ≤ 256
      → stands h ring number ≡ ltb 0 (tally (is number) (numbers h.rows (both h.spans h.rings) ring))
  unfolding stands places numbers queue
  standing short =
      let all : min (count_of h.spans ring) 256 ≡ count_of h.spans ring = omega arith in
      ap (seek test (λ (k : ℕ). true) false 0) all ∙ found_is 0 (count_of h.spans ring) (omega arith)
