-- A user message that finds a place and a number stands at the end of its queue with that number, and every other queue is as it was.
-- Assumes nothing.
use mathlib.Core.Path.{◌≡◌, ap}
use mathlib.Core.Bool.{true, false, cond}
use mathlib.Core.List.{List, [], ◌∷◌, ◌++◌}
use Prim.Native.Nat.{ℕ, ◌+◌, ◌≤◌, ◌<◌}
use native.Mathlib.Omega.{arith}
use lib.Dec.{eqb, ltb}
use lib.ListN.{length}
use lib.Seq.{get_or-set_same}
use borrow.Author.Tests.{ltb-true, not-false, eq-eqb}
use Rattle.constants.specs.Constants.{t6}
use Rattle.plan.specs.declared.data.Plan.{Plan}
use Rattle.plan.specs.Find.{place_of}
use Rattle.area_flags.specs.Flags.{flag_at}
use Rattle.area_slots.specs.declared.Slot.{Slot}
use Rattle.queue_slots.specs.Message.{fits, user_rows}
use Rattle.queue_slots.proofs.Messages.{fits_there}
use Rattle.queue_slots.proofs.ReadBack.{user_read}
use Rattle.queue_store.specs.Sound.{Sound, Kinds}
use Rattle.queue_store.proofs.KindsApart.{taken_user}
use Rattle.wire.specs.declared.header.Label.{Label}
use Rattle.replies.specs.Areas.{Areas}
use Rattle.route_choice.specs.Which.{none}
use Rattle.queue_heads.specs.Head.{Queues, both, head_of}
use Rattle.queue_joining.specs.Queue.{next_of, counted, user_reply, user_queues, rows_with_user, user_arrivals}
use Rattle.queue_moving.specs.Move.{apart}
use Rattle.passing_passage.specs.Passage.{link_of, unreachable, ring_by, queued}
use Rattle.promise_runs.proofs.Outcomes.{by_test}
use Rattle.promise_ledger.specs.Held.{arrival_of, numbers}
use Rattle.promise_ledger.proofs.Joined.{user_other, user_found}
use Rattle.promise_accounts.proofs.Answers.{joined_each}
use Rattle.promise_queueing.specs.Joining.{joins_at, joins, Joins}

-- a number used up
pub one_counted : (arrivals : List ℕ) → length arrivals ≡ 1 → next_of (counted arrivals) ≡ next_of arrivals + 1
one_counted arrivals one = get_or-set_same arrivals 0 (next_of arrivals + 1) 0 (omega (arith, one))

-- a user message
module _
    (rows octets : List ℕ)
    (queues : Queues)
    (sound : Sound queues.spans queues.rings rows octets)
    (kinds : Kinds queues.spans queues.rings)
    (arrivals : List ℕ)
    (done : user_reply queues.spans arrivals ≡ 0)
    (to : ℕ)
    (h : to < 33)
    (point sls size : ℕ)
    (small : size ≤ 273) where
  -- the slot that is free, and the rows with the message in it
  abbrev free : ℕ
  free = (head_of queues 33).slot

  abbrev placed : List ℕ
  placed = user_rows rows free (next_of arrivals) point sls size

  found : (head_of queues 33).found ≡ true
  found = user_found (λ n. true) rows octets queues sound arrivals done

  fit : fits free size ≡ true
  unfolding head_of
  fit = fits_there free size (taken_user queues.spans queues.rings rows octets sound kinds found) small

  -- it has the next number
  number : arrival_of placed free ≡ next_of arrivals
  number = ap (λ (s : Slot). s.arrival) (user_read rows free (next_of arrivals) point sls size sound.rows_long fit)

  others : (other : ℕ) → (other ≡ free → ⊥) → arrival_of placed other ≡ arrival_of rows other
  others = user_other rows free (next_of arrivals) point sls size fit

  -- every queue
  pub user_joins : (ring : ℕ) → ring < 33
      → numbers (rows_with_user queues arrivals rows point sls size) (user_queues queues arrivals to) ring
      ≡ numbers rows queues ring ++ cond (eqb ring to) (next_of arrivals ∷ []) []
  unfolding user_queues rows_with_user
  user_joins ring l = simp (eq-eqb (user_reply queues.spans arrivals) 0 done)
      (joined_each rows octets queues sound 33 found (omega arith) placed others (next_of arrivals) number to h ring l)

-- and the number is used up
pub user_counted : (spans arrivals : List ℕ) → user_reply spans arrivals ≡ 0 → length arrivals ≡ 1
    → next_of (user_arrivals spans arrivals) ≡ next_of arrivals + 1
unfolding user_arrivals
user_counted spans arrivals done one =
    simp (eq-eqb (user_reply spans arrivals) 0 done) (one_counted arrivals one)

-- a message that has a way is queued
module _
    (plan : Plan)
    (a : Areas)
    (octets : List ℕ)
    (sound : Sound a.spans a.rings a.rows octets)
    (kinds : Kinds a.spans a.rings)
    (one : length a.arrivals ≡ 1)
    (label : Label) where
  -- there is a queue for it
  somewhere : unreachable plan a label ≡ false → joins_at plan a label < 33
  unfolding joins_at link_of
  somewhere reached =
      let h = ltb-true (link_of plan a label) none (not-false (ltb (link_of plan a label) none) reached) in
      by_test (λ (ring : ℕ). ring < 33) (flag_at a.marks (place_of plan label.dpc) t6) apart (link_of plan a label)
      (λ e. omega arith)
      (λ e. omega arith)

  pub queued_joins : unreachable plan a label ≡ false → user_reply a.spans a.arrivals ≡ 0 → (size : ℕ) → size ≤ 273
      → Joins plan label a (queued plan a label size)
  unfolding queued ring_by link_of joins_at joins
  queued_joins reached done size small = record {
    somewhere = somewhere reached;
    queues =
        user_joins a.rows octets (both a.spans a.rings) sound kinds a.arrivals done (joins_at plan a label) (somewhere reached)
        label.dpc
        label.sls
        size
        small;
    counted = user_counted a.spans a.arrivals done one;
  }
