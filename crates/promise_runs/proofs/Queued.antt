-- A new message that is queued: its ring has one more, no link's queue has fewer, and the store stays sound.
-- Assumes nothing.
use mathlib.Core.Path.{◌≡◌, ◌∙◌}
use mathlib.Core.Bool.{true, false}
use mathlib.Core.List.{List}
use Prim.Native.Nat.{ℕ, ◌+◌}
use native.Mathlib.Omega.{arith}
use lib.Dec.{eqb}
use lib.ListN.{length}
use borrow.Author.Tests.{lt-ltb, eq-eqb, eqb-false}
use borrow.Table.Steps.{cases}
use Rattle.queue_rings.specs.Ring.{count_of, take_of}
use Rattle.queue_store.specs.Sound.{Sound}
use Rattle.queue_slots.specs.Write.{Write, rows_with, octets_with}
use Rattle.queue_slots.specs.Message as Message
use Rattle.queue_rings.proofs.Queues.{found_count}
use Rattle.queue_store.proofs.Written.{sound_written}
use Rattle.replies.proofs.Rows.{none_applies}
use Rattle.queue_heads.specs.Head.{Queues, head_of, moved}
use Rattle.queue_joining.specs.Queue.{next_of, no_user_place, no_management_place, user_reply, user_queues, rows_with_user, user_octets, management_reply, management_queues, rows_with_management}
use Rattle.promise_runs.proofs.Counts.{move_to}
use Rattle.promise_runs.proofs.Growing.{Goes, Kept, kept_none, kept_move}

-- a row that is written in a slot leaves the store sound
kept_written : (links : List ℕ) (but : ℕ) (rows octets : List ℕ) (before after : Queues) (write : Write)
    → Kept links but rows octets before after → Kept links but (rows_with rows write) (octets_with octets write) before after
kept_written links but rows octets before after write kept =
    record { sound = sound_written after.spans after.rings rows octets write kept.sound; grows = kept.grows }

module _
    (links : List ℕ)
    (queues : Queues)
    (rows octets : List ℕ)
    (sound : Sound queues.spans queues.rings rows octets)
    (arrivals : List ℕ)
    (ring : ℕ)
    (goes : Goes links ring) where
  -- a user message
  pub user_kept : (point sls : ℕ) (message : List ℕ)
      → Kept links 33 (rows_with_user queues arrivals rows point sls (length message)) (user_octets queues arrivals octets message) queues
      (user_queues queues arrivals ring)
  unfolding user_queues rows_with_user user_octets
  user_kept point sls message =
      cases (eqb (user_reply queues.spans arrivals) 0)
      (λ e.
      simp e
      (kept_written links 33 rows octets queues (moved queues 33 ring)
      (Write.user (head_of queues 33).slot (next_of arrivals) point sls message)
      (kept_move links 33 rows octets queues sound ring goes)))
      (λ e. simp e (kept_none links 33 rows octets queues sound))

  -- a management message
  pub management_kept : (heading point slc field : ℕ)
      → Kept links 34 (rows_with_management queues arrivals rows heading point slc field) octets queues
      (management_queues queues arrivals ring)
  unfolding management_queues rows_with_management
  management_kept heading point slc field =
      cases (eqb (management_reply queues.spans arrivals) 0)
      (λ e.
      simp e
      (kept_written links 34 rows octets queues (moved queues 34 ring)
      (Write.management (head_of queues 34).slot (next_of arrivals) heading point slc field)
      (kept_move links 34 rows octets queues sound ring goes)))
      (λ e. simp e (kept_none links 34 rows octets queues sound))

  -- a ring of free slots that isn't empty has a head
  free_found : (free : ℕ) → eqb (count_of queues.spans free) 0 ≡ false → (take_of queues.spans queues.rings free).found ≡ true
  free_found free e =
      found_count queues.spans queues.rings free
      ∙ lt-ltb 0 (count_of queues.spans free) (omega (arith, eqb-false (count_of queues.spans free) 0 e))

  -- where the reply is 0 the ring has one more
  pub user_gained : user_reply queues.spans arrivals ≡ 0 → (ring ≡ 33 → ⊥)
      → count_of (user_queues queues arrivals ring).spans ring ≡ count_of queues.spans ring + 1
  unfolding user_queues user_reply
  user_gained done apart =
      simp (eq-eqb _ 0 done)
      (move_to queues rows octets sound 33 ring goes.there apart
      (free_found 33 (none_applies 6 (no_user_place queues.spans) _ done).0))

  pub management_gained : management_reply queues.spans arrivals ≡ 0 → (ring ≡ 34 → ⊥)
      → count_of (management_queues queues arrivals ring).spans ring ≡ count_of queues.spans ring + 1
  unfolding management_queues management_reply
  management_gained done apart =
      simp (eq-eqb _ 0 done)
      (move_to queues rows octets sound 34 ring goes.there apart
      (free_found 34 (none_applies 7 (no_management_place queues.spans) _ done).0))
