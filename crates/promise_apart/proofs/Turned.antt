-- The head of a queue that goes to the end of the same queue: it stands behind the others, which stay in their order.
-- Assumes nothing.
use mathlib.Core.Path.{◌≡◌, sym, ap, ◌∙◌}
use mathlib.Core.Bool.{true}
use mathlib.Core.List.{List, [], ◌∷◌, ◌++◌}
use Prim.Native.Nat.{ℕ, ◌<◌}
use lib.ListN.{drop}
use Rattle.queue_rings.specs.Ring.{queue, take_of, spans_taken}
use Rattle.queue_rings.proofs.Queues.{found_some, taken_queue}
use Rattle.queue_store.specs.Sound.{Sound}
use Rattle.queue_store.proofs.Moves.{moved_queue}
use Rattle.queue_heads.specs.Head.{Queues, head_of, moved}
use Rattle.promise_ledger.proofs.Balance.{moved_some}
use Rattle.promise_leaving.specs.Going.{slots_of}
use Rattle.promise_leaving.proofs.Queues.{head_found, head_is}

module _
    (queues : Queues)
    (rows octets : List ℕ)
    (sound : Sound queues.spans queues.rings rows octets)
    (ring slot : ℕ)
    (later : List ℕ)
    (e : slots_of queues ring ≡ slot ∷ later)
    (h : ring < 35) where
  found : (take_of queues.spans queues.rings ring).found ≡ true
  unfolding head_of
  found = head_found queues ring slot later e

  -- behind the head are the others
  behind : queue (spans_taken queues.spans ring) queues.rings ring ≡ later
  behind =
      ap (drop 1)
      (sym (taken_queue queues.spans queues.rings ring sound.spans_long (found_some queues.spans queues.rings ring found)) ∙ e)

  pub turned : slots_of (moved queues ring ring) ring ≡ later ++ (slot ∷ [])
  unfolding head_of
  turned =
      ap (λ (q : Queues). slots_of q ring) (moved_some queues ring ring (head_found queues ring slot later e))
      ∙ moved_queue queues.spans queues.rings rows octets sound ring found ring h
      ∙ ap (λ (l : List ℕ). l ++ ((take_of queues.spans queues.rings ring).slot ∷ [])) behind
      ∙ ap (λ (s : ℕ). later ++ (s ∷ [])) (head_is queues ring slot later e)
