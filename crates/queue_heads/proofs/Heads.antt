-- What the steps of a move leave, from what the code finds there.
-- Assumes nothing.
use mathlib.Core.Path.{◌≡◌, sym, ap, ◌∙◌}
use mathlib.Core.Bool.{Bool, true, false}
use mathlib.Core.List.{List}
use Prim.Native.Nat.{ℕ}
use Rattle.queue_rings.specs.declared.ring.Taken.{Taken}
use Rattle.queue_rings.specs.Ring.{at_of, take_of, spans_taken, spans_put, rings_put}
use Rattle.queue_rings.specs.Move.{spans_moved, rings_moved}
use Rattle.queue_rings.proofs.Queues.{taken_none}
use Rattle.queue_heads.specs.Head.{Queues, both, head_of, moved, free_ring, freed}

-- areas that are each those of queues make up these, and what is the same
pub queues_whole : (spans rings : List ℕ) {one other : Queues} → one ≡ other → spans ≡ one.spans → rings ≡ one.rings
    → both spans rings ≡ other
queues_whole spans rings same spans-are rings-are = simp (spans-are, rings-are) same

-- what is found of one answer is found of the same
pub found_same : (one other : Taken) → one ≡ other → {found : Bool} → one.found ≡ found → other.found ≡ found
found_same one other e there = sym (ap (λ (t : Taken). t.found) e) ∙ there

-- a take found a head, or none, and left these spans
module _
    (spans rings : List ℕ)
    (from to : ℕ)
    (head : Taken)
    (is : head ≡ take_of spans rings from)
    (taken : List ℕ)
    (left : taken ≡ spans_taken spans from) where
  -- a head that is there is put to the end of the other ring
  pub move_some : head.found ≡ true
      → (head ≡ head_of (both spans rings) from)
      × (both (spans_put taken to) (rings_put taken rings to head.slot) ≡ moved (both spans rings) from to)
  unfolding head_of moved spans_moved rings_moved
  move_some there =
      let found = found_same head (take_of spans rings from) is there in
      (is, simp (left, found, is))

  -- and where there is none all stays as it is
  pub move_none : head.found ≡ false
      → (head ≡ head_of (both spans rings) from) × (both taken rings ≡ moved (both spans rings) from to)
  unfolding head_of moved spans_moved rings_moved
  move_none gone =
      let found = found_same head (take_of spans rings from) is gone in
      (is, simp (found, left ∙ taken_none spans rings from found))

-- the slot at the head's place is the head's, so that a move to its ring of free slots gives it up
pub free_moved : (queues : Queues) (ring : ℕ) (head : Taken) (to : ℕ)
    → head ≡ at_of queues.spans queues.rings ring 0 → to ≡ free_ring head.slot
    → (after : Queues) → after ≡ moved queues ring to → after ≡ freed queues ring
unfolding freed head_of take_of
free_moved queues ring head to is free after left =
    left ∙ ap (moved queues ring) (free ∙ ap (λ (t : Taken). free_ring t.slot) is)
