-- What is held, by arrival numbers: "Each queued message, of both kinds, gets an arrival number counted up from 0" (R20).
use Rattle.std.specs.Prelude.{ℕ, Bool, cond, List, [], ◌∷◌, map, eqb}
use Rattle.area_slots.specs.SlotRows.{slot_at}
use Rattle.queue_rings.specs.Ring.{queue}
use Rattle.queue_store.specs.Sound.{bit, sum, tally, is}
use Rattle.queue_heads.specs.Head.{Queues}

-- the arrival number of the message in a slot
abbrev pub arrival_of : List ℕ → ℕ → ℕ
arrival_of rows slot = (slot_at rows slot).arrival

-- the messages of a queue by their numbers, first to last
unfoldable pub numbers : List ℕ → Queues → ℕ → List ℕ
numbers rows queues ring = map (arrival_of rows) (queue queues.spans queues.rings ring)

-- how many numbers that pass a test are held: in the queues of 32 links, and among those held apart
unfoldable pub held_of : (ℕ → Bool) → List ℕ → Queues → ℕ
held_of test rows queues = sum (λ ring. tally test (numbers rows queues ring)) 33

-- how many of those given so far do, where the next is given
abbrev pub given_of : (ℕ → Bool) → ℕ → ℕ
given_of test next = sum (λ number. bit (test number)) next

-- what is put on a queue: the messages that stand in it afterwards and didn't before, first to last
unfoldable pub put_on : List ℕ → List ℕ → List ℕ
put_on before [] = []
put_on before (number ∷ later) = cond (eqb (tally (is number) before) 0) (number ∷ put_on before later) (put_on before later)
