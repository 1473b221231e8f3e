-- `queue_store::fresh::list` meets its contract: a turn sets the next slot, and with all passed the ring is filled.
-- Assumes nothing.
use Rattle.std.proofs.Common.{◌≡◌, ℕ, ◌+◌, ◌*◌, List, length, set, sym, ap, ◌∙◌, zero-add, arith, take_all, lt-ltb}
use Rattle.queue_rings.specs.Run.{run}
use Rattle.queue_store.specs.Fresh.{in_order, ring_filled}
use Rattle.queue_rings.proofs.Runs.{run_length, run_at, sets_next}
use Rattle.queue_store.proofs.fresh.list.Goals as goal

pub loop-place-preserved : goal.loop-place-preserved
loop-place-preserved c =
    let l = c.loop-place in
    let a = c.args in
    let slots : List ℕ = run (in_order a.first) 0 a.size in
    let size : length slots ≡ a.size = run_length (in_order a.first) 0 a.size in
    let there = simp zero-add at (run_at (in_order a.first) 0 a.size l.place c.loop-place-test.true) in
    let slot = c.wrapping_add_u8 in
    let next = sets_next slots a.rings.now (256 * a.ring) l.place slot.result (omega arith) (slot.ensures.value ∙ sym there) in
    ap (λ (s : List ℕ). set s (256 * a.ring + l.place) slot.result) l.invariant ∙ next

pub returns : goal.returns
unfolding ring_filled
returns c =
    let l = c.loop-place in
    let a = c.args in
    let slots : List ℕ = run (in_order a.first) 0 a.size in
    let size : length slots ≡ a.size = run_length (in_order a.first) 0 a.size in
    l.invariant ∙ simp (take_all l.place slots (omega arith), lt-ltb a.ring 35 c.if-ring-ge35.false)
