-- The fates of every call are true: over any run of calls from any configuration, and for any call then, every line says what is so and no message is left
-- out. Assumes nothing.
use mathlib.Core.Path.{◌≡◌, ap}
use mathlib.Core.List.{List}
use Prim.Native.Nat.{ℕ, zero, suc, ◌+◌, ◌≤◌}
use native.Mathlib.Nat.{add-zero}
use native.Mathlib.Numerals.{add-one}
use native.Mathlib.Omega.{arith}
use Rattle.plan_configuration.specs.Configure.{configured}
use Rattle.plan_configuration.proofs.Made.{configured_sound}
use Rattle.queue_rings.specs.Ring.{count_of}
use Rattle.queue_store.specs.Sound.{sum}
use Rattle.queue_store.proofs.Sums.{sum_two}
use Rattle.node.specs.Memory.{Memory}
use Rattle.node.specs.Call.{call_of}
use Rattle.promise_runs.specs.Run.{Call, lent, ran, fresh, Whole}
use Rattle.promise_runs.proofs.KeepsCalls.{RegularAt, call_regular}
use Rattle.promise_runs.proofs.Reached.{configured_regular}
use Rattle.fate_places.specs.Places.{Held, places}
use Rattle.replay_fates.specs.Holds.{together}
use Rattle.replay_fates.proofs.Saying.{fates_hold}
use Rattle.replay_fates.proofs.NoneLeftOut.{new_told, acknowledged_told, retired_told, moved_told}
use Rattle.promise_fates.specs.Told.{queues_in, seen_of, FatesTrue}

-- what queues hold together is no more than their counts
within_counts : (h : Held) (queue queues : ℕ) → sum (count_of h.spans) queue + together h queue queues ≤ sum (count_of h.spans) (queue + queues)
unfolding sum together places
within_counts h queue zero = omega (arith, ap (sum (count_of h.spans)) (add-zero queue))
within_counts h queue (suc queues) =
    let later = within_counts h (suc queue) queues in
    let same : together h (queue + 1) queues ≡ together h (suc queue) queues = ap (λ (q : ℕ). together h q queues) (add-one queue) in
    let index : suc queue + queues ≡ queue + suc queues = omega arith in
    let end = ap (sum (count_of h.spans)) index in
    omega (arith, later, same, end)

pub at_most : (m : Memory) → RegularAt m → together (queues_in m) 0 33 ≤ 256
unfolding sum
at_most m regular =
    omega (arith, within_counts (queues_in m) 0 33, sum_two (count_of m.areas.spans) 33, regular.store.all)

-- every call
pub fates_true : (text : List ℕ) (m : Memory) → Whole m → (calls : List Call) (call : Call)
    → let plan = (configured text).plan in FatesTrue (seen_of plan call (ran plan calls (fresh m)))
fates_true text m whole calls call =
    let plan = (configured text).plan in
    let before : Memory = ran plan calls (fresh m) in
    let s = seen_of plan call before in
    let regular = configured_regular text m whole calls in
    let few = at_most before regular in
    let after : Memory = (call_of plan call.event call.message (lent call before)).after in
    let few-after = at_most after
    (call_regular plan (configured_sound text) call.message (lent call before) regular call.event) in
    record {
      so = fates_hold s;
      queued = λ queue place below held new. new_told s queue place below held few-after new;
      acknowledged = λ queue place below held is gone. acknowledged_told s queue place below held few is gone;
      retired = λ queue place below held is gone. retired_told s queue place below held few is gone;
      moved = λ queue place below held lower. moved_told s queue place below held few lower;
    }
