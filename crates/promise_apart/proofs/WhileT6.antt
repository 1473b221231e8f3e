-- Over any run of calls from any configuration: every message held apart is one for a configured destination whose T6 runs, so that with no
-- T6 running none is held apart.
-- Assumes nothing.
use mathlib.Core.Path.{◌≡◌, refl, sym, ap, ◌∙◌, subst}
use mathlib.Core.Bool.{false, false≢true}
use mathlib.Core.List.{List, [], ◌∷◌, map}
use Prim.Native.Nat.{ℕ}
use native.Mathlib.Omega.{arith}
use lib.ListN.{length}
use Rattle.constants.specs.Constants.{apart_ring, t6}
use Rattle.plan.specs.declared.data.Plan.{Plan}
use Rattle.plan.specs.Find.{place_of}
use Rattle.plan.specs.Sound as Plan
use Rattle.area_flags.specs.Flags.{flag_at}
use Rattle.queue_store.proofs.FreshStore.{other_queue}
use Rattle.replies.specs.Areas.{Areas}
use Rattle.queue_moving.specs.Move.{point_of}
use Rattle.plan_configuration.specs.Configure.{configured}
use Rattle.plan_configuration.proofs.Made.{configured_sound}
use Rattle.node.specs.Memory.{Memory}
use Rattle.promise_runs.specs.Run.{Call, lent, called, ran, fresh, Whole}
use Rattle.promise_ledger.specs.Held.{arrival_of, numbers}
use Rattle.promise_contents.proofs.Ready.{Ready, call_ready, fresh_ready}
use Rattle.promise_leaving.specs.Apart.{held_apart}
use Rattle.promise_apart.specs.WhileT6.{Each, Waits, OnlyWhileT6}
use Rattle.promise_apart.proofs.Steady.{Steady, same_rows, steady_waits}
use Rattle.promise_apart.proofs.Calls.{call_waits}

-- some that wait are none where no T6 runs
none_wait : (plan : Plan) (a : Areas) → ((destination : ℕ) → flag_at a.marks destination t6 ≡ false) → (slots : List ℕ)
    → Each (Waits plan a) slots → slots ≡ []
unfolding Each
none_wait plan a still [] all = refl
none_wait plan a still (slot ∷ slots) all = absurd (false≢true (sym (still (place_of plan (point_of a.rows slot))) ∙ all.0.runs))

-- a report area and an output that are lent leave those held apart
lent_steady : (call : Call) (m : Memory) → Steady m.areas (lent call m).areas
lent_steady call m = record { slots = refl; rows = same_rows m.areas.rows (held_apart m.areas); flags = λ destination runs. runs }

module _ (plan : Plan) (sound : Plan.Sound plan) where
  abbrev WaitAt : Memory → Type 0
  WaitAt m = Each (Waits plan m.areas) (held_apart m.areas)

  -- a run more
  run_waits : (calls : List Call) (m : Memory) → Ready m → WaitAt m → WaitAt (ran plan calls m)
  unfolding ran called
  run_waits [] m ready all = all
  run_waits (call ∷ later) m ready all =
      run_waits later (called plan call m) (call_ready plan sound call m ready)
      (call_waits plan call.message (lent call m) ready.regular ready.apart
      (steady_waits plan m.areas (lent call m).areas (lent_steady call m) all)
      call.event)

pub apart_only_while_t6 : (m : Memory) → Whole m → length m.areas.arrivals ≡ 1 → (text : List ℕ) (calls : List Call)
    → let plan = (configured text).plan in
    OnlyWhileT6 plan (ran plan calls (fresh m)).areas
unfolding Each numbers
apart_only_while_t6 m whole one text calls =
    let plan = (configured text).plan in
    let after : Areas = (ran plan calls (fresh m)).areas in
    let empty = other_queue m.areas.spans m.areas.rings whole.spans_long whole.rings_long apart_ring (omega arith) in
    let all =
    run_waits plan (configured_sound text) calls (fresh m) (fresh_ready m whole one)
    (subst (Each (Waits plan (fresh m).areas)) (sym empty) tt)
    in
    record {
      each_waits = all;
      none_apart = λ still. ap (map (arrival_of after.rows)) (none_wait plan after still (held_apart after) all);
    }
