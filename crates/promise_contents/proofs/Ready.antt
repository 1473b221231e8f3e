-- The states that a run from a fresh node reaches: regular, with free slots apart by kind and one next number.
-- Assumes nothing.
use mathlib.Core.Path.{◌≡◌, ◌∙◌}
use mathlib.Core.Bool.{true}
use mathlib.Core.List.{List, [], ◌∷◌}
use lib.ListN.{length, length-set}
use Rattle.plan.specs.declared.data.Plan.{Plan}
use Rattle.plan.specs.Sound as Plan
use Rattle.queue_store.specs.Sound.{Kinds}
use Rattle.queue_store.proofs.FreshStore.{fresh_kinds}
use Rattle.node.specs.Memory.{Memory}
use Rattle.promise_runs.specs.Run.{Call, lent, called, ran, fresh, Whole}
use Rattle.promise_runs.proofs.KeepsCalls.{RegularAt, call_regular}
use Rattle.promise_runs.proofs.Reached.{fresh_regular}
use Rattle.promise_accounts.proofs.EvenCalls.{call_even}

-- a regular state whose free slots are apart by kind, with one next number
pub record Ready (m : Memory) : Type 0 where
  pub regular : RegularAt m
  pub apart : Kinds m.areas.spans m.areas.rings
  pub one : length m.areas.arrivals ≡ 1

module _ (plan : Plan) (sound : Plan.Sound plan) where
  -- a call leaves it so
  pub call_ready : (call : Call) (m : Memory) → Ready m → Ready (called plan call m)
  unfolding called
  call_ready call m ready =
      let even = call_even (λ n. true) plan call.message (lent call m) ready.regular ready.one ready.apart call.event in
      record {
        regular = call_regular plan sound call.message (lent call m) ready.regular call.event;
        apart = even.apart ready.apart;
        one = even.one;
      }

  -- and so does a run
  pub run_ready : (calls : List Call) (m : Memory) → Ready m → Ready (ran plan calls m)
  unfolding ran
  run_ready [] m ready = ready
  run_ready (call ∷ later) m ready = run_ready later (called plan call m) (call_ready call m ready)

module _ (m : Memory) (whole : Whole m) (one : length m.areas.arrivals ≡ 1) where
  -- a fresh node is so
  pub fresh_ready : Ready (fresh m)
  fresh_ready =
      record {
        regular = fresh_regular m whole;
        apart = fresh_kinds m.areas.spans m.areas.rings whole.spans_long whole.rings_long;
        one = length-set m.areas.arrivals 0 0 ∙ one;
      }
