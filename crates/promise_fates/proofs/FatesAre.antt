-- What is told of a call's messages is the history that the promises speak of: over any run of calls from any configuration, and for any call then. Assumes
-- nothing.
use mathlib.Core.Path.{◌≡◌}
use mathlib.Core.List.{List}
use Prim.Native.Nat.{ℕ}
use lib.ListN.{length}
use Rattle.plan_configuration.specs.Configure.{configured}
use Rattle.node.specs.Memory.{Memory}
use Rattle.promise_runs.specs.Run.{Call, ran, fresh, Whole}
use Rattle.promise_fates.specs.History.{FatesAre}
use Rattle.promise_fates.proofs.QueuedAre.{queued_are}
use Rattle.promise_fates.proofs.SentAre.{sent_are}
use Rattle.promise_fates.proofs.GoneAre.{acknowledged_are, retired_are}
use Rattle.promise_fates.proofs.MovedAre.{moved_are}

-- every call
pub fates_are : (text : List ℕ) (m : Memory) → Whole m → length m.areas.arrivals ≡ 1 → (calls : List Call) (call : Call)
    → let plan = (configured text).plan in FatesAre plan call (ran plan calls (fresh m))
fates_are text m whole one calls call =
    record {
      queued = queued_are m whole one text calls call;
      sent = sent_are m whole text calls call;
      acknowledged = acknowledged_are m whole one text calls call;
      retired = retired_are m whole one text calls call;
      moved = moved_are m whole one text calls call;
    }
