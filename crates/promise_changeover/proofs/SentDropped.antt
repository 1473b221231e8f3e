-- A changeover by an ECO or ECA: the sent messages are dropped, reason 2, and the unsent ones leave; over every run of calls from every
-- configuration.
-- Assumes nothing.
use mathlib.Core.Path.{◌≡◌}
use mathlib.Core.List.{List}
use Prim.Native.Nat.{ℕ}
use Rattle.plan.specs.declared.data.Plan.{Plan}
use Rattle.plan_configuration.specs.Configure.{configured}
use Rattle.node.specs.Memory.{Memory}
use Rattle.promise_runs.specs.Run.{Call, ran, fresh, Whole}
use Rattle.promise_runs.proofs.Reached.{configured_regular}
use Rattle.promise_farend.specs.History.{result_of}
use Rattle.promise_changeover.specs.ChangedOver.{found, ending_by, WithoutNumber, Brings, InService, SentDropped}
use Rattle.promise_changeover.proofs.ByMessage.{sent_dropped}
use Rattle.promise_changeover.proofs.Naming.{unnumbered_ends}

module _ (m : Memory) (whole : Whole m) (text : List ℕ) (calls : List Call) where
  abbrev its : Plan
  its = (configured text).plan

  abbrev before : Memory
  before = ran its calls (fresh m)

  -- an ECO or ECA (R127)
  pub without_number : (call : Call) (link : ℕ) → Brings its call link WithoutNumber → InService (found call before) link
      → (result_of its call before).answer.reply ≡ 0
      → SentDropped (found call before) (ending_by its call before) link
  without_number call link brings up done =
      let is = unnumbered_ends its call before (configured_regular text m whole calls) link brings up done in
      sent_dropped (found call before) (ending_by its call before) link is.0 is.1 is.2
