-- A message for another point has a code below 16384: its label has room for no other.
-- Assumes nothing.
use mathlib.Core.Bool.{cond, not, ◌||◌, ◌&&◌}
use mathlib.Core.List.{List}
use Prim.Native.Nat.{ℕ, ◌<◌}
use native.Mathlib.Nat.{mod-lt}
use lib.Dec.{eqb, leb, lit<}
use lib.ListN.{length}
use Rattle.std.specs.Prelude.{Option, Some, None}
use Rattle.plan.specs.declared.data.Plan.{Plan}
use Rattle.wire.specs.declared.header.Header.{Header}
use Rattle.wire.specs.Header.{header_of}
use Rattle.wire_messages.specs.declared.management.Message.{Message}
use Rattle.wire_messages.specs.Management.{read_message}
use Rattle.discrimination.specs.declared.Came.{Came}
use Rattle.discrimination.specs.declared.Came.TheVariants.{Malformed, Foreign, Delivered, Managed, Passed}
use Rattle.discrimination.specs.Discrimination.{of_ours, managed, ours, from_link_by, from_link, from_host_by, from_host}
use Rattle.promise_runs.proofs.Outcomes.{by_test}

-- one that is passed on has a code that a label has room for
unfoldable pub Coded : Came → Type 0
Coded Malformed = Unit {0}
Coded Foreign = Unit {0}
Coded Delivered = Unit {0}
Coded (Managed order) = Unit {0}
Coded (Passed label) = label.dpc < 16384

module _ (plan : Plan) (message : List ℕ) where
  abbrev header : Header
  header = header_of message

  low : header.label.dpc < 16384
  low = mod-lt _ (lit< tt)

  -- one of our own network, or not
  ours_coded : (came : Came) → Coded came → Coded (cond (eqb header.ni plan.ni) came Foreign)
  unfolding Coded
  ours_coded came coded = by_test Coded (eqb header.ni plan.ni) came Foreign (λ e. coded) (λ e. tt)

  managed_coded : (read : Option Message) → Coded (managed plan header read)
  unfolding managed Coded
  managed_coded None = tt
  managed_coded (Some order) = ours_coded _ tt

  pub link_coded : Coded (from_link plan message)
  unfolding from_link_by ours Coded
  link_coded =
      by_test (λ (read : Option Header). Coded (from_link_by plan message read)) (leb 5 (length message) && leb (length message) 273)
      (Some header)
      None
      (λ e.
      by_test Coded (eqb header.label.dpc plan.code) (ours plan header message) (of_ours plan header (Passed header.label))
      (λ own.
      by_test Coded (eqb header.si 0) (managed plan header (read_message message)) (of_ours plan header Delivered)
      (λ zero. managed_coded (read_message message))
      (λ other. ours_coded Delivered tt))
      (λ other. ours_coded (Passed header.label) low))
      (λ e. tt)

  pub host_coded : Coded (from_host plan message)
  unfolding from_host_by Coded
  host_coded =
      by_test (λ (read : Option Header). Coded (from_host_by plan read)) (leb 5 (length message) && leb (length message) 273)
      (Some header)
      None
      (λ e.
      by_test Coded (eqb header.si 0 || not (eqb header.label.opc plan.code)) Malformed (of_ours plan header (Passed header.label))
      (λ bad. tt)
      (λ good. ours_coded (Passed header.label) low))
      (λ e. tt)
