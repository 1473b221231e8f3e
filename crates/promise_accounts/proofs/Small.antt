-- A message for another point has 5 to 273 octets: a shorter or a longer one is malformed.
-- Assumes nothing.
use mathlib.Core.Path.{◌≡◌}
use mathlib.Core.Bool.{true, ◌&&◌, and-eq-true_iff}
use mathlib.Core.List.{List}
use Prim.Native.Nat.{ℕ, ◌≤◌}
use lib.Dec.{leb}
use lib.ListN.{length}
use borrow.Author.Tests.{leb-true}
use Rattle.std.specs.Prelude.{Option, Some, None}
use Rattle.plan.specs.declared.data.Plan.{Plan}
use Rattle.wire.specs.declared.header.Header.{Header}
use Rattle.wire.specs.Header.{header_of}
use Rattle.discrimination.specs.declared.Came.{Came}
use Rattle.discrimination.specs.declared.Came.TheVariants.{Malformed, Foreign, Delivered, Managed, Passed}
use Rattle.discrimination.specs.Discrimination.{from_link_by, from_link, from_host_by, from_host}
use Rattle.promise_runs.proofs.Outcomes.{by_test}

-- one that is passed on has a size that a message has and a slot has room for
unfoldable pub Small : Came → ℕ → Type 0
Small Malformed size = Unit {0}
Small Foreign size = Unit {0}
Small Delivered size = Unit {0}
Small (Managed order) size = Unit {0}
Small (Passed label) size = (5 ≤ size) × (size ≤ 273)

all_small : (size : ℕ) → (5 ≤ size) × (size ≤ 273) → (came : Came) → Small came size
unfolding Small
all_small size h Malformed = tt
all_small size h Foreign = tt
all_small size h Delivered = tt
all_small size h (Managed order) = tt
all_small size h (Passed label) = h

module _ (plan : Plan) (message : List ℕ) where
  within : (leb 5 (length message) && leb (length message) 273) ≡ true → (5 ≤ length message) × (length message ≤ 273)
  within e =
      let two = (and-eq-true_iff (leb 5 (length message)) (leb (length message) 273)).0 e in
      (leb-true 5 (length message) two.0, leb-true (length message) 273 two.1)

  -- from a link
  pub link_small : Small (from_link plan message) (length message)
  unfolding Small from_link_by
  link_small =
      by_test (λ (read : Option Header). Small (from_link_by plan message read) (length message))
      (leb 5 (length message) && leb (length message) 273)
      (Some (header_of message))
      None
      (λ e. all_small (length message) (within e) (from_link_by plan message (Some (header_of message))))
      (λ e. tt)

  -- from the host
  pub host_small : Small (from_host plan message) (length message)
  unfolding Small from_host_by
  host_small =
      by_test (λ (read : Option Header). Small (from_host_by plan read) (length message))
      (leb 5 (length message) && leb (length message) 273)
      (Some (header_of message))
      None
      (λ e. all_small (length message) (within e) (from_host_by plan (Some (header_of message))))
      (λ e. tt)
