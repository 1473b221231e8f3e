-- `plan_store::store_members` meets its contract. Assumes nothing.
use mathlib.Core.Path.{◌≡◌}
use Prim.Native.Nat.{◌+◌}
use lib.ListN.{drop}
use lib.Seq.{sets}
use Rattle.plan_store.proofs.store_members.Given as goal

abbrev pub invariant-loop-place : goal.invariant-loop-place
invariant-loop-place l = sets l.words (l.at + l.place) (drop l.place l.link-items) ≡ sets l.initial.words l.at l.link-items
