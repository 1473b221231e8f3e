-- `plan_store::store_routes` meets its contract. Assumes nothing.
use mathlib.Core.Path.{◌≡◌}
use mathlib.Core.List.{map}
use Prim.Native.Nat.{◌+◌}
use lib.ListN.{drop}
use lib.Seq.{sets}
use Rattle.plan_store.specs.Layout.{route_word}
use Rattle.plan_store.proofs.store_routes.Given as goal

abbrev pub invariant-loop-rank : goal.invariant-loop-rank
invariant-loop-rank l =
    sets l.words (l.at + l.rank) (drop l.rank (map route_word l.route-items)) ≡ sets l.initial.words l.at (map route_word l.route-items)
