-- `plan_store::store_ways` meets its contract. Assumes nothing.
use mathlib.Core.Path.{◌≡◌}
use Prim.Native.Nat.{◌+◌, ◌*◌}
use lib.ListN.{drop}
use Rattle.plan_store.specs.Layout.{route_words, placed}
use Rattle.plan_store.proofs.store_ways.Given as goal

abbrev pub invariant-loop-place : goal.invariant-loop-place
invariant-loop-place l =
    placed route_words 4 (336 + 4 * l.place) (drop l.place l.destination-items) l.words ≡ placed route_words 4 336 l.destination-items l.initial.words
