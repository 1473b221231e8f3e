-- `plan_store::store_codes` meets its contract. Assumes nothing.
use mathlib.Core.Path.{◌≡◌}
use Prim.Native.Nat.{◌+◌, ◌*◌}
use lib.ListN.{drop}
use Rattle.plan_store.specs.Layout.{code_words, placed}
use Rattle.plan_store.proofs.store_codes.Given as goal

abbrev pub invariant-loop-place : goal.invariant-loop-place
invariant-loop-place l =
    placed code_words 1 (272 + 1 * l.place) (drop l.place l.destination-items) l.words ≡ placed code_words 1 272 l.destination-items l.initial.words
