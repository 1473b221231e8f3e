-- `plan_store::store_sets` meets its contract. Assumes nothing.
use mathlib.Core.Path.{◌≡◌}
use Prim.Native.Nat.{◌+◌, ◌*◌}
use lib.ListN.{drop}
use Rattle.plan_store.specs.Layout.{set_words, placed}
use Rattle.plan_store.proofs.store_sets.Given as goal

abbrev pub invariant-loop-number : goal.invariant-loop-number
invariant-loop-number l =
    placed set_words 16 (16 + 16 * l.number) (drop l.number l.set-items) l.words ≡ placed set_words 16 16 l.set-items l.initial.words
