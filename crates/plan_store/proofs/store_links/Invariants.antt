-- `plan_store::store_links` meets its contract. Assumes nothing.
use mathlib.Core.Path.{◌≡◌}
use Prim.Native.Nat.{◌+◌, ◌*◌}
use lib.ListN.{drop}
use Rattle.plan_store.specs.Layout.{link_words, placed}
use Rattle.plan_store.proofs.store_links.Given as goal

abbrev pub invariant-loop-number : goal.invariant-loop-number
invariant-loop-number l =
    placed link_words 4 (144 + 4 * l.number) (drop l.number l.link-items) l.words ≡ placed link_words 4 144 l.link-items l.initial.words
