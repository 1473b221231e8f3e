-- `changeback_pairs::sources_of` meets its contract. The loop's invariant: with the pairs that are left the sources are those of
-- all.
-- Assumes nothing.
use mathlib.Core.Path.{◌≡◌}
use mathlib.Core.Bool.{false}
use Prim.Native.Nat.{◌-◌}
use Rattle.plan_words.specs.Words.{plan_at}
use Rattle.route_choice.specs.Which.{none}
use Rattle.changeback_pairs.specs.Pairs.{sources, sources_from}
use Rattle.changeback_pairs.proofs.sources_of.Given as goal

abbrev pub invariant-loop-pair : goal.invariant-loop-pair
invariant-loop-pair l =
    sources_from (plan_at l.plan) l.before l.after l.marks l.link l.pair (l.pair-end - l.pair) l.known
    ≡ sources_from (plan_at l.plan) l.before l.after l.marks l.link 0 l.pair-end (sources none false)
