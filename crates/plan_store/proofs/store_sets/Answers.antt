-- `plan_store::store_sets` meets its contract. Assumes nothing.
use borrow.Author.Rules.{rules}
use mathlib.Core.Path.{◌≡◌}
use lib.ListN.{length}
use Rattle.plan.specs.Data.{absent_set}
use Rattle.plan.proofs.Tables.{unmapped}
use Rattle.plan_store.specs.Layout.{set_words}
use Rattle.plan_store.proofs.Placed.{placed_turn, placed_end}
use Rattle.plan_store.proofs.store_sets.Goals as goal

pub loop-number-preserved : goal.loop-number-preserved
loop-number-preserved c =
    let all : length c.args.sets ≡ 8 = search (rules, unmapped) in
    placed_turn set_words 16 absent_set 16 _ _ _ _ c.loop-number.number 8 all c.loop-number-test.true c.store_set.ensures c.loop-number.invariant

pub returns : goal.returns
returns c =
    let all : length c.args.sets ≡ 8 = search (rules, unmapped) in
    placed_end set_words 16 _ _ _ _ c.loop-number.number 8 all c.loop-number-test.false c.loop-number.invariant
