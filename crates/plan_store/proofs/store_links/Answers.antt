-- `plan_store::store_links` meets its contract. Assumes nothing.
use borrow.Author.Rules.{rules}
use mathlib.Core.Path.{◌≡◌}
use lib.ListN.{length}
use Rattle.plan.specs.Data.{absent_link}
use Rattle.plan.proofs.Tables.{unmapped}
use Rattle.plan_store.specs.Layout.{link_words}
use Rattle.plan_store.proofs.Placed.{placed_turn, placed_end}
use Rattle.plan_store.proofs.store_links.Goals as goal

pub loop-number-preserved : goal.loop-number-preserved
loop-number-preserved c =
    let all : length c.args.links ≡ 32 = search (rules, unmapped) in
    placed_turn link_words 4 absent_link 144 _ _ _ _ c.loop-number.number 32 all c.loop-number-test.true c.store_link.ensures c.loop-number.invariant

pub returns : goal.returns
returns c =
    let all : length c.args.links ≡ 32 = search (rules, unmapped) in
    placed_end link_words 4 _ _ _ _ c.loop-number.number 32 all c.loop-number-test.false c.loop-number.invariant
