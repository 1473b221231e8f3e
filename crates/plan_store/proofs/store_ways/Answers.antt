-- `plan_store::store_ways` meets its contract. Assumes nothing.
use borrow.Author.Rules.{rules}
use mathlib.Core.Path.{◌≡◌}
use lib.ListN.{length}
use Rattle.plan.specs.Data.{absent_destination}
use Rattle.plan.proofs.Tables.{unmapped}
use Rattle.plan_store.specs.Layout.{route_words}
use Rattle.plan_store.proofs.Placed.{placed_turn, placed_end}
use Rattle.plan_store.proofs.store_ways.Goals as goal

pub loop-place-preserved : goal.loop-place-preserved
loop-place-preserved c =
    let all : length c.args.destinations ≡ 64 = search (rules, unmapped) in
    placed_turn route_words 4 absent_destination 336 _ _ _ _ c.loop-place.place 64 all c.loop-place-test.true c.store_routes.ensures c.loop-place.invariant

pub returns : goal.returns
returns c =
    let all : length c.args.destinations ≡ 64 = search (rules, unmapped) in
    placed_end route_words 4 _ _ _ _ c.loop-place.place 64 all c.loop-place-test.false c.loop-place.invariant
