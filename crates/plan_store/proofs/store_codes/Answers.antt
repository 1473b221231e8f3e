-- `plan_store::store_codes` meets its contract. Assumes nothing.
use borrow.Author.Rules.{rules}
use mathlib.Core.Path.{◌≡◌}
use native.Mathlib.Nat.{one-mul}
use lib.ListN.{length}
use Rattle.plan.specs.Data.{absent_destination}
use Rattle.plan.proofs.Tables.{unmapped}
use Rattle.plan_store.specs.Layout.{code_words}
use Rattle.plan_store.proofs.Placed.{placed_turn, placed_end}
use Rattle.plan_store.proofs.store_codes.Goals as goal

pub loop-place-preserved : goal.loop-place-preserved
loop-place-preserved c =
    let all : length c.args.destinations ≡ 64 = search (rules, unmapped) in
    placed_turn code_words 1 absent_destination 272 _ _ _ _ c.loop-place.place 64 all c.loop-place-test.true (rw one-mul) c.loop-place.invariant

pub returns : goal.returns
returns c =
    let all : length c.args.destinations ≡ 64 = search (rules, unmapped) in
    placed_end code_words 1 _ _ _ _ c.loop-place.place 64 all c.loop-place-test.false c.loop-place.invariant
