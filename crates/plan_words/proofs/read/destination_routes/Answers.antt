-- `plan_words::read::destination_routes` meets its contract. Assumes nothing.
use borrow.Author.Tests.{lt-ltb}
use Rattle.plan_words.proofs.Said.{routes_there}
use Rattle.plan_words.proofs.read.destination_routes.Goals as goal

pub returns : goal.returns
returns c =
    let third = c in
    let second = third in
    let first = second in
    let test = first in
    let a = test.args in
    simp (
      first.route-first.ensures,
      second.route-second.ensures,
      third.route-third.ensures,
      c.route-fourth.ensures,
      lt-ltb _ _ test.if-place-ge64.false,
      routes_there a.plan.now a.place test.if-place-ge64.false,
    )
