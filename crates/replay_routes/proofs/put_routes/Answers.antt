-- What is left of the list is the next line and those behind it; behind the last LF none is left.
-- Assumes nothing.
use mathlib.Core.Path.{ap}
use mathlib.Core.List.{List, [], ◌∷◌}
use Prim.Native.Nat.{ℕ}
use borrow.Author.Tests.{not-true, not-false}
use native.Mathlib.Omega.{arith}
use lib.Seq.{take-length}
use Rattle.text.specs.Part.{lf, split}
use Rattle.text_decimals.specs.Decimal.{decimal_of}
use Rattle.text_pages.specs.Page.{page, puts, ended}
use Rattle.text_pages.proofs.Pages.{left_on, left_none}
use Rattle.replay_routes.specs.Routed.{routed, route_word}
use Rattle.replay_routes.proofs.Routes.{routed_from, routes_on, routes_end, onward}
use Rattle.replay_routes.proofs.put_routes.Goals as goal

pub loop-part-init : goal.loop-part-init
loop-part-init c =
    let a = c.args in
    (omega arith, ap (λ (s : List ℕ). puts (page a.out.now a.at) (routed a.number (split lf s))) (take-length a.list.now))

pub returns-then-not-part : goal.returns-then-not-part
returns-then-not-part c =
    let l = c.loop-part in
    let a = c.args in
    let part = c.line-part in
    left_none (page l.out l.at) (routed_from a.number a.list.now l.from)
    (routes_end a.number a.list.now l.from part.result part.ensures (not-true part.result.closed c.if-not-part.true))
    l.invariant.1

pub loop-part-smaller : goal.loop-part-smaller
loop-part-smaller c =
    let l = c.loop-part in
    let list = c.args.list.now in
    let part = c.line-part in
    let far = onward list l.from l.invariant.0 part.result part.ensures (not-false part.result.closed c.if-not-part.false) in
    omega (arith, far.0, far.1)

pub loop-part-preserved : goal.loop-part-preserved
loop-part-preserved c =
    let l = c.loop-part in
    let a = c.args in
    let part = c.line-part in
    let closed = not-false part.result.closed c.if-not-part.false in
    let list = a.list.now in
    let line = c.between in (
      (onward list l.from l.invariant.0 part.result part.ensures closed).1,
      left_on l.out l.at (routed_from a.number list l.from) (decimal_of a.number ∷ route_word ∷ line.result.now ∷ ended ∷ [])
          (routed_from a.number list part.result.next)
          (routes_on a.number list l.from part.result part.ensures line.result.now line.ensures closed)
          l.invariant.1
          c.put_route-at.ensures,
    )
