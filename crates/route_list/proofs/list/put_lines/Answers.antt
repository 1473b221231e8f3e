-- `route_list::list::put_lines` meets its contract. The loop's invariant: the lines that are left, laid behind those written, make
-- all lines, and they have room.
-- Assumes nothing.
use mathlib.Core.Path.{◌≡◌}
use Prim.Native.Nat.{min}
use native.Mathlib.Omega.{arith}
use Rattle.plan_words.specs.Words.{plan_at}
use Rattle.route_list.specs.RouteList.{line_of}
use Rattle.route_list.proofs.Laid.{left_on, left_none}
use Rattle.route_list.proofs.Lines.{lines_next, lines_end}
use Rattle.route_list.proofs.list.put_lines.Goals as goal

pub loop-destination-preserved : goal.loop-destination-preserved
loop-destination-preserved c =
    let l = c.loop-destination in
    let count = c.min-destination-end.result in
    let a = c.args in
    let listable : count ≡ min (plan_at c.args.plan.now).count 64 = omega (arith, c.count.ensures, c.min-destination-end.ensures) in
    let done = c.put_line-end.ensures in
    let line = line_of a.links.now a.marks.now (plan_at a.plan.now) l.destination in
    let next = lines_next a.links.now a.marks.now (plan_at a.plan.now) l.destination count (omega arith) in
    let more =
    left_on l.invariant.1 line _ _ _ next (omega (arith, listable)) (done.value, done.out_after)
    in
    (omega (arith, listable), more)

pub returns : goal.returns
returns c =
    let l = c.loop-destination in
    let count = c.min-destination-end.result in
    let a = c.args in
    let whole = left_none l.invariant.1 (lines_end a.links.now a.marks.now (plan_at a.plan.now) l.destination count (omega arith)) in
    record { value = whole.0; out_after = whole.1 }
