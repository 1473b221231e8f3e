-- `route_list::list::route_list` meets its contract: refused it writes nothing, and else the lines are laid behind the header.
-- Assumes nothing.
use mathlib.Core.Path.{sym, ap, ◌∙◌}
use native.Mathlib.Nat.{zero-add}
use native.Mathlib.Omega.{arith}
use lib.ListN.{length}
use borrow.Author.Tests.{le-ltb}
use Rattle.plan_words.specs.Words.{plan_at}
use Rattle.route_list.specs.RouteList.{header_line, all_lines}
use Rattle.route_list.proofs.Laid.{laid_length, laid_on}
use Rattle.route_list.proofs.Lines.{header_length}
use Rattle.route_list.proofs.list.route_list.Goals as goal

pub put_lines-octets-requires : goal.put_lines-octets-requires
put_lines-octets-requires c =
    let a = c.args in
    let header = c.put_header-start.ensures in
    let long = laid_length a.out.now 0 header_line (omega (arith, header_length)) in
    omega (arith, header_length, header.value, ap length header.out_after)

pub returns : goal.returns
returns c =
    let a = c.args in
    let all = all_lines a.links.now a.marks.now (plan_at a.plan.now) in
    let header = c.put_header-start.ensures in
    let lines = c.put_lines-octets.ensures in
    let done =
    laid_on a.out.now 0 header_line (omega (arith, header_length)) all _ _ _ _
    (header.value ∙ sym (zero-add (length header_line)), header.out_after) (lines.value, lines.out_after)
    in
    let long = le-ltb (length a.out.now) 4096 (omega arith) in
    let node = sym c.given.ensures ∙ c.if-not-given.false in
    record { value = simp (long, node, done.0, zero-add); out_after = simp (long, node) done.1 }
