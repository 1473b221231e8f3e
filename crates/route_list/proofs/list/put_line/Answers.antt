-- `route_list::list::put_line` meets its contract: a code of 16 bits has at most five digits, and the row is laid behind it.
-- Assumes nothing.
use mathlib.Core.Path.{◌≡◌, ap}
use mathlib.Core.List.{List}
use Prim.Native.Nat.{ℕ, ◌+◌, ◌≤◌, ◌<◌}
use native.Mathlib.Omega.{arith}
use lib.ListN.{length}
use Rattle.plan_words.specs.Words.{plan_at}
use Rattle.text.specs.Put.{past, written}
use Rattle.text_decimals.specs.Decimal.{decimal_of}
use Rattle.route_list.specs.RouteList.{laid, row_of}
use Rattle.route_list.proofs.Laid.{put_done, laid_length, laid_on}
use Rattle.route_list.proofs.Lines.{code_few, line_few}
use Rattle.route_list.proofs.list.put_line.Goals as goal

-- the code is spelled in at most five digits, and is laid there
module _ (out : List ℕ) (at code : ℕ) (small : code < 65536) (room : at + 54 ≤ length out) where
  few : length (decimal_of code) ≤ 5
  few = code_few code small

  spelled : (end : ℕ) (out' : List ℕ) → end ≡ past out at (decimal_of code) → out' ≡ written out at (decimal_of code)
      → (end ≡ at + length (decimal_of code)) × (out' ≡ laid out at (decimal_of code))
  spelled end out' e f = put_done out at (decimal_of code) (omega (arith, few)) end out' (e, f)

  behind : (end : ℕ) (out' : List ℕ) → end ≡ past out at (decimal_of code) → out' ≡ written out at (decimal_of code)
      → end + 49 ≤ length out'
  behind end out' e f =
      let there = spelled end out' e f in
      omega (arith, few, there.0, ap length there.1, laid_length out at (decimal_of code) (omega (arith, few)))

pub put_words-requires : goal.put_words-requires
put_words-requires c =
    let a = c.args in
    behind a.out.now a.at c.destination_code-code.result c.destination_code-code.type_inv c.requires.at_in_bounds _ _
    c.put_decimal-end.ensures.value c.put_decimal-end.ensures.out_after

pub returns : goal.returns
returns c =
    let a = c.args in
    let code = c.destination_code-code.result in
    let small : code < 65536 = c.destination_code-code.type_inv in
    let plan = plan_at a.plan.now in
    let row = row_of a.links.now a.marks.now plan a.destination in
    let short : length (decimal_of code) ≤ 5 = few a.out.now a.at code small c.requires.at_in_bounds in
    let there = spelled a.out.now a.at code small c.requires.at_in_bounds _ _ c.put_decimal-end.ensures.value c.put_decimal-end.ensures.out_after in
    let line =
    rw c.destination_code-code.ensures
    at (laid_on a.out.now a.at (decimal_of code) (omega (arith, short)) row _ _ _ _ there (c.put_words.ensures.value, c.put_words.ensures.out_after))
    in
    record {
      upper_bound = omega (arith, line.0, line_few a.links.now a.marks.now plan a.destination (rw c.destination_code-code.ensures at small));
      value = line.0;
      out_after = line.1;
    }
