-- `route_list::list::put_header` meets its contract: the header is the literal's octets, and what has room is laid as a whole.
-- Assumes nothing.
use mathlib.Core.Path.{◌∙◌}
use native.Mathlib.Nat.{zero-add}
use native.Mathlib.Omega.{arith}
use lib.ListN.{length}
use Rattle.text_decimals.specs.Decimal.{digits_on}
use Rattle.route_list.specs.RouteList.{in_row, header_line}
use Rattle.route_list.proofs.Laid.{put_done}
use Rattle.route_list.proofs.list.put_header.Goals as goal

pub returns : goal.returns
unfolding in_row digits_on
returns c =
    let there = put_done c.args.out.now 0 header_line (omega arith) _ _ (c.put.ensures.value, c.put.ensures.out_after) in
    record { value = there.0 ∙ zero-add (length header_line); out_after = there.1 }
