-- `route_list::list::put_lines` meets its contract. The loop's invariant: the lines that are left, laid behind those written, make
-- all lines, and they have room.
-- Assumes nothing.
use Prim.Native.Nat.{◌+◌, ◌-◌, ◌*◌, ◌≤◌}
use lib.ListN.{length}
use Rattle.plan_words.specs.Words.{plan_at}
use Rattle.route_list.specs.RouteList.{lines_from, all_lines}
use Rattle.route_list.proofs.Laid.{Left}
use Rattle.route_list.proofs.list.put_lines.Given as goal

abbrev pub invariant-loop-destination : goal.invariant-loop-destination
invariant-loop-destination l = (l.end + 54 * (64 - l.destination) ≤ length l.out) ×
    Left l.initial.out l.at (all_lines l.links l.marks (plan_at l.plan)) l.out l.end
    (lines_from l.links l.marks (plan_at l.plan) l.destination (l.destination-end - l.destination))
