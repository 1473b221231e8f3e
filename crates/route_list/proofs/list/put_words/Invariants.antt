-- `route_list::list::put_words` meets its contract. The loop's invariant: the words that are left, laid behind those written, make
-- the row, and they have room.
-- Assumes nothing.
use Prim.Native.Nat.{◌+◌, ◌-◌, ◌*◌, ◌≤◌}
use lib.ListN.{length}
use Rattle.plan_words.specs.Words.{plan_at}
use Rattle.route_list.specs.RouteList.{in_row, row_of, word_of}
use Rattle.route_list.proofs.Laid.{Left}
use Rattle.route_list.proofs.list.put_words.Given as goal

abbrev pub invariant-loop-sls : goal.invariant-loop-sls
invariant-loop-sls l = (l.end + 3 * (16 - l.sls) + 1 ≤ length l.out) ×
    Left l.initial.out l.at (row_of l.links l.marks (plan_at l.plan) l.destination) l.out l.end
    (in_row (word_of l.links l.marks (plan_at l.plan) l.destination) l.sls (16 - l.sls))
