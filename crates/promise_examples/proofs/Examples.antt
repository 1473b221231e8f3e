-- The paper's twelve examples hold: the prover computes both sides of every row.
-- Assumes nothing.
use mathlib.Core.Path.{refl}
use Rattle.counting.specs.Counting.{in_range}
use Rattle.plan.specs.Find.{halved}
use Rattle.route_choice.specs.Which.{first_serving, some_serves, link_from}
use Rattle.queue_rings.specs.Run.{run}
use Rattle.queue_rings.specs.Ring.{queue, entry, count_of, at_of, take_of, spans_taken, room_in, spans_put, rings_put}
use Rattle.queue_rings.specs.Move.{spans_moved, rings_moved}
use Rattle.reports.specs.Report.{told}
use Rattle.route_ways.specs.Way.{link_for, way_of}
use Rattle.route_access.specs.Change.{is_accessible, code_of, told_one, told_from}
use Rattle.queue_heads.specs.Head.{head_of, moved, freed, repeat}
use Rattle.queue_retiring.specs.Leave.{retired, dropped_one, dropped}
use Rattle.queue_moving.specs.Move.{goes_to, moved_one, moved_all}
use Rattle.changeover_cuts.specs.Cuts.{cut_at}
use Rattle.changeover_ending.specs.End.{links_out, cleared, ended}
use Rattle.promise_examples.specs.Table.{AllHold, table}

-- every example of the table holds
pub all_twelve : AllHold table
unfolding in_range halved first_serving some_serves link_from run queue entry count_of at_of take_of spans_taken room_in spans_put rings_put
    spans_moved rings_moved told link_for way_of is_accessible code_of told_one told_from head_of moved freed repeat retired dropped_one
    dropped goes_to moved_one moved_all cut_at links_out cleared ended
all_twelve = (refl, (refl, (refl, (refl, (refl, (refl, (refl, (refl, ((refl, refl), (refl, (refl, (refl, tt))))))))))))
