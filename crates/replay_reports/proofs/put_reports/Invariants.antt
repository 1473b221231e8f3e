-- `replay_reports::put_reports` meets its contract. The loop's invariant: what is written and then the records left make what all make.
-- Assumes nothing.
use mathlib.Core.Path.{◌≡◌}
use Prim.Native.Nat.{◌-◌, ◌/◌, ◌≤◌, min}
use lib.ListN.{length}
use Rattle.text_pages.specs.Page.{page, puts}
use Rattle.replay_reports.specs.Reported.{reported_from}
use Rattle.replay_reports.proofs.put_reports.Given as goal

abbrev pub invariant-loop-k : goal.invariant-loop-k
invariant-loop-k l = (l.k ≤ l.count) × (l.count ≡ min l.fn.count (length l.reports / 2)) × (puts (page l.out l.at) (reported_from l.number l.reports l.k (l.count - l.k)) ≡ puts (page l.initial.out l.fn.at) (reported_from l.number l.reports 0 l.count))
