-- `replay_routes::put_routes` meets its contract. The loop's invariant: what is written and then the lines left make what all lines make.
-- The measure is what is left of the list.
-- Assumes nothing.
use mathlib.Core.Path.{◌≡◌}
use Prim.Native.Nat.{◌-◌, ◌≤◌}
use lib.ListN.{length}
use Rattle.text.specs.Part.{lf, split}
use Rattle.text_pages.specs.Page.{page, puts}
use Rattle.replay_routes.specs.Routed.{routed}
use Rattle.replay_routes.proofs.Routes.{routed_from}
use Rattle.replay_routes.proofs.put_routes.Given as goal

abbrev pub invariant-loop-part : goal.invariant-loop-part
invariant-loop-part l = (l.from ≤ length l.list) × ((puts (page l.out l.at) (routed_from l.number l.list l.from) ≡ puts (page l.initial.out l.fn.at) (routed l.number (split lf l.list))))

abbrev pub decreases-loop-part : goal.decreases-loop-part
decreases-loop-part l = length l.list - l.from
