-- The ring of a message by the flag of its destination. Assumes nothing.
use mathlib.Core.Path.{◌≡◌, ap, ◌∙◌}
use mathlib.Core.Bool.{cond}
use mathlib.Core.List.{List}
use Prim.Native.Nat.{ℕ}
use Rattle.plan.specs.declared.data.Plan.{Plan}
use Rattle.area_flags.specs.Flags.{flag_at}
use Rattle.wire.specs.declared.header.Label.{Label}
use Rattle.queue_moving.specs.Move.{apart}
use Rattle.constants.specs.Constants.{t6}
use Rattle.route_serving.specs.declared.Need.{Need}
use Rattle.route_ways.specs.declared.Direction.{Direction}
use Rattle.route_ways.specs.Way.{direction_of}
use Rattle.passing_passage.specs.Passage.{ring_by, ring_at}

-- the ring by T6 of the destination that the direction says
pub ring_there : (plan : Plan) (links marks : List ℕ) (need : Need) (label : Label) (to : Direction)
    → to ≡ direction_of plan links marks need label.dpc label.sls
    → (ring : ℕ) → ring ≡ ring_at marks to → ring ≡ ring_by plan marks label to.link
unfolding ring_by
ring_there plan links marks need label to is ring says =
    says ∙ ap (λ (d : Direction). cond (flag_at marks d.place t6) apart to.link) is
