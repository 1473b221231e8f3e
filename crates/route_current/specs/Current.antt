-- The set that a destination uses.
use Rattle.std.specs.Prelude.{ℕ, List}
use Rattle.plan.specs.declared.data.Plan.{Plan}
use Rattle.lookup.specs.Lookup.{set_of}
use Rattle.route_ways.specs.Way.{current_link}

-- "its current set" (R155): that of its current link (R149)
unfoldable pub current_set : Plan → List ℕ → List ℕ → ℕ → ℕ
current_set plan links marks destination = set_of plan (current_link plan links marks destination 0)
