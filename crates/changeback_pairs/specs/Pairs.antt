-- "If some pair's current link becomes this link from another, M" (R92): which M there are. All pairs that come from its own set come from
-- one link, so that the first that is found is each.
use Rattle.std.specs.Prelude.{ℕ, zero, suc, ◌+◌, ◌*◌, ◌/◌, ◌%◌, Bool, true, false, cond, not, ◌&&◌, List, eqb, ltb}
use Rattle.plan.specs.declared.data.Plan.{Plan}
use Rattle.plan.specs.Find.{given}
use Rattle.route_choice.specs.Which.{none}
use Rattle.route_ways.specs.Way.{current_link}
use Rattle.lookup.specs.Lookup.{set_of}
use Rattle.changeback_pairs.specs.declared.Sources.{Sources}

abbrev pub sources : ℕ → Bool → Sources
sources own other = record { own = own; other = other }

-- the link that a pair comes from, and none where it doesn't come to this link from another
unfoldable pub came_from : Plan → List ℕ → List ℕ → List ℕ → ℕ → ℕ → ℕ → ℕ
came_from plan before after marks link destination sls =
    let from = current_link plan before marks destination sls in
    cond (eqb (current_link plan after marks destination sls) link && not (eqb from link)) from none

-- a source more: of its own set, where none is known yet, or of another (R96)
unfoldable pub with_source : Plan → ℕ → ℕ → Sources → Sources
with_source plan link from known =
    cond (ltb from none)
    (cond (eqb (set_of plan from) (set_of plan link))
    (sources (cond (ltb known.own none) known.own from) known.other)
    (sources known.own true))
    known

-- the sources of so many pairs from one on, 16 for each destination
unfoldable pub sources_from : Plan → List ℕ → List ℕ → List ℕ → ℕ → ℕ → ℕ → Sources → Sources
sources_from plan before after marks link pair zero known = known
sources_from plan before after marks link pair (suc more) known =
    sources_from plan before after marks link (pair + 1) more
    (with_source plan link (came_from plan before after marks link (pair / 16) (pair % 16)) known)

-- the sources of all pairs, over the links before and after (R93)
abbrev pub sources_of : Plan → List ℕ → List ℕ → List ℕ → ℕ → Sources
sources_of plan before after marks link = sources_from plan before after marks link 0 (16 * given plan) (sources none false)
