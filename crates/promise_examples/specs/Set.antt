-- A node with one set of links and one route by it, as the examples of the rule have it.
use Rattle.std.specs.Prelude.{ℕ, true, List, [], ◌∷◌, length}
use Rattle.plan.specs.declared.data.Plan.{Plan}

-- an area of links in some states, 0 being out and 2 open
abbrev pub in_states : List ℕ → List ℕ
in_states [] = []
in_states (state ∷ rest) = state ∷ 0 ∷ 0 ∷ 0 ∷ 0 ∷ 0 ∷ 0 ∷ 0 ∷ in_states rest

-- node 2 with one set of some links, to point 1, and one route by it (R184)
abbrev pub one_set : List ℕ → Plan
one_set links =
    record {
      given = true;
      code = 2;
      ni = 2;
      count = 1;
      sets = record { given = true; adjacent = 1; count = length links; links = links } ∷ [];
      links = [];
      destinations = record { code = 1; routes = record { given = true; set = 0 } ∷ [] } ∷ [];
    }
