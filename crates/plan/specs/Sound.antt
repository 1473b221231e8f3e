-- What holds of every plan that is made from the empty one, statement by statement.
use Rattle.std.specs.Prelude.{ℕ, ◌<◌, ◌≡◌, true, length, get_or}
use Rattle.plan.specs.declared.data.Plan.{Plan}
use Rattle.plan.specs.Data.{set_at, link_at, links_of, routes_of}
use Rattle.plan.specs.Find.{code_at, given}

-- the link at a place of a set
abbrev pub link_in : Plan → ℕ → ℕ → ℕ
link_in plan those place = get_or (links_of plan those) place 0

-- a plan whose tables are whole and in order, and whose sets and links agree
pub record Sound (plan : Plan) : Type 0 where
  -- eight sets (R9)
  pub eight_sets : length plan.sets ≡ 8
  -- 32 links (R8)
  pub all_links : length plan.links ≡ 32
  -- "64 destinations" (R11)
  pub all_destinations : length plan.destinations ≡ 64
  -- places for eight links in each set (R10)
  pub eight_places : (those : ℕ) → those < 8 → length (set_at plan those).links ≡ 8
  -- "four routes for each of 64 destinations" (R12, R203)
  pub four_ranks : (place : ℕ) → place < 64 → length (routes_of plan place) ≡ 4
  -- the given destinations are in ascending code
  pub ascending : (i j : ℕ) → i < j → j < given plan → code_at plan.destinations i < code_at plan.destinations j
  -- "Links of a set stand in SLC order." (R76)
  pub slc_order : (those i j : ℕ) → i < j → j < length (links_of plan those) → (link_at plan (link_in plan those i)).slc < (link_at plan (link_in plan those j)).slc
  -- a link of a set is one of the 32
  pub in_table : (those i : ℕ) → i < length (links_of plan those) → link_in plan those i < 32
  -- a link of a set is given
  pub is_given : (those i : ℕ) → i < length (links_of plan those) → (link_at plan (link_in plan those i)).given ≡ true
  -- a link of a set has that set for its own
  pub own_set : (those i : ℕ) → i < length (links_of plan those) → (link_at plan (link_in plan those i)).set ≡ those

-- a given destination at the place has the code
pub record Stands (plan : Plan) (code place : ℕ) : Type 0 where
  pub within : place < given plan
  pub has_code : code_at plan.destinations place ≡ code
