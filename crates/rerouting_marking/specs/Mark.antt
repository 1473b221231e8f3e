-- A route's mark: "TFP about X from adjacent Y marks the route to X by Y's set prohibited and starts T10" (R140, R141). T10 runs while the mark
-- stands.
use Rattle.std.specs.Prelude.{ℕ, Bool, true, cond, not, ◌&&◌, List, eqb, ltb}
use Rattle.plan.specs.declared.data.Plan.{Plan}
use Rattle.plan.specs.Find.{place_of, is_found}
use Rattle.area_flags.specs.Flags.{flag_at, with_flag}
use Rattle.lookup.specs.Lookup.{set_to, rank_by}
use Rattle.route_access.specs.Change.{is_accessible}
use Rattle.route_current.specs.Current.{current_set}
use Rattle.constants.specs.Constants.{t6}

-- "the route to X by Y's set" (R140): its rank
unfoldable pub rank_for : Plan → ℕ → ℕ → ℕ
rank_for plan point x = cond (ltb (set_to plan point) 8 && is_found plan x) (rank_by plan (place_of plan x) (set_to plan point)) 4

-- a mark doesn't stand yet as the TFP, or the TFA, asks
abbrev pub differs : Bool → Bool → Bool
differs stands prohibits = cond prohibits (not stands) stands

-- "X equal to Y or to us, no route to X by Y's set, or a mark that already stands as the TFP or TFA asks: 11." (R143, R144, R145)
unfoldable pub counts : Plan → List ℕ → ℕ → ℕ → Bool → Bool
counts plan marks point x prohibits =
    not (eqb x point)
    && (not (eqb x plan.code)
    && (ltb (rank_for plan point x) 4 && differs (flag_at marks (place_of plan x) (rank_for plan point x)) prohibits))

-- the flags with the mark set, or cleared (R148)
unfoldable pub marked : Plan → List ℕ → ℕ → ℕ → Bool → List ℕ
marked plan marks point x prohibits = with_flag marks (place_of plan x) (rank_for plan point x) prohibits

-- "if X now uses another set than before, and was accessible, T6 starts" (R149): of a TFA
unfoldable pub diverts : Plan → List ℕ → List ℕ → List ℕ → ℕ → Bool → Bool
diverts plan links before after x prohibits =
    not prohibits
    && (is_accessible plan links before (place_of plan x)
    && not (eqb (current_set plan links before (place_of plan x)) (current_set plan links after (place_of plan x))))

-- the flags after it (R150)
unfoldable pub marks_after : Plan → List ℕ → List ℕ → ℕ → ℕ → Bool → List ℕ
marks_after plan links marks point x prohibits =
    let after = marked plan marks point x prohibits in
    cond (diverts plan links marks after x prohibits) (with_flag after (place_of plan x) t6 true) after
