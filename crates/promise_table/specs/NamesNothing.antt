-- Row 11, by the kind of message: "management message that names nothing, or fits no state" (R56).
use Rattle.std.specs.Prelude.{ℕ, ◌+◌, ◌≡◌, Bool, true, not, ◌||◌, List, eqb, ltb}
use Rattle.constants.specs.Constants.{no_link}
use Rattle.plan.specs.declared.data.Plan.{Plan}
use Rattle.plan.specs.Find.{place_of, is_found}
use Rattle.area_flags.specs.Flags.{flag_at}
use Rattle.area_links.specs.LinkRecords.{record_at}
use Rattle.lookup.specs.Lookup.{no_set, no_rank, set_to, link_named, is_link, slc_of, adjacent_of}
use Rattle.route_access.specs.Change.{is_accessible}
use Rattle.route_current.specs.Current.{current_set}
use Rattle.rerouting_marking.specs.Mark.{rank_for}

-- "A link is named by the message's OPC, as adjacent point, and its SLC" (R117): these name none
abbrev pub names_no_link : Plan → ℕ → ℕ → Bool
names_no_link plan point slc = not (ltb (link_named plan point slc) no_link)

-- in other words: no link that is configured is one to that adjacent point with that SLC
abbrev pub NoneSuch : Plan → ℕ → ℕ → Type 0
NoneSuch plan point slc = (link : ℕ) → is_link plan link ≡ true → adjacent_of plan link ≡ point → slc_of plan link ≡ slc → ⊥

-- T2 runs for the link that they name
abbrev pub t2_runs : Plan → List ℕ → ℕ → ℕ → Bool
t2_runs plan links point slc = eqb (record_at links (link_named plan point slc)).timer 2

-- a CBD with this code is unanswered on the link that they name: a record keeps the code and 1, or 0 for none
abbrev pub unanswered : Plan → List ℕ → ℕ → ℕ → ℕ → Bool
unanswered plan links point slc code = eqb (record_at links (link_named plan point slc)).code (code + 1)

-- "no route to X by Y's set" (R144)
abbrev pub no_route_by : Plan → ℕ → ℕ → Bool
no_route_by plan point x = not (ltb (rank_for plan point x) no_rank)

-- the mark of that route stands
abbrev pub mark_stands : Plan → List ℕ → ℕ → ℕ → Bool
mark_stands plan marks point x = flag_at marks (place_of plan x) (rank_for plan point x)

-- COO and ECO: in any state of the link that is named (R122, R129, R130)
abbrev pub order_names_nothing : Plan → ℕ → ℕ → Bool
order_names_nothing plan point slc = names_no_link plan point slc

-- COA and ECA: "COA and ECA count only while T2 runs .. else 11" (R120)
abbrev pub acknowledgement_names_nothing : Plan → List ℕ → ℕ → ℕ → Bool
acknowledgement_names_nothing plan links point slc = names_no_link plan point slc || not (t2_runs plan links point slc)

-- CBD: "CBD is answered with CBA, same code, in any state." (R156, R157)
abbrev pub declaration_names_nothing : Plan → ℕ → ℕ → Bool
declaration_names_nothing plan point slc = names_no_link plan point slc

-- CBA: "CBA only while its CBD is unanswered, else 11" (R121)
abbrev pub answer_names_nothing : Plan → List ℕ → ℕ → ℕ → ℕ → Bool
answer_names_nothing plan links point slc code = names_no_link plan point slc || not (unanswered plan links point slc code)

-- TFP: "X equal to Y or to us, no route to X by Y's set, or a mark that already stands as the TFP or TFA asks: 11." (R143, R144, R145)
abbrev pub prohibition_names_nothing : Plan → List ℕ → ℕ → ℕ → Bool
prohibition_names_nothing plan marks y x =
    eqb x y || (eqb x plan.code || (no_route_by plan y x || mark_stands plan marks y x))

-- TFA: the same, and a TFA asks that no mark stands (R143, R144, R145)
abbrev pub allowance_names_nothing : Plan → List ℕ → ℕ → ℕ → Bool
allowance_names_nothing plan marks y x =
    eqb x y || (eqb x plan.code || (no_route_by plan y x || not (mark_stands plan marks y x)))

-- RST: "RST about X from an adjacent point is answered with TFA if X is configured and accessible and its current set isn't the asker's,
-- else 11." (R154, R155)
abbrev pub test_names_nothing : Plan → List ℕ → List ℕ → ℕ → ℕ → Bool
test_names_nothing plan links marks asker x =
    not (ltb (set_to plan asker) no_set)
    || (not (is_found plan x)
    || (not (is_accessible plan links marks (place_of plan x)) || eqb (current_set plan links marks (place_of plan x)) (set_to plan asker)))
