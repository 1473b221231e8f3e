-- What is decided where a link comes into service: the reply, which links its pairs come from, and its record.
use Rattle.std.specs.Prelude.{ℕ, ◌+◌, Bool, false, cond, not, ◌||◌, List, [], ◌∷◌, eqb, ltb, leb}
use Rattle.constants.specs.Constants.{link_count, state_out}
use Rattle.plan.specs.declared.data.Plan.{Plan}
use Rattle.area_links.specs.declared.LinkRecord.{LinkRecord}
use Rattle.area_links.specs.LinkRecords.{record_at, with_record}
use Rattle.replies.specs.Reply.{Row, row, first}
use Rattle.reports.specs.Report.{short}
use Rattle.route_choice.specs.Which.{none}
use Rattle.lookup.specs.Lookup.{is_link}
use Rattle.changeback_pairs.specs.declared.Sources.{Sources}
use Rattle.changeback_pairs.specs.Pairs.{sources_of}

-- "last acknowledged and last received number are 127" (R90); "T3 starts" (R96); the code of the unanswered CBD and one more
abbrev pub in_service_record : ℕ → Bool → ℕ → LinkRecord
in_service_record state t3 code =
    record { state = state; acknowledged = 127; received = 127; sent = 0; timer = 0; t3 = t3; code = code }

-- whether a CBD is to be sent: some pair comes from a link of its own set
abbrev pub declares : Sources → Bool
declares from = ltb from.own none

-- "it waits" (R92); "Else it is open." (R94, R95, R97)
abbrev pub comes_as : Sources → LinkRecord
comes_as from =
    in_service_record (cond (declares from || from.other) 1 2) from.other (cond (declares from) (from.own + 1) 0)

-- the pairs' sources: every link but one that is out carries, so that an open one stands for one that waits
unfoldable pub sources_in : Plan → List ℕ → List ℕ → ℕ → Sources
sources_in plan links marks link = sources_of plan links (with_record links link (in_service_record 2 false 0)) marks link

-- the links after it
unfoldable pub links_in : Plan → List ℕ → List ℕ → ℕ → List ℕ
links_in plan links marks link = with_record links link (comes_as (sources_in plan links marks link))

-- the reply before its pairs are looked at: 1, 2, 5 on a link that isn't out (R89)
abbrev pub refusals_first : Plan → List ℕ → ℕ → List ℕ → List Row
refusals_first plan links link reports =
    row 1 (leb link_count link || short reports)
    ∷ row 2 (not (is_link plan link))
    ∷ row 5 (not (eqb (record_at links link).state state_out))
    ∷ []

unfoldable pub reply_first : Plan → List ℕ → ℕ → List ℕ → ℕ
reply_first plan links link reports = first (refusals_first plan links link reports)
