-- "Message received: open or waiting; else reply 5." (R106)
use Rattle.std.specs.Prelude.{ℕ, not, ◌||◌, List, [], ◌∷◌, eqb, leb}
use Rattle.constants.specs.Constants.{link_count, state_waiting, state_open}
use Rattle.plan.specs.declared.data.Plan.{Plan}
use Rattle.counting.specs.Counting.{next}
use Rattle.area_links.specs.LinkRecords.{record_at}
use Rattle.replies.specs.Reply.{Row, row, first}
use Rattle.reports.specs.Report.{short}
use Rattle.lookup.specs.Lookup.{is_link}

-- the reply before the message is looked at: 1, 2, 5, and 6 where "received FSN isn't the last plus 1" (R16, R46)
abbrev pub refusals_of : Plan → List ℕ → ℕ → ℕ → List ℕ → List Row
refusals_of plan links link fsn reports =
    row 1 (leb link_count link || (leb 128 fsn || short reports))
    ∷ row 2 (not (is_link plan link))
    ∷ row 5 (not (eqb (record_at links link).state state_open || eqb (record_at links link).state state_waiting))
    ∷ row 6 (not (eqb fsn (next 128 (record_at links link).received)))
    ∷ []

unfoldable pub reply_of : Plan → List ℕ → ℕ → ℕ → List ℕ → ℕ
reply_of plan links link fsn reports = first (refusals_of plan links link fsn reports)
