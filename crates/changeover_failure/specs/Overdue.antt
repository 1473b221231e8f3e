-- What is decided where T1 or T2 of a link expires: the reply.
use Rattle.std.specs.Prelude.{ℕ, not, ◌||◌, List, [], ◌∷◌, eqb, leb}
use Rattle.constants.specs.Constants.{link_count}
use Rattle.plan.specs.declared.data.Plan.{Plan}
use Rattle.area_links.specs.LinkRecords.{record_at}
use Rattle.replies.specs.Reply.{Row, row, first}
use Rattle.reports.specs.Report.{short}
use Rattle.lookup.specs.Lookup.{is_link}

-- the reply: 1, also for a timer that is neither T1 nor T2; 2; 5 where that timer isn't running (R45)
abbrev pub refusals_of : Plan → List ℕ → ℕ → ℕ → List ℕ → List Row
refusals_of plan links link timer reports =
    row 1 (leb link_count link || (not (eqb timer 1 || eqb timer 2) || short reports))
    ∷ row 2 (not (is_link plan link))
    ∷ row 5 (not (eqb (record_at links link).timer timer))
    ∷ []

unfoldable pub reply_of : Plan → List ℕ → ℕ → ℕ → List ℕ → ℕ
reply_of plan links link timer reports = first (refusals_of plan links link timer reports)
