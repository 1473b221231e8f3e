-- A waiting link: T3 and T4 expire, and a CBA answers its CBD.
use Rattle.std.specs.Prelude.{ℕ, ◌+◌, Bool, cond, not, ◌&&◌, ◌||◌, List, [], ◌∷◌, eqb, ltb, leb}
use Rattle.constants.specs.Constants.{link_count, no_link}
use Rattle.plan.specs.declared.data.Plan.{Plan}
use Rattle.area_links.specs.LinkRecords.{record_at, with_record}
use Rattle.replies.specs.Reply.{Row, row, first, plain, done, if_done}
use Rattle.replies.specs.Areas.{Areas, Outcome, outcome, with_links}
use Rattle.lookup.specs.Lookup.{is_link, link_named}
use Rattle.changeback_opening.specs.Opening.{runs, stopped}

-- the reply to the expiry of T3 or T4: 1, also for another timer, 2, 5 where it isn't running (R45)
abbrev pub refusals_of : Plan → List ℕ → ℕ → ℕ → List Row
refusals_of plan links link timer =
    row 1 (leb link_count link || not (eqb timer 3 || eqb timer 4))
    ∷ row 2 (not (is_link plan link))
    ∷ row 5 (not (runs (record_at links link) timer))
    ∷ []

unfoldable pub reply_of : Plan → List ℕ → ℕ → ℕ → ℕ
reply_of plan links link timer = first (refusals_of plan links link timer)

-- the links after it (R100)
unfoldable pub expired : Plan → List ℕ → ℕ → ℕ → List ℕ
expired plan links link timer =
    if_done (reply_of plan links link timer) (with_record links link (stopped (record_at links link) timer)) links

-- the link whose CBD a CBA with a code answers: "CBA only while its CBD is unanswered" (R118, R121)
unfoldable pub answers : Plan → List ℕ → ℕ → ℕ → ℕ → Bool
answers plan links point slc code =
    ltb (link_named plan point slc) no_link && eqb (record_at links (link_named plan point slc)).code (code + 1)

-- the links after a CBA that counts (R99)
unfoldable pub answered : Plan → List ℕ → ℕ → ℕ → List ℕ
answered plan links point slc =
    let link = link_named plan point slc in
    with_record links link (stopped (record_at links link) 4)

-- CBA: "only while its CBD is unanswered, else 11" (R121)
unfoldable pub answered_by : Plan → ℕ → ℕ → ℕ → Areas → Outcome
answered_by plan point slc code a =
    cond (answers plan a.links point slc code)
    (outcome (done 0) (with_links a (answered plan a.links point slc)))
    (outcome (plain 11) a)
