-- What is decided where a link fails: the reply, the COO of an open one, and its record in changeover.
use Rattle.std.specs.Prelude.{ℕ, Bool, false, cond, not, ◌||◌, List, [], ◌∷◌, eqb, leb}
use Rattle.constants.specs.Constants.{link_count, state_waiting, state_open, state_changing}
use Rattle.plan.specs.declared.data.Plan.{Plan}
use Rattle.area_links.specs.declared.LinkRecord.{LinkRecord}
use Rattle.area_links.specs.LinkRecords.{record_at}
use Rattle.replies.specs.Reply.{Row, row, first}
use Rattle.reports.specs.Report.{short}
use Rattle.lookup.specs.Lookup.{is_link, slc_of, adjacent_of}
use Rattle.wire_messages.specs.declared.management.Message.TheVariants.{COO}
use Rattle.management_making.specs.declared.Draft.{Draft}

-- a link's state
abbrev pub state_at : List ℕ → ℕ → ℕ
state_at links link = (record_at links link).state

-- the reply: 1, 2, 5 on a link that is out or changing
abbrev pub refusals_of : Plan → List ℕ → ℕ → List ℕ → List Row
refusals_of plan links link reports =
    row 1 (leb link_count link || short reports)
    ∷ row 2 (not (is_link plan link))
    ∷ row 5 (not (eqb (state_at links link) state_open || eqb (state_at links link) state_waiting))
    ∷ []

unfoldable pub reply_of : Plan → List ℕ → ℕ → List ℕ → ℕ
reply_of plan links link reports = first (refusals_of plan links link reports)

-- "Our COO and COA carry that link's last received FSN" (R112): the COO, which can't use the link that fails
unfoldable pub order_of : Plan → List ℕ → ℕ → Draft
order_of plan links link =
    record {
      message = COO (record_at links link).received;
      point = adjacent_of plan link;
      slc = slc_of plan link;
      never = link;
    }

-- a changing link, with the timer of its changeover (R110)
abbrev pub changing : LinkRecord → ℕ → LinkRecord
changing known timer =
    record {
      state = state_changing;
      acknowledged = known.acknowledged;
      received = known.received;
      sent = known.sent;
      timer = timer;
      t3 = false;
      code = 0;
    }

-- "a COO and T2, or T1 with no path, free place or number" (R111)
abbrev pub timer_by : Bool → ℕ
timer_by told = cond told 2 1
