-- What becomes of the queue of a link that is out: its first messages are retired, the next are dropped, and the rest
-- move to other links, each in its place; one with no route is dropped too.
use Rattle.std.specs.Prelude.{◌≡◌, Bool, cond, not, ◌&&◌, List, [], ◌∷◌, ◌++◌, map, ℕ, zero, suc, ◌+◌, ◌<◌, ltb, eqb, take, drop}
use Rattle.constants.specs.Constants.{no_link, apart_ring}
use Rattle.plan.specs.declared.data.Plan.{Plan}
use Rattle.plan.specs.Find.{given}
use Rattle.queue_rings.specs.Ring.{queue}
use Rattle.reports.specs.Report.{Log, pause, resume}
use Rattle.route_access.specs.Change.{is_accessible, code_of}
use Rattle.queue_heads.specs.Head.{Queues}
use Rattle.queue_retiring.specs.Leave.{State}
use Rattle.queue_moving.specs.Move.{goes_to}
use Rattle.changeover_cuts.specs.declared.Cut.{Cut}
use Rattle.changeover_ending.specs.End.{links_out}
use Rattle.promise_ledger.specs.Held.{arrival_of, numbers}
use Rattle.promise_ledger.specs.Reported.{Report, report, reports_of}

-- those of some slots that go to a link, "in order" (R134)
unfoldable pub going : (ℕ → ℕ) → ℕ → List ℕ → List ℕ
going goes link [] = []
going goes link (slot ∷ slots) = cond (eqb (goes slot) link) (slot ∷ going goes link slots) (going goes link slots)

-- those that go to none of the 32 links, in order: "one with no route is dropped, reason 1" (R137)
unfoldable pub stranded : (ℕ → ℕ) → List ℕ → List ℕ
stranded goes [] = []
stranded goes (slot ∷ slots) = cond (ltb (goes slot) no_link) (stranded goes slots) (slot ∷ stranded goes slots)

-- the drops of some slots for a reason: "drops in queue order (arrival number, reason)" (R138)
abbrev pub drops_for : ℕ → List ℕ → List ℕ → List Report
drops_for reason rows slots = map (λ (slot : ℕ). report reason (arrival_of rows slot)) slots

-- the slots of a queue, first to last
abbrev pub slots_of : Queues → ℕ → List ℕ
slots_of queues ring = queue queues.spans queues.rings ring

-- "messages up to F are retired" (R125), the next are dropped: "sent ones dropped" (R127)
abbrev pub dropped_part : Cut → List ℕ → List ℕ
dropped_part parts slots = take parts.dropped (drop parts.retired slots)

-- "and the rest move" (R125)
abbrev pub rest : Cut → List ℕ → List ℕ
rest parts slots = drop (parts.retired + parts.dropped) slots

-- what a link gains of a queue that is cleared, by arrival numbers: those of the rest that go there
abbrev pub gained : (ℕ → ℕ) → List ℕ → Cut → List ℕ → ℕ → List ℕ
gained goes rows parts slots link = map (arrival_of rows) (going goes link (rest parts slots))

-- what is told of it: those "dropped, reason 2" (R127, R236), and behind them those of the rest that have no route
abbrev pub drops_told : (ℕ → ℕ) → List ℕ → Cut → List ℕ → List Report
drops_told goes rows parts slots =
    drops_for 2 rows (dropped_part parts slots) ++ drops_for 1 rows (stranded goes (rest parts slots))

-- what holds when the queue of an out link has been cleared: messages are named by their arrival numbers, first to last
pub record Cleared (plan : Plan) (links marks rows : List ℕ) (link : ℕ) (parts : Cut) (before after : State) : Type 0 where
  -- nothing is left in it
  pub emptied : numbers rows after.queues link ≡ []
  -- "To move is to queue each message, in order and with its arrival number, by the rule above" (R134, R135, R136): each other link has what it had,
  -- and what it gains behind that
  pub joined : (other : ℕ) → other < 32 → (other ≡ link → ⊥)
      → numbers rows after.queues other
      ≡ numbers rows before.queues other ++ gained (goes_to plan links marks rows) rows parts (slots_of before.queues link) other
  -- the messages held apart, in ring 32, are as they were
  pub apart : numbers rows after.queues apart_ring ≡ numbers rows before.queues apart_ring
  -- "Reports: drops in queue order (arrival number, reason)" (R138): behind what was told before
  pub told : reports_of after.log
      ≡ reports_of before.log ++ drops_told (goes_to plan links marks rows) rows parts (slots_of before.queues link)

-- what is told of a destination: nothing, or "pause or resume" (R139) if its "access changed" (R139)
abbrev pub change : Bool → Bool → ℕ → List Report
change before after code =
    cond (before && not after) (report pause code ∷ []) (cond (after && not before) (report resume code ∷ []) [])

-- of so many destinations from one on, "by code" (R139)
unfoldable pub changes : Plan → (ℕ → Bool) → (ℕ → Bool) → ℕ → ℕ → List Report
changes plan before after destination zero = []
changes plan before after destination (suc more) =
    change (before destination) (after destination) (code_of plan destination)
    ++ changes plan before after (destination + 1) more

-- what holds when a link has gone out. "The link goes out .. before anything moves" (R131, R133): its queue is cleared by the rule without it. The
-- reports are "drops in queue order (arrival number, reason), then pause or resume, by code, of each destination whose access changed" (R138, R139)
pub record Ended (plan : Plan) (links marks rows : List ℕ) (link : ℕ) (parts : Cut) (before after : State) : Type 0 where
  -- the log when the queue is cleared
  pub drops : Log
  pub cleared : Cleared plan (links_out links link) marks rows link parts before (record { queues = after.queues; log = drops })
  pub told : reports_of after.log
      ≡ reports_of drops
      ++ changes plan (is_accessible plan links marks) (is_accessible plan (links_out links link) marks) 0 (given plan)
