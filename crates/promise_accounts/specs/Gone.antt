-- What has become of the messages that aren't held any more: acknowledged, retired by a changeover number, or reported dropped.
use Rattle.std.specs.Prelude.{ℕ, ◌+◌, ◌≤◌, ◌<◌, ◌≡◌, Bool, cond, List, [], ◌∷◌, ◌++◌, eqb, take}
use Rattle.plan.specs.declared.data.Plan.{Plan}
use Rattle.area_links.specs.LinkRecords.{record_at}
use Rattle.queue_store.specs.Sound.{tally, is}
use Rattle.replies.specs.Reply.{if_done}
use Rattle.replies.specs.Areas.{Areas}
use Rattle.queue_heads.specs.Head.{both}
use Rattle.queue_joining.specs.Queue.{next_of}
use Rattle.numbers.specs.Numbers.{up_to}
use Rattle.acknowledging.specs.Acknowledge as Acknowledge
use Rattle.changeover_cuts.specs.declared.Cut.{Cut}
use Rattle.management_steps.specs.declared.Step.{Step}
use Rattle.management_orders.specs.Carry.{answer_reply}
use Rattle.managing.specs.Managed.{step_asked}
use Rattle.discrimination.specs.declared.Order.{Order}
use Rattle.discrimination.specs.declared.Came.{Came}
use Rattle.discrimination.specs.Sorted.{of_managed}
use Rattle.discrimination.specs.Discrimination.{from_link}
use Rattle.receiving.specs.Receive as Receive
use Rattle.node.specs.View.{View, Comes, Fails, Sends, Acknowledges, Arrives, HandedOver, Overdue, Expires, view_of}
use Rattle.node.specs.Memory.{Memory, Result}
use Rattle.node.specs.Call.{call_of}
use Rattle.promise_runs.specs.Run.{Call, lent, called}
use Rattle.promise_ledger.specs.Held.{numbers, held_of}
use Rattle.promise_ledger.specs.Reported.{Report, reports_in, drops_of}

-- a link's queue by arrival numbers, first to last
abbrev pub queue_of : Areas → ℕ → List ℕ
queue_of a link = numbers a.rows (both a.spans a.rings) link

-- "Messages up to B are retired" (R109): those that an acknowledgement retires
unfoldable pub up_to_b : Plan → Areas → ℕ → ℕ → List ℕ
up_to_b plan a link b =
    if_done (Acknowledge.reply_of plan a.links link b) (take (up_to (record_at a.links link) b) (queue_of a link)) []

unfoldable pub acknowledged_by : Plan → Areas → View → List ℕ
acknowledged_by plan a (Acknowledges link b) = up_to_b plan a link b
acknowledged_by plan a (Comes link) = []
acknowledged_by plan a (Fails link) = []
acknowledged_by plan a (Sends link) = []
acknowledged_by plan a (Arrives link fsn) = []
acknowledged_by plan a HandedOver = []
acknowledged_by plan a (Overdue link timer) = []
acknowledged_by plan a Expires = []

-- "F in range: messages up to F are retired" (R125): those before the cut of a link that goes out
abbrev pub up_to_f : Areas → ℕ → Cut → List ℕ
up_to_f a link parts = take parts.retired (queue_of a link)

-- by the step that a management message asks, where it is carried out and ends a changeover
unfoldable pub retired_by_step : Plan → Areas → Step → List ℕ
retired_by_step plan a step =
    cond (eqb step.reply 0)
    (if_done (answer_reply plan step a) (cond step.ends (up_to_f a step.link step.parts) []) [])
    []

-- by what a message from a link is
unfoldable pub retired_by_message : Plan → Areas → ℕ → ℕ → Came → List ℕ
retired_by_message plan a link fsn came =
    of_managed []
    (λ (order : Order).
    retired_by_step plan a (step_asked plan a.links a.marks link fsn order.point order.slc order.message))
    came

-- those that a changeover number retires: it comes with a message
unfoldable pub retired_by : Plan → Areas → List ℕ → View → List ℕ
retired_by plan a message (Arrives link fsn) =
    if_done (Receive.reply_of plan a.links link fsn a.reports) (retired_by_message plan a link fsn (from_link plan message)) []
retired_by plan a message (Comes link) = []
retired_by plan a message (Fails link) = []
retired_by plan a message (Sends link) = []
retired_by plan a message (Acknowledges link b) = []
retired_by plan a message HandedOver = []
retired_by plan a message (Overdue link timer) = []
retired_by plan a message Expires = []

-- the records that a call wrote: the first of the area that was lent to it, as many as the answer counts (R219)
abbrev pub told_by : Result → List Report
told_by r = reports_in r.after.areas.reports r.answer.reports

-- those that it reports dropped
abbrev pub dropped_by : Result → List ℕ
dropped_by r = drops_of (told_by r)

-- what has gone, and how
pub record Gone : Type 0 where
  pub acknowledged : List ℕ
  pub retired : List ℕ
  pub dropped : List ℕ

abbrev pub nothing_gone : Gone
nothing_gone = record { acknowledged = []; retired = []; dropped = [] }

-- with a call more, made on a memory
unfoldable pub gone_by : Plan → Call → Memory → Gone → Gone
gone_by plan call m gone =
    let a = (lent call m).areas in
    record {
      acknowledged = gone.acknowledged ++ acknowledged_by plan a (view_of call.event);
      retired = gone.retired ++ retired_by plan a call.message (view_of call.event);
      dropped = gone.dropped ++ dropped_by (call_of plan call.event call.message (lent call m));
    }

-- in how many places the numbers are that pass a test: held, acknowledged, retired, or reported dropped
abbrev pub places_of : (ℕ → Bool) → Memory → Gone → ℕ
places_of test m gone =
    held_of test m.areas.rows (both m.areas.spans m.areas.rings)
    + (tally test gone.acknowledged + (tally test gone.retired + tally test gone.dropped))

-- the next arrival number
abbrev pub next_in : Memory → ℕ
next_in m = next_of m.areas.arrivals

-- and with a run of calls more (R178)
unfoldable pub gone_in : Plan → List Call → Memory → Gone → Gone
gone_in plan [] m gone = gone
gone_in plan (call ∷ later) m gone = gone_in plan later (called plan call m) (gone_by plan call m gone)

-- every message ever queued is in exactly one place (D3): each number given so far once, and no other anywhere
pub record OnePlace (m : Memory) (gone : Gone) : Type 0 where
  pub given : (number : ℕ) → number < next_in m → places_of (is number) m gone ≡ 1
  pub not_given : (number : ℕ) → next_in m ≤ number → places_of (is number) m gone ≡ 0
