-- When a call takes a link out of service: which link, how its queue is cut, and from which areas: "The link goes out and its timers
-- stop after the COA or ECA is queued, which never uses this link, and before anything moves." (R131, R132, R133)
use Rattle.std.specs.Prelude.{ℕ, ◌<◌, ◌≡◌, Bool, true, false, cond, ◌&&◌, List, [], ◌∷◌, ◌++◌, eqb}
use Rattle.constants.specs.Constants.{no_link, apart_ring, state_out, state_waiting}
use Rattle.plan.specs.declared.data.Plan.{Plan}
use Rattle.area_links.specs.LinkRecords.{record_at}
use Rattle.replies.specs.Reply.{if_done}
use Rattle.replies.specs.Areas.{Areas}
use Rattle.queue_retiring.specs.Leave.{State, state}
use Rattle.queue_joining.specs.Queue.{next_of}
use Rattle.management_making.specs.Make.{path_of, is_made}
use Rattle.changeover_cuts.specs.declared.Cut.{Cut}
use Rattle.changeover_cuts.specs.Cuts.{cut_none}
use Rattle.changeover_failure.specs.Failure as Failure
use Rattle.changeover_failure.specs.Overdue as Overdue
use Rattle.management_steps.specs.declared.Step.{Step}
use Rattle.management_orders.specs.Carry.{answer_reply, with_answer}
use Rattle.managing.specs.Managed.{step_asked}
use Rattle.discrimination.specs.declared.Order.{Order}
use Rattle.discrimination.specs.declared.Came.{Came}
use Rattle.discrimination.specs.Sorted.{of_managed}
use Rattle.discrimination.specs.Discrimination.{from_link}
use Rattle.receiving.specs.Receive as Receive
use Rattle.node.specs.View.{View, Comes, Fails, Sends, Acknowledges, Arrives, HandedOver, Overdue, Expires}
use Rattle.promise_leaving.specs.Going.{Ended}
use Rattle.promise_accounts.specs.Gone.{queue_of}

pub record Ending : Type 0 where
  pub ends : Bool
  pub from : Areas
  pub link : ℕ
  pub parts : Cut
  -- whether an answer is queued before it, and on which link
  pub answers : Bool
  pub path : ℕ

-- no link goes out
abbrev pub no_ending : Areas → Ending
no_ending a = record { ends = false; from = a; link = no_link; parts = cut_none; answers = false; path = no_link }

-- "T1 or T2 expiry" (R127, R235): of a link whose timer runs
unfoldable pub ending_by_timer : Plan → Areas → ℕ → ℕ → Ending
ending_by_timer plan a link timer =
    record {
      ends = eqb (Overdue.reply_of plan a.links link timer a.reports) 0;
      from = a;
      link = link;
      parts = cut_none;
      answers = false;
      path = no_link;
    }

-- "Failure of a waiting link: out, its timers stop, its queue moves at once." (R115, R116)
unfoldable pub ending_by_failure : Plan → Areas → ℕ → Ending
ending_by_failure plan a link =
    record {
      ends = eqb (Failure.reply_of plan a.links link a.reports) 0 && eqb (Failure.state_at a.links link) state_waiting;
      from = a;
      link = link;
      parts = cut_none;
      answers = false;
      path = no_link;
    }

-- COO, COA, ECO, ECA: by the step that the message asks, with its answer queued; the message is taken after it (R119)
unfoldable pub ending_by_step : Plan → Areas → Step → Ending
ending_by_step plan a step =
    record {
      ends = eqb step.reply 0 && (eqb (answer_reply plan step a) 0 && step.ends);
      from = with_answer plan step a;
      link = step.link;
      parts = step.parts;
      answers = step.answers && is_made plan a.links a.marks a.spans a.arrivals step.draft;
      path = path_of plan a.links a.marks step.draft;
    }

-- by what a message from a link is
unfoldable pub ending_by_message : Plan → Areas → ℕ → ℕ → Came → Ending
ending_by_message plan a arriving fsn came =
    of_managed (no_ending a)
    (λ (order : Order).
    ending_by_step plan a (step_asked plan a.links a.marks arriving fsn order.point order.slc order.message))
    came

-- by every kind of event
unfoldable pub ending_of : Plan → Areas → List ℕ → View → Ending
ending_of plan a message (Arrives link fsn) =
    if_done (Receive.reply_of plan a.links link fsn a.reports) (ending_by_message plan a link fsn (from_link plan message)) (no_ending a)
ending_of plan a message (Fails link) = ending_by_failure plan a link
ending_of plan a message (Overdue link timer) = ending_by_timer plan a link timer
ending_of plan a message (Comes link) = no_ending a
ending_of plan a message (Sends link) = no_ending a
ending_of plan a message (Acknowledges link b) = no_ending a
ending_of plan a message HandedOver = no_ending a
ending_of plan a message Expires = no_ending a

-- it takes that link out
abbrev pub TakesOut : Ending → ℕ → Type 0
TakesOut ending link = (ending.ends ≡ true) × (ending.link ≡ link)

-- the queues and the reports of areas, so many records written
abbrev pub state_of : Areas → ℕ → State
state_of a reports = state a.spans a.rings a.reports reports

-- the queue is cut, and its rest moved, exactly as `Ended` says, and nothing else of what is held changes (D3, R215)
pub record Exactly (plan : Plan) (ending : Ending) (after : Areas) (reports : ℕ) : Type 0 where
  pub ended : Ended plan ending.from.links ending.from.marks ending.from.rows ending.link ending.parts
      (state_of ending.from 0)
      (state_of after reports)
  -- the link is out, and what is known of the held messages stays
  pub goes_out : (record_at after.links ending.link).state ≡ state_out
  pub rows_same : after.rows ≡ ending.from.rows
  pub arrivals_same : after.arrivals ≡ ending.from.arrivals

-- the answer as a queue gains it: with the next arrival number, on its path, and on no other queue (R123, R128, R20)
unfoldable pub answered_on : Areas → Ending → ℕ → List ℕ
answered_on a ending ring = cond (ending.answers && eqb ring ending.path) (next_of a.arrivals ∷ []) []

-- before it the link's own queue is as it was, since the answer never uses this link, and so are those held apart; every other has the answer
-- behind what it had, if it is that of the answer's path: "COO is answered with COA, queued before anything moves." (R123, R124, R132)
pub record Starts (a : Areas) (ending : Ending) : Type 0 where
  pub own : queue_of ending.from ending.link ≡ queue_of a ending.link
  pub never_own : answered_on a ending ending.link ≡ []
  pub never_apart : answered_on a ending apart_ring ≡ []
  pub others : (ring : ℕ) → ring < 33 → queue_of ending.from ring ≡ queue_of a ring ++ answered_on a ending ring
