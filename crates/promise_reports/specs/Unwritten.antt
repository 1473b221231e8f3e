-- What a call leaves of the report area that is lent to it: "Lent areas are unchanged but for what reply 0 writes at their start." (R69)
use Rattle.std.specs.Prelude.{ℕ, ◌*◌, ◌≡◌, Bool, true, false, not, ◌&&◌, ◌||◌, List, eqb, length, drop}
use Rattle.plan.specs.declared.data.Plan.{Plan}
use Rattle.wire_messages.specs.declared.management.Message.{Message}
use Rattle.wire_messages.specs.declared.management.Message.TheVariants.{COO, COA, CBD, CBA, ECO, ECA, TFP, TFA, RST}
use Rattle.replies.specs.Areas.{Areas}
use Rattle.discrimination.specs.declared.Order.{Order}
use Rattle.discrimination.specs.Sorted.{of_managed}
use Rattle.discrimination.specs.Discrimination.{from_link}
use Rattle.node.specs.declared.call.Event.{Event}
use Rattle.node.specs.declared.call.Event.TheVariants.{IntoService, Failure, Send, Acknowledgement, Received, FromHost, T1, T2, T3, T4, T6, T8, T10}
use Rattle.node.specs.View.{view_of}
use Rattle.node.specs.Memory.{Result}
use Rattle.promise_accounts.specs.Ending.{ending_of}
use Rattle.promise_accounts.specs.Gone.{told_by}

-- the area after a call, by the area that was lent to it
pub record Unwritten (lent : List ℕ) (r : Result) : Type 0 where
  -- "Counts in replies are those of the reports written" (R219)
  pub counted : length (told_by r) ≡ r.answer.reports
  -- behind them, at two words a record, it is as it was
  pub behind : drop (2 * r.answer.reports) r.after.areas.reports ≡ drop (2 * r.answer.reports) lent
  pub long : length r.after.areas.reports ≡ length lent

-- nothing is told, and nothing is written
pub record Untold (lent : List ℕ) (r : Result) : Type 0 where
  pub none : r.answer.reports ≡ 0
  pub same : r.after.areas.reports ≡ lent

-- TFP and TFA
abbrev pub is_transfer : Message → Bool
is_transfer (TFP x) = true
is_transfer (TFA x) = true
is_transfer (COO f) = false
is_transfer (COA f) = false
is_transfer (CBD code) = false
is_transfer (CBA code) = false
is_transfer ECO = false
is_transfer ECA = false
is_transfer (RST x) = false

-- the events that can tell something though no link goes out: into service, TFP, TFA and T6. No other does: send, acknowledgement, a message from the
-- host, one that is passed on or delivered, T3, T4, T8, T10, the failure of an open link
unfoldable pub may_tell : Plan → List ℕ → Event → Bool
may_tell plan message (IntoService link) = true
may_tell plan message (Received link fsn) = of_managed false (λ (order : Order). is_transfer order.message) (from_link plan message)
may_tell plan message (T6 x) = true
may_tell plan message (Failure link) = false
may_tell plan message (Send link) = false
may_tell plan message (Acknowledgement link b) = false
may_tell plan message FromHost = false
may_tell plan message (T1 link) = false
may_tell plan message (T2 link) = false
may_tell plan message (T3 link) = false
may_tell plan message (T4 link) = false
may_tell plan message (T8 x) = false
may_tell plan message (T10 x set) = false

-- a call of which nothing is told: refused, or of another event and no link goes out
abbrev pub is_quiet : Plan → List ℕ → Event → Areas → Result → Bool
is_quiet plan message event a r =
    not (eqb r.answer.reply 0) || (not (may_tell plan message event) && not (ending_of plan a message (view_of event)).ends)
