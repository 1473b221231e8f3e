-- "the unacknowledged ones go over the alternative too. A call cleared twice does no harm; one never cleared costs us a circuit." (R235): of a
-- link's queue that ends by T1, T2 or a number that isn't in range nothing is lost.
use Rattle.std.specs.Prelude.{ℕ, ◌+◌, ◌≡◌, ◌⊎◌, false, []}
use Rattle.counting.specs.Counting.{in_range}
use Rattle.plan.specs.declared.data.Plan.{Plan}
use Rattle.area_links.specs.LinkRecords.{record_at}
use Rattle.queue_store.specs.Sound.{sum, tally, is}
use Rattle.replies.specs.Areas.{Areas}
use Rattle.queue_joining.specs.Queue.{next_of}
use Rattle.node.specs.declared.call.Event.TheVariants.{T1, T2}
use Rattle.node.specs.Memory.{Result}
use Rattle.promise_runs.specs.Run.{Call}
use Rattle.promise_ledger.specs.Held.{put_on}
use Rattle.promise_accounts.specs.Gone.{queue_of, told_by}
use Rattle.promise_accounts.specs.Ending.{Ending, TakesOut}
use Rattle.promise_changeover.specs.ChangedOver.{retiring, dropping, leaving, WithNumber, Brings, InService}
use Rattle.promise_resending.specs.Reasons.{dropped_with}

-- a COO or COA of a link in service, with a number that isn't in range
pub record OutOfRange (plan : Plan) (call : Call) (a : Areas) (link : ℕ) : Type 0 where
  pub f : ℕ
  pub brings : Brings plan call link (WithNumber f)
  pub in_service : InService a link
  pub not_in_range : in_range 128 (record_at a.links link).acknowledged (record_at a.links link).sent f ≡ false

-- "T1, T2 or an F out of range" (R235): a call that can end a changeover in doubt
abbrev pub InDoubt : Plan → Call → Areas → ℕ → Type 0
InDoubt plan call a link = OutOfRange plan call a link ⊎ ((call.event ≡ T1 link) ⊎ (call.event ≡ T2 link))

-- what becomes of the link's queue by such a call, that finds `a`, ends so, and gives `r`
pub record WholeLeaves (plan : Plan) (a : Areas) (ending : Ending) (link : ℕ) (r : Result) : Type 0 where
  pub takes_out : TakesOut ending link
  -- nothing is retired, nothing dropped for it: all of it leaves, sent and unsent, in order (R235)
  pub none_retired : retiring a ending ≡ []
  pub none_dropped : dropping a ending ≡ []
  pub all_leave : leaving a ending ≡ queue_of a link
  -- so nothing is lost, as a host reads it from the queues and the reports: each message is as often on another link, or told with reason 1 (R239)
  pub each_somewhere : (number : ℕ) → (next_of a.arrivals ≡ number → ⊥)
      → tally (is number) (queue_of a link)
      ≡ sum (λ other. tally (is number) (put_on (queue_of a other) (queue_of r.after.areas other))) 32
      + tally (is number) (dropped_with 1 (told_by r))
