-- The far end of a link: "it takes a beginning of what was sent there, in order, which may grow from call to call." (R216)
use Rattle.std.specs.Prelude.{ℕ, ◌≤◌, ◌<◌, ◌≡◌, Bool, true, false, List, [], ◌∷◌, ◌++◌, length, take, drop}
use Rattle.plan.specs.declared.data.Plan.{Plan}
use Rattle.area_links.specs.LinkRecords.{record_at}
use Rattle.queue_store.specs.Sound.{tally, is}
use Rattle.replies.specs.Areas.{Areas}
use Rattle.counting.specs.Counting.{in_range}
use Rattle.changeover_cuts.specs.Cuts.{cut_at}
use Rattle.promise_runs.specs.Run.{Call, called}
use Rattle.node.specs.View.{view_of}
use Rattle.node.specs.Memory.{Memory}
use Rattle.promise_accounts.specs.Gone.{queue_of}
use Rattle.promise_farend.specs.History.{History, result_of, is_done, history_by, begins, arrivals}

-- what it took: the first so many of what was sent
abbrev pub took_of : History → ℕ → List ℕ
took_of h taken = take taken (arrivals h.sent)

-- it took no more than was sent, and "An acknowledgement is true if the last message it retires was taken by then" (R217)
pub record Honest (h : History) (taken : ℕ) : Type 0 where
  pub acknowledged_taken : length h.acknowledged ≤ taken
  pub taken_sent : taken ≤ length h.sent

-- from one call to the next: what it took "may grow" (R216), no further than what was sent, and what was acknowledged was "taken by then" (R217)
pub record TrueStep (anew : Bool) (before after : History) (took takes : ℕ) : Type 0 where
  pub grows : anew ≡ false → took ≤ takes
  pub of_sent : takes ≤ length after.sent
  pub acknowledged_truly : length before.acknowledged < length after.acknowledged → length after.acknowledged ≤ takes

-- how many it has taken after each call of a run, all true
unfoldable pub TrueRun : Plan → ℕ → List Call → List ℕ → Memory → History → ℕ → Type 0
TrueRun plan link [] takings m h took = Unit {0}
TrueRun plan link (call ∷ later) [] m h took = ⊥
TrueRun plan link (call ∷ later) (takes ∷ takings) m h took =
    TrueStep (begins link (is_done (result_of plan call m)) (view_of call.event)) h (history_by plan call m link h) took takes
    × TrueRun plan link later takings (called plan call m) (history_by plan call m link h) takes

-- and in the end
unfoldable pub taken_in : List Call → List ℕ → ℕ → ℕ
taken_in [] takings took = took
taken_in (call ∷ later) [] took = took
taken_in (call ∷ later) (takes ∷ takings) took = taken_in later takings takes

-- "A changeover number is true if it is that of the last message ever taken there in that time of service, or the starting number if none
-- is" (R218): what holds of one, in areas whose link goes out by it (D3)
pub record Truly (a : Areas) (link : ℕ) (h : History) (taken f : ℕ) : Type 0 where
  -- it is in range
  pub is_in_range : in_range 128 (record_at a.links link).acknowledged (record_at a.links link).sent f ≡ true
  -- nothing is dropped for it
  pub none_dropped : (cut_at (record_at a.links link) f).dropped ≡ 0
  -- what the far end took, and what is left behind the cut to move or to be reported, make up all that was queued on that link since it came
  -- into service
  pub makes_up : h.queued ≡ took_of h taken ++ drop (cut_at (record_at a.links link) f).retired (queue_of a link)

-- with nothing twice (D3)
pub record Once (h : History) : Type 0 where
  pub nothing_twice : (number : ℕ) → tally (is number) h.queued ≤ 1
