-- What may arrive twice where a link's queue ends in doubt: what was sent and not acknowledged (R240).
use Rattle.std.specs.Prelude.{ℕ, ◌+◌, ◌-◌, ◌≤◌, ◌≡◌, List, [], ◌∷◌, ◌++◌, length, take, drop}
use Rattle.plan.specs.declared.data.Plan.{Plan}
use Rattle.queue_store.specs.Sound.{tally, is}
use Rattle.node.specs.Memory.{Memory}
use Rattle.promise_runs.specs.Run.{Call, called}
use Rattle.promise_farend.specs.History.{History, history_by, arrivals}
use Rattle.promise_farend.specs.FarEnd.{took_of}

-- what was sent over the link in its time of service and isn't acknowledged, and behind it what wasn't sent
abbrev pub sent_in_doubt : History → List ℕ
sent_in_doubt h = drop (length h.acknowledged) (arrivals h.sent)

abbrev pub unsent : History → List ℕ
unsent h = drop (length h.sent) h.queued

-- those of them that the far end took
abbrev pub took_in_doubt : History → ℕ → List ℕ
took_in_doubt h taken = take (taken - length h.acknowledged) (sent_in_doubt h)

-- what the far end of a link took, and what leaves the link in doubt
pub record Twice (h : History) (leaves : List ℕ) (taken : ℕ) : Type 0 where
  -- it took what was acknowledged, and a beginning of what was sent and not acknowledged
  pub took : took_of h taken ≡ h.acknowledged ++ took_in_doubt h taken
  -- what was sent and not acknowledged leaves, and behind it what wasn't sent
  pub leaves_are : leaves ≡ sent_in_doubt h ++ unsent h
  -- so what it took and what leaves are all that was queued, each once, and once more exactly what it took of those sent and not acknowledged
  pub queued_once : (number : ℕ) → tally (is number) h.queued ≤ 1
  pub once_more : (number : ℕ)
      → tally (is number) (took_of h taken ++ leaves) ≡ tally (is number) h.queued + tally (is number) (took_in_doubt h taken)

-- a far end that takes each message as soon as it is sent: how many it has taken after each call
unfoldable pub taken_at_once : Plan → ℕ → List Call → Memory → History → List ℕ
taken_at_once plan link [] m h = []
taken_at_once plan link (call ∷ later) m h =
    let after = history_by plan call m link h in
    length after.sent ∷ taken_at_once plan link later (called plan call m) after
