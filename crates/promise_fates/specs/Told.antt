-- What is told of a call's messages (docs/FORMATS.md, "Fates") is so, and nothing is left out.
use Rattle.std.specs.Prelude.{ℕ, ◌≤◌, ◌<◌, ◌≡◌, true, false, List}
use Rattle.plan.specs.declared.data.Plan.{Plan}
use Rattle.node.specs.Memory.{Memory}
use Rattle.node.specs.View.{view_of}
use Rattle.node.specs.Call.{call_of}
use Rattle.queue_joining.specs.Queue.{next_of}
use Rattle.promise_runs.specs.Run.{Call, lent}
use Rattle.fate_places.specs.Places.{Held, held, places, message_at, nowhere, whither}
use Rattle.fate_lines.specs.declared.Fate.{Fate}
use Rattle.fate_lines.specs.declared.Fate.TheVariants.{Queued, Acknowledged, Retired, Moved}
use Rattle.replay_fates.specs.Fates.{fates_of}
use Rattle.replay_fates.specs.Holds.{Seen, AllHold, Among}
use Rattle.replay_answers.specs.Answers.{told_of}

-- the queues of a node
abbrev pub queues_in : Memory → Held
queues_in m = held m.areas.spans m.areas.rings m.areas.rows

-- all that is seen of a call made on a memory
abbrev pub seen_of : Plan → Call → Memory → Seen
seen_of plan call m =
    let made = call_of plan call.event call.message (lent call m) in
    record {
      told = told_of (view_of call.event) made.answer (next_of m.areas.arrivals);
      links = made.after.areas.links;
      before = queues_in m;
      after = queues_in made.after;
      reports = made.after.areas.reports;
    }

abbrev pub fates_seen : Seen → List Fate
fates_seen s = fates_of s.told s.links s.before s.after s.reports

-- where the message is after the call that stood at a place of a queue before it
abbrev pub gone_to : Seen → ℕ → ℕ → ℕ
gone_to s queue place = whither s.after s.reports s.told.reports queue (message_at s.before queue place).arrival

pub record FatesTrue (s : Seen) : Type 0 where
  -- every line says what is so
  pub so : AllHold s (fates_seen s)
  -- every message with a new number is told, with the link that it stands on
  pub queued : (queue place : ℕ) → queue < 33 → place < places s.after queue →
      let known = message_at s.after queue place in
      s.told.next ≤ known.arrival → Among (Queued known.arrival queue known.heading) (fates_seen s)
  -- every message that an acknowledgement takes out of the queues is told as acknowledged, every one that any other call takes out and that isn't reported
  -- dropped as retired
  pub acknowledged : (queue place : ℕ) → queue < 33 → place < places s.before queue
      → s.told.acknowledges ≡ true → gone_to s queue place ≡ nowhere
      → Among (Acknowledged (message_at s.before queue place).arrival queue) (fates_seen s)
  pub retired : (queue place : ℕ) → queue < 33 → place < places s.before queue
      → s.told.acknowledges ≡ false → gone_to s queue place ≡ nowhere
      → Among (Retired (message_at s.before queue place).arrival queue) (fates_seen s)
  -- every message that has another queue is told as moved, from the one and to the other
  pub moved : (queue place : ℕ) → queue < 33 → place < places s.before queue → gone_to s queue place < nowhere
      → Among (Moved (message_at s.before queue place).arrival queue (gone_to s queue place)) (fates_seen s)
