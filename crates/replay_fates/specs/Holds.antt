-- What the line of a fate says (docs/FORMATS.md, "Fates") is so, seen in the queues before and after the call and in its reports.
use Rattle.std.specs.Prelude.{ℕ, zero, suc, ◌+◌, ◌-◌, ◌≤◌, ◌<◌, ◌≡◌, true, false, List, [], ◌∷◌}
use Rattle.area_links.specs.LinkRecords.{record_at}
use Rattle.fate_places.specs.Places.{Held, places, message_at, stands, dropped}
use Rattle.fate_lines.specs.declared.Fate.{Fate}
use Rattle.fate_lines.specs.declared.Fate.TheVariants.{Unchanged, Queued, Sent, Acknowledged, Retired, Moved}
use Rattle.replay_fates.specs.declared.deciding.Told.{Told}

-- all that is seen of a call: what is known of it, the links after it, the queues before and after it, its reports
pub record Seen : Type 0 where
  pub told : Told
  pub links : List ℕ
  pub before : Held
  pub after : Held
  pub reports : List ℕ

-- a message is gone from a link's queue: it stood there, stands in no queue any more, and isn't reported dropped
pub record Left (s : Seen) (arrival link : ℕ) : Type 0 where
  pub stood : stands s.before link arrival ≡ true
  pub in_none : (queue : ℕ) → queue < 33 → stands s.after queue arrival ≡ false
  pub not_dropped : dropped s.reports s.told.reports arrival ≡ false

-- what a fate says
pub data Holds : Seen → Fate → Type 0 where
  unchanged : (s : Seen) → Holds s Unchanged
  -- "a message was queued on that link and has that arrival number": it stands there, and no number from the next on was given before
  queued : (s : Seen) (arrival queue heading : ℕ) → stands s.after queue arrival ≡ true → s.told.next ≤ arrival
      → Holds s (Queued arrival queue heading)
  -- "it left over that link with that number": the last that the link has sent, with the answer's number
  sent : (s : Seen) → s.told.sender < 32
      → Holds s (Sent (message_at s.after s.told.sender ((record_at s.links s.told.sender).sent - 1)).arrival s.told.sender s.told.fsn)
  -- "level 2 of the far end has it"
  acknowledged : (s : Seen) (arrival link : ℕ) → s.told.acknowledges ≡ true → Left s arrival link → Holds s (Acknowledged arrival link)
  -- "a changeover number says that the far end has it"
  retired : (s : Seen) (arrival link : ℕ) → s.told.acknowledges ≡ false → Left s arrival link → Holds s (Retired arrival link)
  -- "it left one link's queue for another's"
  moved : (s : Seen) (arrival from to : ℕ) → stands s.before from arrival ≡ true → stands s.after from arrival ≡ false
      → stands s.after to arrival ≡ true → Holds s (Moved arrival from to)

-- what all fates of a list say
pub data AllHold : Seen → List Fate → Type 0 where
  none : (s : Seen) → AllHold s []
  more : (s : Seen) (fate : Fate) (later : List Fate) → Holds s fate → AllHold s later → AllHold s (fate ∷ later)

-- a fate is among those told
pub data Among : Fate → List Fate → Type 0 where
  here : (fate : Fate) (later : List Fate) → Among fate (fate ∷ later)
  there : (fate now : Fate) (later : List Fate) → Among fate later → Among fate (now ∷ later)

-- how many messages so many queues from one on hold together
unfoldable pub together : Held → ℕ → ℕ → ℕ
together h queue zero = 0
together h queue (suc queues) = places h queue + together h (queue + 1) queues
