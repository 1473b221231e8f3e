-- "Messages passed on keep all their octets." (R68): what a slot holds of a message, that it stays there until a message with a new number
-- takes the slot, and what leaves with a send.
use Rattle.std.specs.Prelude.{ℕ, ◌≤◌, ◌<◌, ◌≡◌, ◌⊎◌, List, length, take}
use Rattle.constants.specs.Constants.{free_user_ring}
use Rattle.plan.specs.declared.data.Plan.{Plan}
use Rattle.area_slots.specs.declared.Slot.{Slot}
use Rattle.area_slots.specs.SlotRows.{slot_at}
use Rattle.queue_slots.specs.Message.{octets_at}
use Rattle.wire.specs.declared.header.Label.{Label}
use Rattle.discrimination.specs.declared.Came.TheVariants.{Passed}
use Rattle.discrimination.specs.Discrimination.{from_link}
use Rattle.queue_heads.specs.Head.{both, head_of}
use Rattle.queue_joining.specs.Queue.{next_of}
use Rattle.sending.specs.Send.{first_unsent}
use Rattle.node.specs.View.{View, Comes, Fails, Sends, Acknowledges, Arrives, HandedOver, Overdue, Expires}
use Rattle.node.specs.Memory.{Memory, Result}

-- what is held of all messages: a row for each slot, 273 octets for each user slot, and the next arrival number
pub record Content : Type 0 where
  pub rows : List ℕ
  pub octets : List ℕ
  pub arrivals : List ℕ

abbrev pub content : List ℕ → List ℕ → List ℕ → Content
content rows octets arrivals = record { rows = rows; octets = octets; arrivals = arrivals }

abbrev pub content_of : Memory → Content
content_of m = content m.areas.rows m.octets m.areas.arrivals

-- the row of a slot: the arrival number of its message, and how many octets that has
abbrev pub row_in : Content → ℕ → Slot
row_in held slot = slot_at held.rows slot

-- the first octets of a slot
abbrev pub octets_in : Content → ℕ → ℕ → List ℕ
octets_in held slot size = octets_at held.octets slot size

-- the next arrival number
abbrev pub next_in : Content → ℕ
next_in held = next_of held.arrivals

-- a slot holds what it held: its row, and all its octets
abbrev pub Same : Content → Content → ℕ → Type 0
Same before after slot = (row_in after slot ≡ row_in before slot) × (octets_in after slot 273 ≡ octets_in before slot 273)

-- or a message that was queued since, with a number that wasn't given before
abbrev pub Newer : Content → Content → ℕ → Type 0
Newer before after slot = next_in before ≤ (row_in after slot).arrival

-- what is held stays as it is where no new message is written over it, and numbers only go up
pub record Kept (before after : Content) : Type 0 where
  pub each : (slot : ℕ) → slot < 256 → Same before after slot ⊎ Newer before after slot
  pub onward : next_in before ≤ next_in after
  pub long : length after.rows ≡ length before.rows

-- a user slot holds a message with all its octets, queued with a number
pub record Holds (held : Content) (slot number : ℕ) (message : List ℕ) : Type 0 where
  pub user : slot < 192
  pub short : length message ≤ 273
  pub arrival : (row_in held slot).arrival ≡ number
  pub size : (row_in held slot).field ≡ length message
  pub octets : octets_in held slot (length message) ≡ message

-- the slot that the next user message takes
abbrev pub free_slot : Memory → ℕ
free_slot m = (head_of (both m.areas.spans m.areas.rings) free_user_ring).slot

-- the slot of the message that a link sends next
abbrev pub next_slot : Memory → ℕ → ℕ
next_slot m link = first_unsent m.areas.links m.areas.spans m.areas.rings link

-- a message that is passed on: one from the host, and one from a link for another point
unfoldable pub PassedOn : Plan → List ℕ → View → Type 0
PassedOn plan message HandedOver = Unit {0}
PassedOn plan message (Arrives link fsn) = (label : Label) × (from_link plan message ≡ Passed label)
PassedOn plan message (Comes link) = ⊥
PassedOn plan message (Fails link) = ⊥
PassedOn plan message (Sends link) = ⊥
PassedOn plan message (Acknowledges link b) = ⊥
PassedOn plan message (Overdue link timer) = ⊥
PassedOn plan message Expires = ⊥

-- octets leave with a call: so many as it answers, at the start of the lent output
pub record Leave (call : Result) (octets : List ℕ) : Type 0 where
  pub many : call.answer.octets ≡ length octets
  pub these : take call.answer.octets call.after.out ≡ octets
