-- What a new message leaves, from what the code finds: no slot free, no number left, or both there.
-- Assumes nothing.
use mathlib.Core.Path.{◌≡◌, refl, sym, ap, ◌∙◌}
use mathlib.Core.Bool.{false}
use mathlib.Core.List.{List, [], ◌∷◌}
use Prim.Native.Nat.{ℕ, ◌≤◌, ◌<◌}
use lib.Dec.{eqb}
use lib.ListN.{length}
use borrow.Author.Tests.{eq-eqb, ne_eqb, le-leb, lt-leb}
use Rattle.queue_rings.specs.declared.ring.Taken.{Taken}
use Rattle.queue_rings.specs.Ring.{count_of}
use Rattle.queue_slots.specs.Message as Written
use Rattle.wire_messages.specs.declared.management.Message.{Message}
use Rattle.wire_messages.specs.Management.{heading_of, field_of}
use Rattle.replies.specs.Reply.{row, first}
use Rattle.queue_heads.specs.Head.{Queues, both, head_of, moved}
use Rattle.queue_joining.specs.Queue.{Held, held, with_user, with_management, next_of, no_number, counted, user_reply, user_queues, rows_with_user, user_octets, user_arrivals, management_reply, management_queues, rows_with_management, management_arrivals}

-- the reply where a slot of a ring of free ones is asked for, with the table's row for it
abbrev pub reply_for : ℕ → ℕ → List ℕ → List ℕ → ℕ
reply_for number free spans arrivals = first (row number (eqb (count_of spans free) 0) ∷ row 10 (no_number arrivals) ∷ [])

-- the ring was counted
module _ (number free : ℕ) (spans arrivals : List ℕ) (count : ℕ) (is : count ≡ count_of spans free) where
  pub reply_no_slot : count ≡ 0 → reply_for number free spans arrivals ≡ number
  unfolding first
  reply_no_slot none = simp (sym is, eq-eqb count 0 none)

  pub reply_no_number : (count ≡ 0 → ⊥) → 9223372036854775808 ≤ next_of arrivals → reply_for number free spans arrivals ≡ 10
  unfolding first
  reply_no_number some last = simp (sym is, ne_eqb count 0 some, le-leb 9223372036854775808 (next_of arrivals) last)

  pub reply_done : (count ≡ 0 → ⊥) → next_of arrivals < 9223372036854775808 → reply_for number free spans arrivals ≡ 0
  unfolding first
  reply_done some more = simp (sym is, ne_eqb count 0 some, lt-leb 9223372036854775808 (next_of arrivals) more)

-- what is held, of its three parts
abbrev whole : Queues → List ℕ → List ℕ → Held
whole queues rows arrivals = record { queues = queues; rows = rows; arrivals = arrivals }

-- queues and areas that are each those of what is held make up this, and what is the same
held_whole : (spans rings rows arrivals : List ℕ) {one other : Held} → one ≡ other → both spans rings ≡ one.queues
    → rows ≡ one.rows → arrivals ≡ one.arrivals → held spans rings rows arrivals ≡ other
held_whole spans rings rows arrivals {one} same queues-are rows_are arrivals-are =
    ap (λ (q : Queues). whole q rows arrivals) queues-are
    ∙ ap (λ (w : List ℕ). whole one.queues w arrivals) rows_are
    ∙ ap (whole one.queues one.rows) arrivals-are
    ∙ same

module _ (spans rings arrivals rows octets message : List ℕ) (ring point sls : ℕ) where
  -- the areas are those that a user message leaves, in the order of the contract
  abbrev pub UserLeaves : ℕ → List ℕ → List ℕ → List ℕ → List ℕ → List ℕ → Type 0
  UserLeaves reply spans' rings' rows' octets' arrivals' =
      (reply ≡ user_reply spans arrivals)
      × ((held spans' rings' rows' arrivals' ≡ with_user ring point sls (length message) (held spans rings rows arrivals))
      × (octets' ≡ user_octets (both spans rings) arrivals octets message))

  -- one that is refused leaves all as it was
  pub user_refused : (reply : ℕ) → user_reply spans arrivals ≡ reply → eqb reply 0 ≡ false
      → UserLeaves reply spans rings rows octets arrivals
  unfolding user_queues rows_with_user user_octets user_arrivals
  user_refused reply e not0 = (sym e, (simp (e, not0), simp (e, not0)))

  -- one that isn't gets the free slot's row and octets, and the number
  pub user_done : (free : Taken) → free ≡ head_of (both spans rings) 33 → user_reply spans arrivals ≡ 0
      → (spans' rings' rows' octets' : List ℕ) → both spans' rings' ≡ moved (both spans rings) 33 ring
      → rows' ≡ Written.user_rows rows free.slot (next_of arrivals) point sls (length message)
      → octets' ≡ Written.user_octets octets free.slot message
      → UserLeaves 0 spans' rings' rows' octets' (counted arrivals)
  unfolding user_queues rows_with_user user_octets user_arrivals
  user_done free is e spans' rings' rows' octets' moves rows_are octets_are =
      let row = Written.user_rows rows free.slot (next_of arrivals) point sls (length message) in
      let same : whole (moved (both spans rings) 33 ring) row (counted arrivals)
      ≡ with_user ring point sls (length message) (held spans rings rows arrivals) =
      simp (e, is)
      in
      (sym e, (held_whole spans' rings' rows' (counted arrivals) same moves rows_are refl, octets_are ∙ simp (e, is)))

module _ (spans rings arrivals rows : List ℕ) (ring : ℕ) (message : Message) (point slc : ℕ) where
  -- the areas are those that a management message leaves
  abbrev pub ManagementLeaves : ℕ → List ℕ → List ℕ → List ℕ → List ℕ → Type 0
  ManagementLeaves reply spans' rings' rows' arrivals' =
      (reply ≡ management_reply spans arrivals)
      × (held spans' rings' rows' arrivals' ≡ with_management ring message point slc (held spans rings rows arrivals))

  pub management_refused : (reply : ℕ) → management_reply spans arrivals ≡ reply → eqb reply 0 ≡ false
      → ManagementLeaves reply spans rings rows arrivals
  unfolding management_queues rows_with_management management_arrivals
  management_refused reply e not0 = (sym e, simp (e, not0))

  pub management_done : (free : Taken) → free ≡ head_of (both spans rings) 34 → management_reply spans arrivals ≡ 0
      → (spans' rings' rows' : List ℕ) → both spans' rings' ≡ moved (both spans rings) 34 ring
      → (heading field : ℕ) → heading ≡ heading_of message → field ≡ field_of message
      → rows' ≡ Written.management_rows rows free.slot (next_of arrivals) heading point slc field
      → ManagementLeaves 0 spans' rings' rows' (counted arrivals)
  unfolding management_queues rows_with_management management_arrivals
  management_done free is e spans' rings' rows' moves heading field headed says rows_are =
      let row = Written.management_rows rows free.slot (next_of arrivals) (heading_of message) point slc (field_of message) in
      let same : whole (moved (both spans rings) 34 ring) row (counted arrivals)
      ≡ with_management ring message point slc (held spans rings rows arrivals) =
      simp (e, is)
      in
      let written =
      ap (λ (h : ℕ). Written.management_rows rows free.slot (next_of arrivals) h point slc field) headed
      ∙ ap (λ (f : ℕ). Written.management_rows rows free.slot (next_of arrivals) (heading_of message) point slc f) says
      in
      (sym e, held_whole spans' rings' rows' (counted arrivals) same moves (rows_are ∙ written) refl)

-- a management message that finds no place or number leaves all as it was
pub management_kept : (ring : ℕ) (message : Message) (point slc : ℕ) (now : Held) → eqb (management_reply now.queues.spans now.arrivals) 0 ≡ false
    → with_management ring message point slc now ≡ now
management_kept ring message point slc now lacks =
    sym
    (management_refused now.queues.spans now.queues.rings now.arrivals now.rows ring message point slc _ refl lacks).1
