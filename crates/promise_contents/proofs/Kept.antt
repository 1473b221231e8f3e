-- What is held is kept: by nothing, by one step after the other, and by a message that is written into a free slot.
-- Assumes nothing.
use mathlib.Core.Path.{◌≡◌, refl, sym, ap, subst, ◌∙◌}
use mathlib.Core.Logic.{◌⊎◌, inl, inr, ⊎_elim}
use mathlib.Core.Bool.{false}
use mathlib.Core.List.{List, [], ◌∷◌}
use Prim.Native.Nat.{ℕ, ◌≤◌}
use native.Mathlib.Omega.{arith}
use lib.Dec.{eqb}
use lib.ListN.{length}
use borrow.Author.Tests.{le-ltb}
use borrow.Table.Steps.{cases}
use Rattle.plan.proofs.Split.{split, alike}
use Rattle.area_slots.specs.declared.Slot.{Slot}
use Rattle.queue_slots.specs.Message.{fits, user_rows, management_rows}
use Rattle.queue_slots.specs.Message as Message
use Rattle.queue_slots.specs.Write.{Write, slot_of, rows_with, octets_with}
use Rattle.queue_slots.proofs.ReadBack.{user_read, management_read, row_kept, octets_kept, rows_length}
use Rattle.replies.specs.Areas.{Areas}
use Rattle.queue_heads.specs.Head.{Queues, head_of}
use Rattle.queue_joining.specs.Queue.{next_of, counted, user_reply, rows_with_user, user_octets, user_arrivals, management_reply, rows_with_management, management_arrivals}
use Rattle.promise_contents.specs.Content.{Content, content, Same, Newer, Kept}

-- what is held in areas, with these octets
abbrev pub content_in : Areas → List ℕ → Content
content_in a octets = content a.rows octets a.arrivals

-- nothing happens
pub kept_none : (held : Content) → Kept held held
kept_none held = record { each = λ slot h. inl (refl, refl); onward = omega arith; long = refl }

-- one after the other
pub kept_on : (first next last : Content) → Kept first next → Kept next last → Kept first last
kept_on first next last earlier later =
    record {
      each =
          λ slot h.
          ⊎_elim
          (λ (same : Same next last slot).
          ⊎_elim (λ (before : Same first next slot). inl (same.0 ∙ before.0, same.1 ∙ before.1))
          (λ (newer : Newer first next slot). inr (omega (arith, newer, ap (λ (s : Slot). s.arrival) same.0)))
          (earlier.each slot h))
          (λ (newer : Newer next last slot). inr (omega (arith, newer, earlier.onward)))
          (later.each slot h);
      onward = omega (arith, earlier.onward, later.onward);
      long = later.long ∙ earlier.long;
    }

-- the number used up is no lower
counted_onward : (arrivals : List ℕ) → next_of arrivals ≤ next_of (counted arrivals)
counted_onward [] = omega arith
counted_onward (next ∷ later) = omega arith

module _ (rows octets arrivals : List ℕ) where
  abbrev now : Content
  now = content rows octets arrivals

  -- what is held with a message written into a slot, and its number used up
  abbrev then : Write → Content
  then write = content (rows_with rows write) (octets_with octets write) (counted arrivals)

  -- a message with the next number, or none, is written into its slot; the other slots are as they were
  write_kept : (write : Write) → Same now (then write) (slot_of write) ⊎ Newer now (then write) (slot_of write) → Kept now (then write)
  write_kept write there =
      record {
        each =
            λ slot h.
            alike slot (slot_of write)
            (λ is. subst (λ (at : ℕ). Same now (then write) at ⊎ Newer now (then write) at) (sym is) there)
            (λ apart. inl (row_kept rows write slot apart, octets_kept octets write slot _ (omega arith) apart));
        onward = counted_onward arrivals;
        long = rows_length rows write;
      }

  module _ (all : length rows ≡ 2048) where
    -- a user message, of any size: one that doesn't fit isn't written
    user_written : (slot point sls : ℕ) (message : List ℕ)
        → Kept now
        (content (user_rows rows slot (next_of arrivals) point sls (length message)) (Message.user_octets octets slot message) (counted arrivals))
    unfolding user_rows Message.user_octets
    user_written slot point sls message =
        write_kept (Write.user slot (next_of arrivals) point sls message)
        (cases (fits slot (length message))
        (λ e. inr (omega (arith, ap (λ (s : Slot). s.arrival) (user_read rows slot (next_of arrivals) point sls (length message) all e))))
        (λ e. inl (simp e, simp e)))

    -- a management message, into any slot
    management_written : (slot heading point slc field : ℕ)
        → Kept now (content (management_rows rows slot (next_of arrivals) heading point slc field) octets (counted arrivals))
    unfolding management_rows
    management_written slot heading point slc field =
        write_kept (Write.management slot (next_of arrivals) heading point slc field)
        (split slot 256
        (λ h. inr (omega (arith, ap (λ (s : Slot). s.arrival) (management_read rows slot (next_of arrivals) heading point slc field all h))))
        (λ h. inl (simp (le-ltb slot 256 h), refl)))

    module _ (queues : Queues) where
      -- a user message is queued, or refused
      pub user_kept : (point sls : ℕ) (message : List ℕ)
          → Kept now
          (content (rows_with_user queues arrivals rows point sls (length message)) (user_octets queues arrivals octets message)
          (user_arrivals queues.spans arrivals))
      unfolding rows_with_user user_octets user_arrivals
      user_kept point sls message =
          cases (eqb (user_reply queues.spans arrivals) 0)
          (λ e. simp e (user_written (head_of queues 33).slot point sls message))
          (λ e. simp e (kept_none now))

      -- one that is refused is not written
      pub refused_kept : (message : List ℕ) → eqb (user_reply queues.spans arrivals) 0 ≡ false
          → Kept now (content rows (user_octets queues arrivals octets message) arrivals)
      unfolding user_octets
      refused_kept message e = simp e (kept_none now)

      -- a management message is queued, or refused
      pub management_kept : (heading point slc field : ℕ)
          → Kept now
          (content (rows_with_management queues arrivals rows heading point slc field) octets (management_arrivals queues.spans arrivals))
      unfolding rows_with_management management_arrivals
      management_kept heading point slc field =
          cases (eqb (management_reply queues.spans arrivals) 0)
          (λ e. simp e (management_written (head_of queues 34).slot heading point slc field))
          (λ e. simp e (kept_none now))
