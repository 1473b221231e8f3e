-- A line that can be read is of a kind that we know, and one that can't be read leaves the area as it was.
-- Assumes nothing.
use mathlib.Core.Path.{◌≡◌, refl, ap, subst}
use mathlib.Core.List.{List}
use Prim.Native.Nat.{ℕ}
use Rattle.text.specs.Part.{split, tab}
use Rattle.record_kinds.specs.declared.Kind.{Kind}
use Rattle.record_kinds.specs.declared.Kind.TheVariants.{Service, Failure, Send, Acknowledged, Received, Host, Routes, T1, T2, T3, T4, T6, T8, T10}
use Rattle.std.specs.Prelude.{Option, Some, None}
use Rattle.record_entry.specs.declared.Said.{Said}
use Rattle.record_entry.specs.Entry.{kind_in, read_entry}
use Rattle.record_entry.proofs.Refusals
use Rattle.record_reading.specs.declared.Reading.{Reading}
use Rattle.record_reading.specs.declared.Reading.TheVariants.{Call, Asks, Unreadable}
use Rattle.record_reading.specs.Record.{call_of, call_by, read_line, message_after}

abbrev Called : Reading → Type 0
Called (Call line) = Unit
Called (Asks question) = Unit
Called Unreadable = ⊥

-- each kind has its call or question
always_called : (kind : Kind) (link number destination octets : ℕ) → Called (call_of kind link number destination octets)
always_called Service link number destination octets = tt
always_called Failure link number destination octets = tt
always_called Send link number destination octets = tt
always_called Acknowledged link number destination octets = tt
always_called Received link number destination octets = tt
always_called Host link number destination octets = tt
always_called Routes link number destination octets = tt
always_called T1 link number destination octets = tt
always_called T2 link number destination octets = tt
always_called T3 link number destination octets = tt
always_called T4 link number destination octets = tt
always_called T6 link number destination octets = tt
always_called T8 link number destination octets = tt
always_called T10 link number destination octets = tt

-- what is said is a call or a question
unsaid : (entry : Option Said) → call_by entry ≡ Unreadable → entry ≡ None
unsaid (Some said) e = absurd (subst Called e (always_called said.kind _ _ _ _))
unsaid None e = refl

-- an unknown kind: a line that can be read is of a kind
pub unknown : (area line : List ℕ) → kind_in (split tab line) ≡ None → read_line area line ≡ Unreadable
unknown area line e = ap call_by (Refusals.unknown area line e)

-- "A line that can't be read" leaves the area as it was
pub left_alone : (area line : List ℕ) → read_line area line ≡ Unreadable → message_after area line ≡ area
left_alone area line e = Refusals.left_alone area line (unsaid (read_entry area line) e)
