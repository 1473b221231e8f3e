-- What is new in a slot has the next number, and can be sent: a user slot holds 5 to 273 octets, a management slot reads as a message.
-- Assumes nothing.
use mathlib.Core.Path.{◌≡◌, ap, ◌∙◌}
use Prim.Native.Nat.{ℕ, ◌≤◌, ◌<◌}
use native.Mathlib.Omega.{arith}
use Rattle.std.specs.Prelude.{Some}
use Rattle.area_slots.specs.declared.Slot.{Slot}
use Rattle.wire_messages.specs.declared.management.Message.{Message}
use Rattle.sending.specs.Send.{held_message}
use Rattle.sending.proofs.HeldBack.{held_as, row_reads}
use Rattle.promise_contents.specs.Made.{New, Nothing, User, Made, Written}

-- its number
pub written_number : (new : New) (number slot : ℕ) (row : Slot) → Written new number slot row → row.arrival ≡ number
unfolding Written
written_number Nothing number slot row written = absurd written
written_number (User size) number slot row written = written.4
written_number (Made draft) number slot row written = ap (λ (s : Slot). s.arrival) written.1

-- a slot's row says a message that can be sent
pub record Fit (slot : ℕ) (row : Slot) : Type 0 where
  pub user : slot < 192 → (5 ≤ row.field) × (row.field ≤ 273)
  pub management : 192 ≤ slot → (message : Message) × (held_message row ≡ Some message)

pub written_fits : (new : New) (number slot : ℕ) (row : Slot) → Written new number slot row → Fit slot row
unfolding Written
written_fits Nothing number slot row written = absurd written
written_fits (User size) number slot row written =
    record {
      user = λ h. (omega (arith, written.1, written.3), omega (arith, written.2, written.3));
      management = λ h. absurd (omega (arith, h, written.0));
    }
written_fits (Made draft) number slot row written =
    record {
      user = λ h. absurd (omega (arith, h, written.0));
      management =
          λ h. (
            held_as draft.message,
            ap held_message written.1 ∙ row_reads number draft.point draft.slc draft.message,
          );
    }
