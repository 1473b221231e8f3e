-- What a management message leaves, from what the code does with the effect that it has.
-- Assumes nothing.
use mathlib.Core.Path.{◌≡◌, sym, subst, ◌∙◌}
use Prim.Native.Nat.{ℕ}
use Rattle.plan.specs.declared.data.Plan.{Plan}
use Rattle.wire_messages.specs.declared.management.Message.{Message}
use Rattle.replies.specs.declared.Answer.{Answer}
use Rattle.replies.specs.Areas.{Areas, Leaves}
use Rattle.managing.specs.declared.Effect.{Effect}
use Rattle.managing.specs.Managed.{asked, managed_by, managed}

-- a message with an effect leaves what that does
pub as_effect : (plan : Plan) (arriving fsn point slc : ℕ) (a : Areas) (message : Message) (told : Effect)
    → told ≡ asked plan a.links a.marks arriving fsn point slc message → (effect : Effect) → told ≡ effect
    → (r : Answer) (after : Areas) → Leaves (managed_by plan point slc effect a) r after
    → Leaves (managed plan arriving fsn point slc message a) r after
unfolding managed
as_effect plan arriving fsn point slc a message told asks effect so r after left =
    subst (λ (e : Effect). Leaves (managed_by plan point slc e a) r after) (sym so ∙ asks) left
