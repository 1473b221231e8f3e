-- "TFA clears the mark and stops T10; if X now uses another set than before, and was accessible, T6 starts unless it runs .. Those already
-- queued on a link stay there." (R148, R149, R150, R153) A TFP "marks the route to X by Y's set prohibited and starts T10" (R140, R141).
use Rattle.std.specs.Prelude.{ℕ, ◌<◌, ◌≡◌, Bool, cond, ◌||◌}
use Rattle.constants.specs.Constants.{t6}
use Rattle.plan.specs.declared.data.Plan.{Plan}
use Rattle.plan.specs.Find.{place_of}
use Rattle.area_flags.specs.Flags.{flag_at}
use Rattle.wire_messages.specs.declared.management.Message.{Message}
use Rattle.wire_messages.specs.declared.management.Message.TheVariants.{TFP, TFA}
use Rattle.replies.specs.Areas.{Areas}
use Rattle.rerouting_marking.specs.Mark.{rank_for, marked, diverts}
use Rattle.promise_accounts.specs.Gone.{queue_of}

-- the message about X that prohibits, or the one that allows
abbrev pub transfer_about : ℕ → Bool → Message
transfer_about x prohibits = cond prohibits (TFP x) (TFA x)

-- X uses another set by the marks with this one than it used before, and was accessible, and the message is a TFA
abbrev pub uses_another : Plan → Areas → ℕ → ℕ → Bool → Bool
uses_another plan before point x prohibits =
    diverts plan before.links before.marks (marked plan before.marks point x prohibits) x prohibits

-- what a TFP or TFA about X from a point leaves where it counts
pub record Transfers (plan : Plan) (point x : ℕ) (prohibits : Bool) (before after : Areas) : Type 0 where
  -- the mark of the route to X by the point's set is set or cleared, and with it T10, which runs while the mark stands (R140, R141, R148)
  pub mark : flag_at after.marks (place_of plan x) (rank_for plan point x) ≡ prohibits
  -- "T6 starts unless it runs" (R149, R150), and ends by none of them
  pub t6_runs : flag_at after.marks (place_of plan x) t6 ≡ (flag_at before.marks (place_of plan x) t6 || uses_another plan before point x prohibits)
  -- every other flag, of X or of another destination, is as it was
  pub flags_same : (destination flag : ℕ) → (flag ≡ rank_for plan point x → destination ≡ place_of plan x → ⊥)
      → (flag ≡ t6 → destination ≡ place_of plan x → ⊥)
      → flag_at after.marks destination flag ≡ flag_at before.marks destination flag
  -- "Those already queued on a link stay there" (R153), and those held apart stay so
  pub queues_same : (ring : ℕ) → ring < 33 → queue_of after ring ≡ queue_of before ring
