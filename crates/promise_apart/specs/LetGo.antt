-- The end of T6: "X's new user messages are held apart until it ends, then move, whatever came between. Those already queued on a link stay
-- there." (R151, R152, R153)
use Rattle.std.specs.Prelude.{ℕ, ◌<◌, ◌≡◌, false, cond, List, [], ◌∷◌, ◌++◌, map, eqb, length}
use Rattle.constants.specs.Constants.{apart_ring, t6}
use Rattle.plan.specs.declared.data.Plan.{Plan}
use Rattle.plan.specs.Find.{place_of}
use Rattle.area_flags.specs.Flags.{flag_at}
use Rattle.replies.specs.Areas.{Areas}
use Rattle.queue_moving.specs.Move.{point_of, goes_to}
use Rattle.promise_ledger.specs.Held.{arrival_of}
use Rattle.promise_ledger.specs.Reported.{reports_in}
use Rattle.promise_leaving.specs.Going.{going, stranded, drops_for}
use Rattle.promise_leaving.specs.Apart.{held_apart, let_go}
use Rattle.promise_accounts.specs.Gone.{queue_of}

-- those of some slots whose messages are for others than a point, in order
unfoldable pub for_others : List ℕ → ℕ → List ℕ → List ℕ
for_others rows point [] = []
for_others rows point (slot ∷ slots) =
    cond (eqb (point_of rows slot) point) (for_others rows point slots) (slot ∷ for_others rows point slots)

-- the link that the rule gives for a message, by the links and marks of some areas
abbrev pub goes : Plan → Areas → List ℕ → ℕ → ℕ
goes plan a marks slot = goes_to plan a.links marks a.rows slot

-- what holds when T6 of X has ended, with so many reports: messages are named by their arrival numbers, first to last
pub record EndsT6 (plan : Plan) (x : ℕ) (before after : Areas) (reports : ℕ) : Type 0 where
  -- "held apart until it ends" (R151): all of X's leave, and the others stay held apart, in their order
  pub others_stay : queue_of after apart_ring ≡ map (arrival_of before.rows) (for_others before.rows x (held_apart before))
  -- "then move" (R152), which is "to queue each message, in order and with its arrival number, by the rule above" (R134): each link has what it
  -- had, since "Those already queued on a link stay there" (R153), and behind it those of X's that go there
  pub move : (link : ℕ) → link < 32
      → queue_of after link
      ≡ queue_of before link ++ map (arrival_of before.rows) (going (goes plan before after.marks) link (let_go before x))
  -- "one with no route is dropped, reason 1" (R137), in order, and nothing else is reported
  pub told : reports_in after.reports reports
      ≡ drops_for 1 before.rows (stranded (goes plan before after.marks) (let_go before x))
  -- "Counts in replies are those of the reports written." (R219)
  pub counted : reports ≡ length (stranded (goes plan before after.marks) (let_go before x))
  -- T6 runs for X no more, and every other flag, T6 of another destination or a mark, is as it was
  pub stopped : flag_at after.marks (place_of plan x) t6 ≡ false
  pub flags_same : (destination flag : ℕ) → (flag ≡ t6 → destination ≡ place_of plan x → ⊥)
      → flag_at after.marks destination flag ≡ flag_at before.marks destination flag
  -- what is known of links and of held messages stays
  pub links_same : after.links ≡ before.links
  pub rows_same : after.rows ≡ before.rows
  pub arrivals_same : after.arrivals ≡ before.arrivals
