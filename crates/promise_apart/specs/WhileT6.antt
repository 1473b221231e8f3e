-- What is held apart at any time: "T6 starts unless it runs, and X's new user messages are held apart until it ends" (R149, R151)
use Rattle.std.specs.Prelude.{ℕ, ◌<◌, ◌≡◌, Bool, true, false, List, [], ◌∷◌, ◌++◌}
use Rattle.constants.specs.Constants.{apart_ring, t6}
use Rattle.plan.specs.declared.data.Plan.{Plan}
use Rattle.plan.specs.Find.{place_of, is_found}
use Rattle.area_flags.specs.Flags.{flag_at}
use Rattle.replies.specs.Areas.{Areas}
use Rattle.queue_moving.specs.Move.{point_of}
use Rattle.node.specs.declared.call.Event.{Event}
use Rattle.node.specs.declared.call.Event.TheVariants.{IntoService, Failure, Send, Acknowledgement, Received, FromHost, T1, T2, T3, T4, T6, T8, T10}
use Rattle.promise_accounts.specs.Gone.{queue_of}
use Rattle.promise_leaving.specs.Apart.{held_apart}

-- something holds of each of some slots
unfoldable pub Each : (ℕ → Type 0) → List ℕ → Type 0
Each holds [] = Unit {0}
Each holds (slot ∷ slots) = holds slot × Each holds slots

-- the message in a slot is a user message, in a place below 192, for a configured destination X whose T6 runs
pub record Waits (plan : Plan) (a : Areas) (slot : ℕ) : Type 0 where
  pub user : slot < 192
  pub configured : is_found plan (point_of a.rows slot) ≡ true
  pub runs : flag_at a.marks (place_of plan (point_of a.rows slot)) t6 ≡ true

-- messages are held apart only while T6 runs for their destination (R151)
pub record OnlyWhileT6 (plan : Plan) (a : Areas) : Type 0 where
  pub each_waits : Each (Waits plan a) (held_apart a)
  -- so while no T6 runs none is
  pub none_apart : ((destination : ℕ) → flag_at a.marks destination t6 ≡ false) → queue_of a apart_ring ≡ []

-- the end of a T6, of whatever destination
unfoldable pub is_t6 : Event → Bool
is_t6 (T6 x) = true
is_t6 (IntoService link) = false
is_t6 (Failure link) = false
is_t6 (Send link) = false
is_t6 (Acknowledgement link b) = false
is_t6 (Received link fsn) = false
is_t6 FromHost = false
is_t6 (T1 link) = false
is_t6 (T2 link) = false
is_t6 (T3 link) = false
is_t6 (T4 link) = false
is_t6 (T8 x) = false
is_t6 (T10 x set) = false

-- those held apart stay so, in their order, with what is new behind them: "held apart until it ends, then move, whatever came between" (R151, R152)
pub record StayApart (before after : Areas) : Type 0 where
  pub new : List ℕ
  pub behind : queue_of after apart_ring ≡ queue_of before apart_ring ++ new
