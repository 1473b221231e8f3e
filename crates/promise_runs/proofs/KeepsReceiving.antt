-- A message received over a link leaves a regular state regular, whatever it is.
-- Assumes nothing.
use mathlib.Core.List.{List}
use Prim.Native.Nat.{ℕ}
use lib.ListN.{length}
use Rattle.plan.specs.declared.data.Plan.{Plan}
use Rattle.replies.specs.Reply.{done}
use Rattle.replies.specs.Areas.{Areas, Outcome, refused}
use Rattle.discrimination.specs.declared.Came.{Came}
use Rattle.discrimination.specs.declared.Came.TheVariants.{Malformed, Foreign, Delivered, Managed, Passed}
use Rattle.discrimination.specs.Discrimination.{from_link}
use Rattle.receiving.specs.Receive.{reply_of, received_by, received, octets_by, octets_received}
use Rattle.numbers.specs.Numbers.{is_taken}
use Rattle.numbers.specs.Taken.{with_taken, taken_by}
use Rattle.promise_runs.proofs.Outcomes.{RegularIn, by_test, if_both_done}
use Rattle.promise_runs.proofs.KeepsNumbers.{taken_regular}
use Rattle.promise_runs.proofs.KeepsManagement.{managed_regular}
use Rattle.promise_runs.proofs.KeepsPassing.{passed_regular}

-- a message that is taken
pub with_taken_regular : (octets : List ℕ) (a : Areas) → RegularIn a octets → (arriving fsn : ℕ) → RegularIn (with_taken arriving fsn a) octets
with_taken_regular octets a regular arriving fsn = taken_regular a.links a.spans a.rings a.rows octets regular arriving fsn

-- taken, or not, by its reply
taken_by_regular : (octets : List ℕ) (o : Outcome) → RegularIn o.after octets → (arriving fsn : ℕ)
    → RegularIn (taken_by arriving fsn o).after octets
taken_by_regular octets o regular arriving fsn =
    by_test (λ (b : Areas). RegularIn b octets) (is_taken o.answer.reply) (with_taken arriving fsn o.after) o.after
    (λ e. with_taken_regular octets o.after regular arriving fsn)
    (λ e. regular)

module _ (a : Areas) (octets : List ℕ) (regular : RegularIn a octets) (plan : Plan) (arriving fsn : ℕ) where
  -- whatever it is
  pub came_regular : (message : List ℕ) (came : Came)
      → RegularIn (received_by plan arriving fsn (length message) came a).after (octets_by plan came a octets message)
  unfolding received_by octets_by
  came_regular message Malformed = regular
  came_regular message Foreign = regular
  came_regular message Delivered = regular
  came_regular message (Managed order) = managed_regular a octets regular plan arriving fsn order.point order.slc order.message
  came_regular message (Passed label) = passed_regular a octets regular plan arriving label message

  pub received_regular : (message : List ℕ)
      → RegularIn (received plan arriving fsn message a).after (octets_received plan arriving fsn message a octets)
  unfolding received octets_received
  received_regular message =
      let reply = reply_of plan a.links arriving fsn a.reports in
      let became : Outcome = received_by plan arriving fsn (length message) (from_link plan message) a in
      let written = octets_by plan (from_link plan message) a octets message in
      if_both_done (λ (o : Outcome) (w : List ℕ). RegularIn o.after w) reply
      (taken_by arriving fsn became)
      (refused reply a)
      written
      octets
      (λ done. taken_by_regular written became (came_regular message (from_link plan message)) arriving fsn)
      regular
