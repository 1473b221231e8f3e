-- A message received over a link, whatever it is: what is held of the others stays.
-- Assumes nothing.
use mathlib.Core.Path.{◌≡◌}
use mathlib.Core.Bool.{Bool, true, false}
use mathlib.Core.List.{List}
use Prim.Native.Nat.{ℕ}
use lib.ListN.{length}
use Rattle.plan.specs.declared.data.Plan.{Plan}
use Rattle.wire_messages.specs.declared.management.Message.{Message}
use Rattle.wire_messages.specs.declared.management.Message.TheVariants.{COO, COA, CBD, CBA, ECO, ECA, TFP, TFA, RST}
use Rattle.replies.specs.Areas.{Areas, Outcome, refused}
use Rattle.numbers.specs.Numbers.{is_taken}
use Rattle.numbers.specs.Taken.{with_taken, taken_by}
use Rattle.changeback_waiting.specs.Wait.{answers, answered_by}
use Rattle.rerouting_marking.specs.Mark.{counts}
use Rattle.rerouting.specs.Transfer.{transferred}
use Rattle.management_orders.specs.Carry.{carried}
use Rattle.managing.specs.Managed.{asked, step_asked, managed}
use Rattle.discrimination.specs.declared.Came.{Came}
use Rattle.discrimination.specs.declared.Came.TheVariants.{Malformed, Foreign, Delivered, Managed, Passed}
use Rattle.discrimination.specs.Discrimination.{from_link}
use Rattle.receiving.specs.Receive.{reply_of, received_by, received, octets_by, octets_received}
use Rattle.promise_runs.proofs.Outcomes.{by_test, if_both_done}
use Rattle.promise_contents.specs.Content.{Kept}
use Rattle.promise_contents.proofs.Kept.{content_in, kept_none}
use Rattle.promise_contents.proofs.KeptMaking.{KeptBy, carried_kept}
use Rattle.promise_contents.proofs.KeptPassing.{KeptWith, passed_kept}

module _ (plan : Plan) (a : Areas) (octets : List ℕ) (all : length a.rows ≡ 2048) where
  -- a CBA
  answered_kept : (point slc code : ℕ) → KeptBy a octets (answered_by plan point slc code a)
  unfolding answered_by
  answered_kept point slc code =
      by_test (KeptBy a octets) (answers plan a.links point slc code) _ _ (λ e. kept_none (content_in a octets))
      (λ e. kept_none (content_in a octets))

  -- a TFP, or a TFA
  transferred_kept : (point x : ℕ) (prohibits : Bool) → KeptBy a octets (transferred plan point x prohibits a)
  unfolding transferred
  transferred_kept point x prohibits =
      by_test (KeptBy a octets) (counts plan a.marks point x prohibits) _ _ (λ e. kept_none (content_in a octets))
      (λ e. kept_none (content_in a octets))

  module _ (arriving fsn point slc : ℕ) where
    -- one that is answered, or ends a changeover
    carries_out : (message : Message) → KeptBy a octets (carried plan (step_asked plan a.links a.marks arriving fsn point slc message) a)
    carries_out message =
        carried_kept a octets all plan (step_asked plan a.links a.marks arriving fsn point slc message)

    -- each of the nine management messages
    managed_kept : (message : Message) → KeptBy a octets (managed plan arriving fsn point slc message a)
    unfolding managed asked
    managed_kept (COO f) = carries_out (COO f)
    managed_kept (COA f) = carries_out (COA f)
    managed_kept (CBD code) = carries_out (CBD code)
    managed_kept (CBA code) = answered_kept point slc code
    managed_kept ECO = carries_out ECO
    managed_kept ECA = carries_out ECA
    managed_kept (TFP x) = transferred_kept point x true
    managed_kept (TFA x) = transferred_kept point x false
    managed_kept (RST x) = carries_out (RST x)

  -- whatever it is
  came_kept : (arriving fsn : ℕ) (message : List ℕ) (came : Came)
      → KeptWith plan a octets all (received_by plan arriving fsn (length message) came a) (octets_by plan came a octets message)
  unfolding received_by octets_by
  came_kept arriving fsn message Malformed = kept_none (content_in a octets)
  came_kept arriving fsn message Foreign = kept_none (content_in a octets)
  came_kept arriving fsn message Delivered = kept_none (content_in a octets)
  came_kept arriving fsn message (Managed order) = managed_kept arriving fsn order.point order.slc order.message
  came_kept arriving fsn message (Passed label) = passed_kept plan a octets all arriving label message

  -- taken, or not
  taken_kept : (arriving fsn : ℕ) (o : Outcome) (written : List ℕ) → KeptWith plan a octets all o written
      → KeptWith plan a octets all (taken_by arriving fsn o) written
  taken_kept arriving fsn o written kept =
      by_test (λ (b : Areas). Kept (content_in a octets) (content_in b written)) (is_taken o.answer.reply) (with_taken arriving fsn o.after)
      o.after
      (λ e. kept)
      (λ e. kept)

  -- judged by the reply first
  pub received_kept : (arriving fsn : ℕ) (message : List ℕ)
      → KeptWith plan a octets all (received plan arriving fsn message a) (octets_received plan arriving fsn message a octets)
  unfolding received octets_received
  received_kept arriving fsn message =
      let reply = reply_of plan a.links arriving fsn a.reports in
      let became : Outcome = received_by plan arriving fsn (length message) (from_link plan message) a in
      let written = octets_by plan (from_link plan message) a octets message in
      if_both_done (KeptWith plan a octets all) reply (taken_by arriving fsn became) (refused reply a) written octets
      (λ done. taken_kept arriving fsn became written (came_kept arriving fsn message (from_link plan message)))
      (kept_none (content_in a octets))
