-- A management message for us leaves a regular state regular, each of the nine.
-- Assumes nothing.
use mathlib.Core.Bool.{true, false, and-eq-true_iff}
use mathlib.Core.List.{List}
use Prim.Native.Nat.{ℕ, ◌+◌}
use native.Mathlib.Omega.{arith}
use lib.Dec.{eqb, ltb}
use borrow.Author.Tests.{eqb-true}
use Rattle.plan.specs.declared.data.Plan.{Plan}
use Rattle.area_links.specs.LinkRecords.{record_at}
use Rattle.wire_messages.specs.declared.management.Message.{Message}
use Rattle.wire_messages.specs.declared.management.Message.TheVariants.{COO, COA, CBD, CBA, ECO, ECA, TFP, TFA, RST}
use Rattle.replies.specs.Reply.{plain, done}
use Rattle.replies.specs.Areas.{Areas, Outcome, outcome, with_links}
use Rattle.lookup.specs.Lookup.{link_named}
use Rattle.changeback_waiting.specs.Wait.{answers, answered, answered_by}
use Rattle.management_orders.specs.Carry.{carried}
use Rattle.managing.specs.Managed.{asked, step_asked, managed}
use Rattle.promise_runs.proofs.Outcomes.{RegularIn, by_test}
use Rattle.promise_runs.proofs.KeepsWaiting.{answer_regular}
use Rattle.promise_runs.proofs.KeepsOrders.{carried_regular, OfLink, coo_of_link, eco_of_link, coa_of_link, eca_of_link, cbd_of_link, rst_of_link}
use Rattle.promise_runs.proofs.KeepsRerouting.{transfer_regular}

module _ (a : Areas) (octets : List ℕ) (regular : RegularIn a octets) (plan : Plan) where
  -- a CBA
  answered_regular : (point slc code : ℕ) → RegularIn (answered_by plan point slc code a).after octets
  unfolding answered_by answers
  answered_regular point slc code =
      let link = link_named plan point slc in
      by_test (λ (o : Outcome). RegularIn o.after octets) (answers plan a.links point slc code)
      (outcome (done 0) (with_links a (answered plan a.links point slc)))
      (outcome (plain 11) a)
      (λ e.
      let is = (and-eq-true_iff (ltb link 32) (eqb (record_at a.links link).code (code + 1))).0 e in
      answer_regular a.links a.spans a.rings a.rows octets regular plan point slc
      (omega (arith, eqb-true (record_at a.links link).code (code + 1) is.1)))
      (λ e. regular)

  module _ (arriving fsn point slc : ℕ) where
    carries_out : (message : Message) → OfLink (step_asked plan a.links a.marks arriving fsn point slc message)
        → RegularIn (carried plan (step_asked plan a.links a.marks arriving fsn point slc message) a).after octets
    carries_out message of-link =
        carried_regular octets plan (step_asked plan a.links a.marks arriving fsn point slc message) of-link a regular

    -- each of the nine management messages
    pub managed_regular : (message : Message) → RegularIn (managed plan arriving fsn point slc message a).after octets
    unfolding managed asked
    managed_regular (COO f) = carries_out (COO f) (coo_of_link plan a.links a.marks arriving fsn point slc f)
    managed_regular (COA f) = carries_out (COA f) (coa_of_link plan a.links a.marks arriving fsn point slc f)
    managed_regular (CBD code) = carries_out (CBD code) (cbd_of_link plan a.links a.marks arriving fsn point slc code)
    managed_regular (CBA code) = answered_regular point slc code
    managed_regular ECO = carries_out ECO (eco_of_link plan a.links a.marks arriving fsn point slc)
    managed_regular ECA = carries_out ECA (eca_of_link plan a.links a.marks arriving fsn point slc)
    managed_regular (TFP x) = transfer_regular a octets regular plan point x true
    managed_regular (TFA x) = transfer_regular a octets regular plan point x false
    managed_regular (RST x) = carries_out (RST x) (rst_of_link plan a.links a.marks arriving fsn point slc x)
