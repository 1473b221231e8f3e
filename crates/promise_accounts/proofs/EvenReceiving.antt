-- A message received over a link, whatever it is: what it retires is gone, what it reports is dropped, what it makes is held.
-- Assumes nothing.
use mathlib.Core.Path.{◌≡◌, ap}
use mathlib.Core.Bool.{Bool, true, false, ◌||◌}
use mathlib.Core.List.{List, []}
use Prim.Native.Nat.{ℕ, ◌≤◌, ◌<◌}
use native.Mathlib.Omega.{arith}
use lib.Dec.{leb}
use lib.ListN.{length}
use Rattle.plan.specs.declared.data.Plan.{Plan}
use Rattle.plan.proofs.Split.{both_false}
use Rattle.area_links.specs.LinkRecords.{record_at}
use Rattle.queue_rings.specs.Ring.{count_of}
use Rattle.queue_store.specs.Sound.{tally}
use Rattle.wire_messages.specs.declared.management.Message.{Message}
use Rattle.wire_messages.specs.declared.management.Message.TheVariants.{COO, COA, CBD, CBA, ECO, ECA, TFP, TFA, RST}
use Rattle.reports.specs.Report.{log, short}
use Rattle.replies.specs.Reply.{done, if_done}
use Rattle.replies.specs.Areas.{Areas, Outcome, with_links}
use Rattle.replies.proofs.Rows.{none_applies}
use Rattle.route_access.specs.Change.{is_accessible, changes_told}
use Rattle.numbers.specs.Taken.{taken_by}
use Rattle.changeback_waiting.specs.Wait.{answers, answered, answered_by}
use Rattle.rerouting_marking.specs.Mark.{counts, marks_after}
use Rattle.rerouting.specs.Transfer.{access_told, transferred}
use Rattle.management_orders.specs.Carry.{carried}
use Rattle.managing.specs.Managed.{asked, step_asked, managed}
use Rattle.discrimination.specs.declared.Came.{Came}
use Rattle.discrimination.specs.declared.Came.TheVariants.{Malformed, Foreign, Delivered, Managed, Passed}
use Rattle.discrimination.specs.Discrimination.{from_link}
use Rattle.receiving.specs.Receive.{reply_of, received_by, received}
use Rattle.promise_runs.proofs.Outcomes.{RegularIn, by_test}
use Rattle.promise_ledger.specs.Reported.{reports_in, drops_of}
use Rattle.promise_ledger.proofs.Told.{changes_even}
use Rattle.promise_accounts.specs.Gone.{retired_by_step, retired_by_message}
use Rattle.promise_accounts.proofs.Even.{KindsIn, even_none, even_links, EvenBy, untold, undropped, taken_even, judged_even}
use Rattle.promise_accounts.proofs.Small.{Small, link_small}
use Rattle.promise_accounts.proofs.EvenEnding.{sent_queued}
use Rattle.promise_accounts.proofs.Bearing.{asked_bears}
use Rattle.promise_accounts.proofs.EvenOrders.{carried_even}
use Rattle.promise_accounts.proofs.EvenPassing.{passed_even}

-- where a message is looked at the report area has its room
pub room_there : (plan : Plan) (a : Areas) (arriving fsn : ℕ) → reply_of plan a.links arriving fsn a.reports ≡ 0
    → short a.reports ≡ false
unfolding reply_of
room_there plan a arriving fsn done =
    let first = (none_applies 0 (leb 32 arriving || (leb 128 fsn || short a.reports)) _ done).0 in
    (both_false (leb 128 fsn) (short a.reports) (both_false (leb 32 arriving) (leb 128 fsn || short a.reports) first).1).1

module _ (test : ℕ → Bool) (a : Areas) (octets : List ℕ) (regular : RegularIn a octets) (long : length a.arrivals ≡ 1)
    (plan : Plan) where
  -- a pause or a resume is no drop
  pub no_drop : (before after : ℕ → Bool)
      → let told = changes_told plan before after (log a.reports 0) in
      tally test (drops_of (reports_in told.area told.count)) ≡ 0
  unfolding reports_in drops_of tally
  no_drop before after = ap (tally test) (changes_even plan before after (log a.reports 0))

  module _ (arriving fsn : ℕ) where
    -- a CBA
    answered_even : (point slc code : ℕ) → EvenBy test a (answered_by plan point slc code a) []
    unfolding answered_by
    answered_even point slc code =
        by_test (λ (o : Outcome). EvenBy test a o []) (answers plan a.links point slc code) _ _
        (λ e.
        let links = answered plan a.links point slc in
        untold test a 0 (with_links a links) (even_links test a a 0 (even_none test a long) links))
        (λ e. untold test a 11 a (even_none test a long))

    -- a TFP, or a TFA
    transferred_even : (point x : ℕ) (prohibits : Bool) → EvenBy test a (transferred plan point x prohibits a) []
    unfolding transferred access_told
    transferred_even point x prohibits =
        let marks = marks_after plan a.links a.marks point x prohibits in
        by_test (λ (o : Outcome). EvenBy test a o []) (counts plan a.marks point x prohibits) _ _
        (λ e.
        undropped test a _ _ (record { one = long; even = omega arith; apart = λ kinds. kinds })
        (no_drop (is_accessible plan a.links a.marks) (is_accessible plan a.links marks)))
        (λ e. untold test a 11 a (even_none test a long))

    module _ (room : short a.reports ≡ false) (point slc : ℕ) where
      abbrev retired : Message → List ℕ
      retired message = retired_by_step plan a (step_asked plan a.links a.marks arriving fsn point slc message)

      queued : (link : ℕ) → link < 32 → (record_at a.links link).sent ≤ count_of a.spans link
      queued link h = sent_queued (record_at a.links link) (count_of a.spans link) (regular.each_link link h)

      carries_out : (message : Message) → EvenBy test a (carried plan (step_asked plan a.links a.marks arriving fsn point slc message) a) (retired message)
      carries_out message =
          carried_even test a octets regular long plan (step_asked plan a.links a.marks arriving fsn point slc message) room
          (asked_bears (count_of a.spans) plan a.links a.marks queued arriving fsn point slc message)

      -- each of the nine management messages
      managed_even : (message : Message) → EvenBy test a (managed plan arriving fsn point slc message a) (retired message)
      unfolding managed asked retired_by_step
      managed_even (COO f) = carries_out (COO f)
      managed_even (COA f) = carries_out (COA f)
      managed_even (CBD code) = carries_out (CBD code)
      managed_even (CBA code) = answered_even point slc code
      managed_even ECO = carries_out ECO
      managed_even ECA = carries_out ECA
      managed_even (TFP x) = transferred_even point x true
      managed_even (TFA x) = transferred_even point x false
      managed_even (RST x) = carries_out (RST x)

    -- whatever it is
    came_even : short a.reports ≡ false → KindsIn test a → (size : ℕ) (came : Came) → Small came size
        → EvenBy test a (received_by plan arriving fsn size came a) (retired_by_message plan a arriving fsn came)
    unfolding received_by retired_by_message reports_in drops_of tally Small
    came_even room kinds size Malformed small = untold test a 3 a (even_none test a long)
    came_even room kinds size Foreign small = untold test a 4 a (even_none test a long)
    came_even room kinds size Delivered small = even_none test a long
    came_even room kinds size (Managed order) small = managed_even room order.point order.slc order.message
    came_even room kinds size (Passed label) small = passed_even test a octets regular long kinds plan arriving label size small.1

    pub received_even : KindsIn test a → (message : List ℕ)
        → EvenBy test a (received plan arriving fsn message a)
        (if_done (reply_of plan a.links arriving fsn a.reports) (retired_by_message plan a arriving fsn (from_link plan message)) [])
    unfolding received
    received_even kinds message =
        judged_even test a long (reply_of plan a.links arriving fsn a.reports)
        (taken_by arriving fsn (received_by plan arriving fsn (length message) (from_link plan message) a))
        (retired_by_message plan a arriving fsn (from_link plan message))
        (λ done.
        taken_even test a arriving fsn (received_by plan arriving fsn (length message) (from_link plan message) a)
        (retired_by_message plan a arriving fsn (from_link plan message))
        (came_even (room_there plan a arriving fsn done) kinds (length message) (from_link plan message) (link_small plan message)))
