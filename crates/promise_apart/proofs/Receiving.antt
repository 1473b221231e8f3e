-- A message received over a link, whatever it is: those held apart wait for their T6.
-- Assumes nothing.
use mathlib.Core.Path.{◌≡◌, refl, ◌∙◌}
use mathlib.Core.Bool.{Bool, true, false, not, ◌&&◌, and-eq-true_iff}
use mathlib.Core.List.{List}
use Prim.Native.Nat.{ℕ, ◌<◌}
use native.Mathlib.Omega.{arith}
use lib.Dec.{eqb, ltb}
use lib.ListN.{length}
use borrow.Author.Tests.{ltb-true}
use Rattle.constants.specs.Constants.{t6}
use Rattle.plan.specs.declared.data.Plan.{Plan}
use Rattle.plan.specs.Find.{place_of}
use Rattle.area_flags.specs.Flags.{flag_at, with_flag}
use Rattle.area_links.specs.LinkRecords.{record_at}
use Rattle.queue_rings.specs.Ring.{count_of}
use Rattle.queue_store.specs.Sound.{Kinds}
use Rattle.wire_messages.specs.declared.management.Message.{Message}
use Rattle.wire_messages.specs.declared.management.Message.TheVariants.{COO, COA, CBD, CBA, ECO, ECA, TFP, TFA, RST}
use Rattle.replies.specs.Reply.{plain, done}
use Rattle.replies.specs.Areas.{Areas, areas, Outcome, outcome, judged, refused, with_links}
use Rattle.numbers.specs.Numbers.{is_taken}
use Rattle.numbers.specs.Taken.{with_taken, taken_by}
use Rattle.management_making.specs.Make.{with_made}
use Rattle.changeover_ending.specs.End.{out_of_service}
use Rattle.changeback_waiting.specs.Wait.{answers, answered, answered_by}
use Rattle.rerouting_marking.specs.Mark.{rank_for, differs, counts, marked, diverts, marks_after}
use Rattle.rerouting.specs.Transfer.{access_told, transferred}
use Rattle.management_steps.specs.declared.Step.{Step}
use Rattle.management_orders.specs.Carry.{answer_reply, with_answer, ended_by, carried}
use Rattle.managing.specs.Managed.{asked, step_asked, managed}
use Rattle.discrimination.specs.declared.Came.{Came}
use Rattle.discrimination.specs.declared.Came.TheVariants.{Malformed, Foreign, Delivered, Managed, Passed}
use Rattle.discrimination.specs.Discrimination.{from_link}
use Rattle.receiving.specs.Receive.{reply_of, received_by, received}
use Rattle.promise_runs.proofs.Outcomes.{RegularIn, by_test}
use Rattle.promise_accounts.proofs.Bearing.{Bears, asked_bears}
use Rattle.promise_accounts.proofs.EvenEnding.{sent_queued}
use Rattle.promise_accounts.proofs.Small.{Small, link_small}
use Rattle.promise_leaving.specs.Apart.{held_apart}
use Rattle.promise_apart.specs.WhileT6.{Each, Waits}
use Rattle.promise_apart.proofs.Flags.{flag_other, flag_stays}
use Rattle.promise_apart.proofs.Steady.{Steady, same_rows, steady_none, steady_on, steady_waits, out_steady, made_steady}
use Rattle.promise_apart.proofs.Coded.{Coded, link_coded}
use Rattle.promise_apart.proofs.Joining.{WaitBy, passed_waits}

-- links with other records hold no messages
pub steady_links : (a b : Areas) → Steady a b → (links : List ℕ) → Steady a (with_links b links)
steady_links a b steady links = record { slots = steady.slots; rows = steady.rows; flags = steady.flags }

module _ (plan : Plan) (a : Areas) where
  -- a CBA
  answered_steady : (point slc code : ℕ) → Steady a (answered_by plan point slc code a).after
  unfolding answered_by
  answered_steady point slc code =
      by_test (λ (o : Outcome). Steady a o.after) (answers plan a.links point slc code)
      (outcome (done 0) (with_links a (answered plan a.links point slc)))
      (outcome (plain 11) a)
      (λ e. steady_links a a (steady_none a) (answered plan a.links point slc))
      (λ e. steady_none a)

  -- a TFP or TFA that counts is about a mark, and no T6 ends by it
  marks_run : (point x : ℕ) (prohibits : Bool) → counts plan a.marks point x prohibits ≡ true → (destination : ℕ)
      → flag_at a.marks destination t6 ≡ true → flag_at (marks_after plan a.links a.marks point x prohibits) destination t6 ≡ true
  unfolding counts marks_after marked
  marks_run point x prohibits counted destination e =
      let rank = rank_for plan point x in
      let place = place_of plan x in
      let stands = differs (flag_at a.marks place rank) prohibits in
      let first = (and-eq-true_iff (not (eqb x point)) (not (eqb x plan.code) && (ltb rank 4 && stands))).0 counted in
      let next = (and-eq-true_iff (not (eqb x plan.code)) (ltb rank 4 && stands)).0 first.1 in
      let few : rank < 4 = ltb-true rank 4 ((and-eq-true_iff (ltb rank 4) stands).0 next.1).0 in
      let after = with_flag a.marks place rank prohibits in
      let there : flag_at after destination t6 ≡ true = flag_other a.marks place rank prohibits destination t6 (λ same at. omega arith) ∙ e in
      by_test (λ (marks : List ℕ). flag_at marks destination t6 ≡ true) (diverts plan a.links a.marks after x prohibits)
      (with_flag after place t6 true)
      after
      (λ starts. flag_stays after place t6 destination t6 there)
      (λ not. there)

  -- a TFP, or a TFA
  transferred_steady : (point x : ℕ) (prohibits : Bool) → Steady a (transferred plan point x prohibits a).after
  unfolding transferred
  transferred_steady point x prohibits =
      let marks = marks_after plan a.links a.marks point x prohibits in
      let told = access_told plan a marks in
      by_test (λ (o : Outcome). Steady a o.after) (counts plan a.marks point x prohibits)
      (outcome (done told.count) (areas a.links marks a.spans a.rings a.rows a.arrivals told.area))
      (outcome (plain 11) a)
      (λ e. record { slots = refl; rows = same_rows a.rows (held_apart a); flags = marks_run point x prohibits e })
      (λ e. steady_none a)

  module _ (octets : List ℕ) (regular : RegularIn a octets) where
    -- a step that is carried out: its answer joins a link's queue, and a link's queue is cleared
    module _ (step : Step) (bears : Bears (count_of a.spans) step) where
      abbrev b : Areas
      b = with_answer plan step a

      answer_steady : Steady a b
      unfolding with_answer
      answer_steady =
          by_test (Steady a) step.answers (with_made plan step.draft a) a (λ e. made_steady a octets regular plan step.draft)
          (λ e. steady_none a)

      ended_steady : Steady a (ended_by plan step b).after
      unfolding ended_by
      ended_steady =
          by_test (λ (o : Outcome). Steady a o.after) step.ends (out_of_service plan b step.link step.parts) (outcome (done 0) b)
          (λ ends.
          steady_on a b (out_of_service plan b step.link step.parts).after answer_steady
          (out_steady step.link (bears ends).0 plan b step.parts))
          (λ e. answer_steady)

      carried_steady : Steady a (carried plan step a).after
      unfolding carried
      carried_steady =
          by_test (λ (o : Outcome). Steady a o.after) (eqb step.reply 0) (judged (answer_reply plan step a) (ended_by plan step b) a)
          (refused step.reply a)
          (λ e.
          by_test (λ (o : Outcome). Steady a o.after) (eqb (answer_reply plan step a) 0) (ended_by plan step b)
          (refused (answer_reply plan step a) a)
          (λ e. ended_steady)
          (λ e. steady_none a))
          (λ e. steady_none a)

    -- each of the nine management messages
    module _ (arriving fsn point slc : ℕ) where
      carries_out : (message : Message) → Steady a (carried plan (step_asked plan a.links a.marks arriving fsn point slc message) a).after
      carries_out message =
          carried_steady (step_asked plan a.links a.marks arriving fsn point slc message)
          (asked_bears (count_of a.spans) plan a.links a.marks
          (λ link h. sent_queued (record_at a.links link) (count_of a.spans link) (regular.each_link link h))
          arriving
          fsn
          point
          slc
          message)

      pub managed_steady : (message : Message) → Steady a (managed plan arriving fsn point slc message a).after
      unfolding managed asked
      managed_steady (COO f) = carries_out (COO f)
      managed_steady (COA f) = carries_out (COA f)
      managed_steady (CBD code) = carries_out (CBD code)
      managed_steady (CBA code) = answered_steady point slc code
      managed_steady ECO = carries_out ECO
      managed_steady ECA = carries_out ECA
      managed_steady (TFP x) = transferred_steady point x true
      managed_steady (TFA x) = transferred_steady point x false
      managed_steady (RST x) = carries_out (RST x)

    module _ (kinds : Kinds a.spans a.rings) (all : Each (Waits plan a) (held_apart a)) (message : List ℕ) where
      abbrev Wait : Outcome → Type 0
      Wait = WaitBy plan a octets regular kinds all

      -- whatever it is
      came_waits : (arriving fsn : ℕ) (came : Came) → Small came (length message) → Coded came
          → Wait (received_by plan arriving fsn (length message) came a)
      unfolding received_by Small Coded
      came_waits arriving fsn Malformed small coded = all
      came_waits arriving fsn Foreign small coded = all
      came_waits arriving fsn Delivered small coded = all
      came_waits arriving fsn (Managed order) small coded =
          let o : Outcome = managed plan arriving fsn order.point order.slc order.message a in
          steady_waits plan a o.after (managed_steady arriving fsn order.point order.slc order.message) all
      came_waits arriving fsn (Passed label) small coded =
          passed_waits plan a octets regular kinds all message small.1 label coded arriving

      -- taken, or not
      taken_waits : (arriving fsn : ℕ) (o : Outcome) → Wait o → Wait (taken_by arriving fsn o)
      taken_waits arriving fsn o waits =
          by_test (λ (b : Areas). Each (Waits plan b) (held_apart b)) (is_taken o.answer.reply) (with_taken arriving fsn o.after) o.after
          (λ e.
          steady_waits plan o.after (with_taken arriving fsn o.after)
          (steady_links o.after o.after (steady_none o.after) (with_taken arriving fsn o.after).links)
          waits)
          (λ e. waits)

      pub received_waits : (arriving fsn : ℕ) → Wait (received plan arriving fsn message a)
      unfolding received
      received_waits arriving fsn =
          let reply = reply_of plan a.links arriving fsn a.reports in
          let became : Outcome = received_by plan arriving fsn (length message) (from_link plan message) a in
          by_test Wait (eqb reply 0) (taken_by arriving fsn became) (refused reply a)
          (λ e.
          taken_waits arriving fsn became
          (came_waits arriving fsn (from_link plan message) (link_small plan message) (link_coded plan message)))
          (λ e. all)
