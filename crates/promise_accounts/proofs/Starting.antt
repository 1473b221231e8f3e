-- Where a link goes out, its answer stands before all that moves, and its own queue is still as it was.
-- Assumes nothing.
use mathlib.Core.Path.{◌≡◌, refl, sym, ap, ◌∙◌}
use mathlib.Core.Bool.{true, cond, ◌&&◌, and-eq-true_iff}
use mathlib.Core.List.{List, [], ◌++◌, append-nil}
use Prim.Native.Nat.{ℕ, ◌<◌}
use native.Mathlib.Omega.{arith}
use lib.Dec.{eqb, ltb}
use lib.ListN.{length, drop}
use lib.Seq.{drop-length, drop-append_seam}
use Rattle.plan.specs.declared.data.Plan.{Plan}
use Rattle.area_links.specs.declared.LinkRecord.{LinkRecord}
use Rattle.area_links.specs.LinkRecords.{record_at}
use Rattle.queue_rings.specs.Ring.{count_of}
use Rattle.wire_messages.specs.declared.management.Message.{Message}
use Rattle.wire_messages.specs.declared.management.Message.TheVariants.{COO, COA, CBD, CBA, ECO, ECA, TFP, TFA, RST}
use Rattle.replies.specs.Areas.{Areas}
use Rattle.lookup.specs.Lookup.{link_named}
use Rattle.management_making.specs.declared.Draft.{Draft}
use Rattle.changeover_cuts.specs.declared.Cut.{Cut}
use Rattle.changeover_cuts.specs.Cuts.{cut_at, cut_unknown, cut_none}
use Rattle.management_steps.specs.declared.Step.{Step}
use Rattle.management_steps.specs.Step.{nothing, answer, answer_and_end, end, draft, order_step, ack_step}
use Rattle.management_asking.specs.Ask.{last_received, emergency_of, ask_coo, ask_eco, ask_coa, ask_eca}
use Rattle.management_requests.specs.Request.{ask_cbd, allows, ask_rst}
use Rattle.management_orders.specs.Carry.{answer_reply}
use Rattle.managing.specs.Managed.{asked, step_asked}
use Rattle.discrimination.specs.declared.Order.{Order}
use Rattle.discrimination.specs.declared.Came.{Came}
use Rattle.discrimination.proofs.BySort.{by_managed}
use Rattle.discrimination.specs.Discrimination.{from_link}
use Rattle.receiving.specs.Receive as Receive
use Rattle.node.specs.View.{View, Comes, Fails, Sends, Acknowledges, Arrives, HandedOver, Overdue, Expires}
use Rattle.promise_runs.proofs.Outcomes.{RegularIn, by_test, unmet}
use Rattle.promise_accounts.specs.Gone.{queue_of}
use Rattle.promise_accounts.specs.Ending.{Ending, no_ending, ending_by_timer, ending_by_failure, ending_by_step, ending_by_message, ending_of, answered_on, Starts}
use Rattle.promise_accounts.proofs.Answers.{answer_joined, answer_apart, answer_never}
use Rattle.promise_accounts.proofs.Bearing.{Bears, asked_bears}
use Rattle.promise_accounts.proofs.EvenEnding.{sent_queued}

-- an answer to a message that ends a changeover never uses the link
abbrev pub Spares : Step → Type 0
Spares step = step.ends ≡ true → step.answers ≡ true → step.draft.never ≡ step.link

order_spares : (known : LinkRecord) (link : ℕ) (own emergency : Draft) (parts : Cut) → own.never ≡ link
    → Spares (order_step known link own emergency parts)
unfolding order_step
order_spares known link own emergency parts never =
    by_test Spares (eqb known.state 0) (answer emergency) (answer_and_end own link (cond (eqb known.state 1) cut_none parts))
    (λ e. unmet)
    (λ e ends answers. never)

ack_spares : (link : ℕ) (known : LinkRecord) (parts : Cut) → Spares (ack_step link known parts)
unfolding ack_step
ack_spares link known parts =
    by_test Spares (ltb link 32 && eqb known.timer 2) (end link parts) nothing (λ e ends. unmet) (λ e. unmet)

module _ (plan : Plan) (links marks : List ℕ) (arriving fsn point slc : ℕ) where
  abbrev link : ℕ
  link = link_named plan point slc

  abbrev known : LinkRecord
  known = record_at links link

  pub asked_spares : (message : Message) → Spares (step_asked plan links marks arriving fsn point slc message)
  unfolding asked ask_coo ask_coa ask_cbd ask_eco ask_eca ask_rst emergency_of
  asked_spares (COO f) =
      by_test Spares (ltb link 32)
      (order_step known link (draft (COA (last_received links arriving fsn link)) point slc link) (emergency_of point slc link) (cut_at known f))
      nothing
      (λ e.
      order_spares known link (draft (COA (last_received links arriving fsn link)) point slc link) (emergency_of point slc link) (cut_at known f) refl)
      (λ e. unmet)
  asked_spares (COA f) = ack_spares link known (cut_at known f)
  asked_spares (CBD code) =
      by_test Spares (ltb link 32) (answer (draft (CBA code) point slc 32)) nothing (λ e. unmet) (λ e. unmet)
  asked_spares (CBA code) = unmet
  asked_spares ECO =
      by_test Spares (ltb link 32)
      (order_step known link (emergency_of point slc link) (emergency_of point slc link) (cut_unknown known))
      nothing
      (λ e. order_spares known link (emergency_of point slc link) (emergency_of point slc link) (cut_unknown known) refl)
      (λ e. unmet)
  asked_spares ECA = ack_spares link known (cut_unknown known)
  asked_spares (TFP x) = unmet
  asked_spares (TFA x) = unmet
  asked_spares (RST x) =
      by_test Spares (allows plan links marks point x) (answer (draft (TFA x) point 0 32)) nothing (λ e. unmet) (λ e. unmet)

-- a list that is as it was has nothing behind it
none_new : (list new : List ℕ) → list ++ new ≡ list → new ≡ []
none_new list new same = sym (drop-append_seam list new) ∙ ap (drop (length list)) same ∙ drop-length list

module _ (plan : Plan) (a : Areas) (octets : List ℕ) (regular : RegularIn a octets) where
  -- nothing is made before it
  unchanged : (ring : ℕ) → ring < 33 → queue_of a ring ≡ queue_of a ring ++ []
  unchanged ring h = sym (append-nil (queue_of a ring))

  step_starts : (step : Step) → Bears (count_of a.spans) step → Spares step
      → (ending_by_step plan a step).ends ≡ true
      → Starts a (ending_by_step plan a step)
  unfolding ending_by_step answered_on
  step_starts step bears spares ends =
      let first = (and-eq-true_iff (eqb step.reply 0) (eqb (answer_reply plan step a) 0 && step.ends)).0 ends in
      let next = (and-eq-true_iff (eqb (answer_reply plan step a) 0) step.ends).0 first.1 in
      let h = (bears next.1).0 in
      let own = answer_never a octets regular plan step step.link h (spares next.1) in
      record {
        own = own;
        never_own =
            none_new (queue_of a step.link) _ (sym (answer_joined a octets regular plan step step.link (omega (arith, h))) ∙ own);
        never_apart = answer_apart a octets regular plan step;
        others = answer_joined a octets regular plan step;
      }

  message_starts : (arriving fsn : ℕ) (came : Came) → (ending_by_message plan a arriving fsn came).ends ≡ true
      → Starts a (ending_by_message plan a arriving fsn came)
  unfolding ending_by_message
  message_starts arriving fsn =
      by_managed (λ (e : Ending). e.ends ≡ true → Starts a e) (no_ending a) unmet
      (λ (order : Order).
      ending_by_step plan a (step_asked plan a.links a.marks arriving fsn order.point order.slc order.message))
      (λ order.
      step_starts (step_asked plan a.links a.marks arriving fsn order.point order.slc order.message)
      (asked_bears (count_of a.spans) plan a.links a.marks
      (λ link h. sent_queued (record_at a.links link) (count_of a.spans link) (regular.each_link link h))
      arriving
      fsn
      order.point
      order.slc
      order.message)
      (asked_spares plan a.links a.marks arriving fsn order.point order.slc order.message))

  -- by every kind of event
  pub ending_starts : (message : List ℕ) (view : View) → (ending_of plan a message view).ends ≡ true
      → Starts a (ending_of plan a message view)
  unfolding ending_of ending_by_timer ending_by_failure answered_on
  ending_starts message (Arrives link fsn) ends =
      by_test (λ (e : Ending). e.ends ≡ true → Starts a e) (eqb (Receive.reply_of plan a.links link fsn a.reports) 0)
      (ending_by_message plan a link fsn (from_link plan message))
      (no_ending a)
      (λ done. message_starts link fsn (from_link plan message))
      (λ refused. unmet)
      ends
  ending_starts message (Fails link) ends = record { own = refl; never_own = refl; never_apart = refl; others = unchanged }
  ending_starts message (Overdue link timer) ends = record { own = refl; never_own = refl; never_apart = refl; others = unchanged }
  ending_starts message (Comes link) ends = unmet ends
  ending_starts message (Sends link) ends = unmet ends
  ending_starts message (Acknowledges link b) ends = unmet ends
  ending_starts message HandedOver ends = unmet ends
  ending_starts message Expires ends = unmet ends
