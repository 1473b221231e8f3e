-- What each of COO, COA, ECO and ECA asks of the link that it names, where it is answered with 0: the link goes out, and its queue is cut at the
-- number if that is in range; not at all if it isn't; and without one behind what was sent.
-- Assumes nothing.
use mathlib.Core.Path.{◌≡◌, refl, sym, ap, ap₂, ◌∙◌}
use mathlib.Core.Bool.{Bool, true, false, cond, ◌&&◌}
use mathlib.Core.List.{List, [], ◌++◌}
use Prim.Native.Nat.{ℕ, ◌+◌, ◌≤◌, ◌<◌}
use native.Mathlib.Nat.{zero-add}
use native.Mathlib.Omega.{arith}
use lib.Dec.{eqb, ltb, lit<}
use lib.ListN.{length, take, drop}
use borrow.Author.Tests.{eqb-true, leb-true, ltb-true}
use Rattle.counting.specs.Counting.{in_range, distance, onward}
use Rattle.counting.proofs.Laws.{onward_distance, is_in_range}
use Rattle.plan.specs.declared.data.Plan.{Plan}
use Rattle.area_links.specs.declared.LinkRecord.{LinkRecord}
use Rattle.area_links.specs.LinkRecords.{record_at}
use Rattle.wire_messages.specs.declared.management.Message.{Message}
use Rattle.wire_messages.specs.declared.management.Message.TheVariants.{COO, COA, ECO, ECA}
use Rattle.replies.specs.Areas.{Areas, Outcome, judged, refused}
use Rattle.lookup.specs.Lookup.{link_named}
use Rattle.management_making.specs.declared.Draft.{Draft}
use Rattle.changeover_cuts.specs.declared.Cut.{Cut}
use Rattle.changeover_cuts.specs.Cuts.{cut, cut_at, cut_unknown, cut_none}
use Rattle.management_steps.specs.declared.Step.{Step}
use Rattle.management_steps.specs.Step.{nothing, answer, answer_and_end, end, draft, order_step, ack_step}
use Rattle.management_asking.specs.Ask.{last_received, emergency_of, ask_coo, ask_eco, ask_coa, ask_eca}
use Rattle.management_orders.specs.Carry.{answer_reply, with_answer, ended_by, carried}
use Rattle.managing.specs.Managed.{asked, step_asked, managed}
use Rattle.discrimination.specs.declared.Order.{Order}
use Rattle.discrimination.specs.declared.Came.{Came}
use Rattle.discrimination.specs.declared.Came.TheVariants.{Managed}
use Rattle.discrimination.specs.Discrimination.{from_link}
use Rattle.numbers.specs.Taken.{taken_by}
use Rattle.receiving.specs.Receive as Receive
use Rattle.node.specs.View.{Arrives}
use Rattle.promise_runs.proofs.Outcomes.{by_test, unmet}
use Rattle.promise_accounts.specs.Gone.{queue_of}
use Rattle.promise_accounts.specs.Ending.{Ending, no_ending, ending_by_step, ending_by_message, ending_of}
use Rattle.promise_accounts.proofs.TakingOut.{not_refused}
use Rattle.promise_changeover.specs.ChangedOver.{retiring, dropping, leaving, InService, Meets, AfterNumber, SentDropped}
use Rattle.promise_changeover.proofs.ChangedOver.{in_three}

-- a step takes a link out, and cuts its queue so
pub record Cuts (link : ℕ) (parts : Cut) (step : Step) : Type 0 where
  pub ends : step.ends ≡ true
  pub that_link : step.link ≡ link
  pub so : step.parts ≡ parts

-- a number in range lies no further on than what was sent, and cuts the queue there
module _ (known : LinkRecord) (f : ℕ) where
  abbrev pub far : ℕ
  far = distance 128 known.acknowledged f

  pub near : in_range 128 known.acknowledged known.sent f ≡ true → far ≤ known.sent
  near on = leb-true far known.sent (sym (is_in_range 128 (lit< tt) known.acknowledged known.sent f) ∙ on)

  pub at_number : in_range 128 known.acknowledged known.sent f ≡ true → cut_at known f ≡ cut far 0
  unfolding cut_at
  at_number on = ap (λ (t : Bool). cond t (cut far 0) cut_none) on

  -- one that isn't cuts nothing off
  pub beside_number : in_range 128 known.acknowledged known.sent f ≡ false → cut_at known f ≡ cut_none
  unfolding cut_at
  beside_number off = ap (λ (t : Bool). cond t (cut far 0) cut_none) off

  -- either way no more is cut off than was sent
  at_few : (cut_at known f).retired + (cut_at known f).dropped ≤ known.sent
  unfolding cut_at
  at_few =
      let on = in_range 128 known.acknowledged known.sent f in
      by_test (λ (c : Cut). c.retired + c.dropped ≤ known.sent) on (cut far 0) cut_none
      (λ e. omega (arith, near e))
      (λ e. omega arith)

-- a COO or ECO on a link that isn't out; on a waiting one nothing is cut off
order_cuts : (known : LinkRecord) → (known.state ≡ 0 → ⊥) → (link : ℕ) (own emergency : Draft) (parts : Cut)
    → (known.state ≡ 1 → parts.retired + parts.dropped ≡ 0)
    → Cuts link parts (order_step known link own emergency parts)
unfolding order_step
order_cuts known up link own emergency parts none =
    by_test (Cuts link parts) (eqb known.state 0) (answer emergency) (answer_and_end own link (cond (eqb known.state 1) cut_none parts))
    (λ out. absurd (up (eqb-true known.state 0 out)))
    (λ not_out.
    by_test (λ (c : Cut). Cuts link parts (answer_and_end own link c)) (eqb known.state 1) cut_none parts
    (λ waits.
    let nothing = none (eqb-true known.state 1 waits) in
    record {
      ends = refl;
      that_link = refl;
      so = ap₂ cut (omega (arith, nothing)) (omega (arith, nothing));
    })
    (λ carries. record { ends = refl; that_link = refl; so = refl }))

module _ (plan : Plan) (a : Areas) (arriving fsn point slc : ℕ) (up : InService a (link_named plan point slc))
    (none_sent : (link : ℕ) → link < 32 → (record_at a.links link).state ≡ 1 → (record_at a.links link).sent ≡ 0) where
  abbrev link : ℕ
  link = link_named plan point slc

  abbrev known : LinkRecord
  known = record_at a.links link

  -- with reply 0 each of the four takes the link out that it names
  abbrev CutsIfDone : Cut → Step → Type 0
  CutsIfDone parts step = eqb step.reply 0 ≡ true → Cuts link parts step

  abbrev asks : Message → Step
  asks message = step_asked plan a.links a.marks arriving fsn point slc message

  ordered : (own : Draft) (parts : Cut) → parts.retired + parts.dropped ≤ known.sent
      → CutsIfDone parts (cond (ltb link 32) (order_step known link own (emergency_of point slc link) parts) nothing)
  ordered own parts few =
      by_test (CutsIfDone parts) (ltb link 32) (order_step known link own (emergency_of point slc link) parts) nothing
      (λ named done.
      order_cuts known up link own (emergency_of point slc link) parts
      (λ waits. omega (arith, few, none_sent link (ltb-true link 32 named) waits)))
      (λ unnamed. unmet)

  acknowledged : (parts : Cut) → CutsIfDone parts (ack_step link known parts)
  unfolding ack_step
  acknowledged parts =
      by_test (CutsIfDone parts) (ltb link 32 && eqb known.timer 2) (end link parts) nothing
      (λ counts done. record { ends = refl; that_link = refl; so = refl })
      (λ ignored. unmet)

  pub coo_cuts : (f : ℕ) → CutsIfDone (cut_at known f) (asks (COO f))
  unfolding asked ask_coo
  coo_cuts f = ordered (draft (COA (last_received a.links arriving fsn link)) point slc link) (cut_at known f) (at_few known f)

  pub eco_cuts : CutsIfDone (cut_unknown known) (asks ECO)
  unfolding asked ask_eco
  eco_cuts = ordered (emergency_of point slc link) (cut_unknown known) (omega arith)

  pub coa_cuts : (f : ℕ) → CutsIfDone (cut_at known f) (asks (COA f))
  unfolding asked ask_coa
  coa_cuts f = acknowledged (cut_at known f)

  pub eca_cuts : CutsIfDone (cut_unknown known) (asks ECA)
  unfolding asked ask_eca
  eca_cuts = acknowledged (cut_unknown known)

-- a judged event that isn't refused answers what it does
does_answer : (reply : ℕ) (done : Outcome) (a : Areas) → eqb reply 0 ≡ true → (judged reply done a).answer.reply ≡ 0 → done.answer.reply ≡ 0
does_answer reply done a first answered = sym (ap (λ (t : Bool). (cond t done (refused reply a)).answer.reply) first) ∙ answered

-- a message that asks for a step, and is answered with 0
module _ (plan : Plan) (arriving fsn : ℕ) (order : Order) (a : Areas) where
  abbrev step : Step
  step = step_asked plan a.links a.marks arriving fsn order.point order.slc order.message

  -- it is one whose effect is its step
  abbrev pub Carried : Message → Type 0
  Carried message =
      managed plan arriving fsn order.point order.slc message a
      ≡ carried plan (step_asked plan a.links a.marks arriving fsn order.point order.slc message) a

  pub coo_carried : (f : ℕ) → Carried (COO f)
  unfolding managed asked
  coo_carried f = refl

  pub coa_carried : (f : ℕ) → Carried (COA f)
  unfolding managed asked
  coa_carried f = refl

  pub eco_carried : Carried ECO
  unfolding managed asked
  eco_carried = refl

  pub eca_carried : Carried ECA
  unfolding managed asked
  eca_carried = refl

  -- the step's own reply, and that of its answer, are 0
  carried_done : (carried plan step a).answer.reply ≡ 0 → (eqb step.reply 0 ≡ true) × (eqb (answer_reply plan step a) 0 ≡ true)
  unfolding carried
  carried_done done =
      let inner : Outcome = judged (answer_reply plan step a) (ended_by plan step (with_answer plan step a)) a in
      let first = not_refused step.reply inner a done in
      let next = does_answer step.reply inner a first done in
      (first, not_refused (answer_reply plan step a) (ended_by plan step (with_answer plan step a)) a next)

  module _ (message : List ℕ) (says : from_link plan message ≡ Managed order) (carries : Carried order.message) (link : ℕ) (parts : Cut)
      (cuts : eqb step.reply 0 ≡ true → Cuts link parts step) where
    abbrev reply : ℕ
    reply = Receive.reply_of plan a.links arriving fsn a.reports

    -- so the call takes the link out
    pub received_cuts : (Receive.received plan arriving fsn message a).answer.reply ≡ 0
        → let ending = ending_of plan a message (Arrives arriving fsn) in
        (ending.ends ≡ true) × (ending.link ≡ link) × (ending.parts ≡ parts)
    unfolding Receive.received Receive.received_by ending_of ending_by_message ending_by_step
    received_cuts done =
        let became : Outcome = Receive.received_by plan arriving fsn (length message) (from_link plan message) a in
        let first = not_refused reply (taken_by arriving fsn became) a done in
        let inner = does_answer reply (taken_by arriving fsn became) a first done in
        let as_step : became ≡ carried plan step a = ap (λ (c : Came). Receive.received_by plan arriving fsn (length message) c a) says ∙ carries in
        let both = carried_done (sym (ap (λ (o : Outcome). o.answer.reply) as_step) ∙ inner) in
        let so = cuts both.0 in
        let ending : ending_of plan a message (Arrives arriving fsn) ≡ ending_by_step plan a step =
        ap (λ (t : Bool). cond t (ending_by_message plan a arriving fsn (from_link plan message)) (no_ending a)) first
        ∙ ap (ending_by_message plan a arriving fsn) says
        in (
          ap (λ (e : Ending). e.ends) ending ∙ simp (both.0, both.1, so.ends),
          ap (λ (e : Ending). e.link) ending ∙ so.that_link,
          ap (λ (e : Ending). e.parts) ending ∙ so.so,
        )

-- where the queue is cut at a number in range
module _ (a : Areas) (ending : Ending) (link f : ℕ) (met : Meets a link f) where
  abbrev its : LinkRecord
  its = record_at a.links link

  pub after_number : ending.ends ≡ true → ending.link ≡ link → ending.parts ≡ cut_at its f
      → length (retiring a ending) ≡ ending.parts.retired
      → AfterNumber a ending link f
  after_number ends that_link so many =
      let is = so ∙ at_number its f met.is_in_range in
      let retired : ending.parts.retired ≡ far its f = ap (λ (c : Cut). c.retired) is in
      let dropped : ending.parts.dropped ≡ 0 = ap (λ (c : Cut). c.dropped) is in
      let none : dropping a ending ≡ [] =
      ap (λ (n : ℕ). take n (drop ending.parts.retired (queue_of a ending.link))) dropped
      in
      record {
        ends = ends;
        that_link = that_link;
        up_to = ap (onward 128 its.acknowledged) (many ∙ retired) ∙ onward_distance 128 (lit< tt) its.acknowledged f;
        all_sent = omega (arith, near its f met.is_in_range, many, retired);
        none_dropped = none;
        rest_leaves =
            ap (queue_of a) (sym that_link)
            ∙ in_three ending.parts.retired ending.parts.dropped (queue_of a ending.link)
            ∙ ap (λ (l : List ℕ). retiring a ending ++ (l ++ leaving a ending)) none;
      }

-- where it is cut behind what was sent
pub sent_dropped : (a : Areas) (ending : Ending) (link : ℕ) → ending.ends ≡ true → ending.link ≡ link
    → ending.parts ≡ cut_unknown (record_at a.links link)
    → SentDropped a ending link
sent_dropped a ending link ends that_link so =
    let sent : ℕ = (record_at a.links link).sent in
    let queue : List ℕ = queue_of a ending.link in
    let here : queue_of a ending.link ≡ queue_of a link = ap (queue_of a) that_link in
    record {
      ends = ends;
      that_link = that_link;
      none_retired = ap (λ (c : Cut). take c.retired queue) so;
      sent_are = ap (λ (c : Cut). take c.dropped (drop c.retired queue)) so ∙ ap (take sent) here;
      unsent_leave =
          ap (λ (c : Cut). drop (c.retired + c.dropped) queue) so
          ∙ ap (drop (0 + sent)) here
          ∙ ap (λ (n : ℕ). drop n (queue_of a link)) (zero-add sent);
    }
