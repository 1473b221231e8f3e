-- Over any run of calls from any configuration: a new message that gets reply 0 joins its queue with the next number, and with another
-- reply no queue changes, but for the TFP of reply 9.
-- Assumes nothing.
use mathlib.Core.Path.{◌≡◌, refl, sym, ap, subst}
use mathlib.Core.Bool.{true, false, cond, not}
use mathlib.Core.List.{List}
use Prim.Native.Nat.{ℕ}
use lib.Dec.{eqb}
use lib.ListN.{length}
use borrow.Author.Tests.{ne_eqb, eqb-true}
use Rattle.plan.specs.declared.data.Plan.{Plan}
use Rattle.wire.specs.declared.header.Label.{Label}
use Rattle.replies.specs.Areas.{Areas}
use Rattle.numbers.specs.Taken.{with_taken}
use Rattle.discrimination.specs.declared.Came.TheVariants.{Malformed, Passed}
use Rattle.discrimination.specs.Sorted.{of_passed}
use Rattle.discrimination.specs.Discrimination.{from_link, from_host}
use Rattle.plan_configuration.specs.Configure.{configured}
use Rattle.node.specs.declared.call.Event.{Event}
use Rattle.node.specs.declared.call.Event.TheVariants.{IntoService, Failure, Send, Acknowledgement, Received, FromHost, T1, T2, T3, T4, T6, T8, T10}
use Rattle.node.specs.View.{view_of}
use Rattle.node.specs.Memory.{Memory, memory}
use Rattle.node.specs.Call.{receives, takes_over, call_of}
use Rattle.promise_runs.specs.Run.{Call, lent, called, ran, fresh, Whole}
use Rattle.promise_runs.proofs.KeepsCalls.{RegularAt}
use Rattle.promise_runs.proofs.Outcomes.{unmet, by_test}
use Rattle.queue_store.specs.Sound.{Kinds}
use Rattle.promise_table.specs.Unchanged.{leaves_all, with_tfp_of, left_by}
use Rattle.promise_table.proofs.Unchanged.{host_unchanged}
use Rattle.promise_table.proofs.Taken.{left_by_lem}
use Rattle.promise_table.proofs.OthersUnchanged.{into_service_lem, failure, changeover, t6, t10, send, acknowledgement, wait, t8}
use Rattle.promise_queueing.specs.Joining.{came_by, joins_at, joins, Joins, joins_tfp, TFPJoins, NoneJoins}
use Rattle.promise_queueing.proofs.JoiningCalls.{received_joins, sent_joins, sent_labelled}
use Rattle.promise_queueing.proofs.JoiningTFP.{nine_joins}
use Rattle.promise_queueing.proofs.Holding.{reached, accounted}

-- a message that is none for another point has no label
no_label : {A : Type 0} (label : Label) → Malformed ≡ Passed label → A
no_label label e = unmet (ap (of_passed false (λ (l : Label). true)) e)

module _
    (plan : Plan)
    (message : List ℕ)
    (m : Memory)
    (regular : RegularAt m)
    (kinds : Kinds m.areas.spans m.areas.rings)
    (one : length m.areas.arrivals ≡ 1) where
  -- every event that brings a message for another point
  call_joins : (event : Event) (label : Label) → came_by plan message (view_of event) ≡ Passed label
      → (call_of plan event message m).answer.reply ≡ 0 → Joins plan label m.areas (call_of plan event message m).after.areas
  unfolding came_by call_of receives takes_over
  call_joins (Received link fsn) label is =
      received_joins plan m.areas m.octets regular.store kinds one message label link fsn is
  call_joins FromHost label is = sent_joins plan m.areas m.octets regular.store kinds one message label is
  call_joins (IntoService link) label is = no_label label is
  call_joins (Failure link) label is = no_label label is
  call_joins (Send link) label is = no_label label is
  call_joins (Acknowledgement link b) label is = no_label label is
  call_joins (T1 link) label is = no_label label is
  call_joins (T2 link) label is = no_label label is
  call_joins (T3 link) label is = no_label label is
  call_joins (T4 link) label is = no_label label is
  call_joins (T6 x) label is = no_label label is
  call_joins (T8 x) label is = no_label label is
  call_joins (T10 x set) label is = no_label label is

  -- the host's messages that get reply 0 are among them
  host_labelled : (call_of plan FromHost message m).answer.reply ≡ 0 → (label : Label) × (from_host plan message ≡ Passed label)
  unfolding call_of takes_over
  host_labelled = sent_labelled plan m.areas m.octets regular.store kinds one message

-- areas that are as they were
none_joins : (a : Areas) → NoneJoins a a
none_joins a = record { queues_same = λ ring l. refl; number_same = refl }

module _ (plan : Plan) (message : List ℕ) (m : Memory) where
  abbrev None : Memory → Type 0
  None after = NoneJoins m.areas after.areas

  -- a memory that is as it was
  unchanged : (after : Memory) → after ≡ m → None after
  unchanged after same = subst None (sym same) (none_joins m.areas)

  -- a message from a link with another reply than 0 or 9
  received_none : (link fsn reply : ℕ) → (reply ≡ 9 → ⊥) → None (left_by plan link fsn (from_link plan message) m reply)
  received_none link fsn reply other =
      let a = m.areas in
      by_test None (leaves_all reply) m
      (memory (with_taken link fsn (cond (eqb reply 9) (with_tfp_of plan link (from_link plan message) a) a)) m.octets m.out)
      (λ e. none_joins a)
      (λ e.
      by_test (λ (b : Areas). NoneJoins a (with_taken link fsn b)) (eqb reply 9) (with_tfp_of plan link (from_link plan message) a) a
      (λ nine. absurd (other (eqb-true reply 9 nine)))
      (λ no. record { queues_same = λ ring l. refl; number_same = refl }))

  -- every event
  refused_none : (event : Event) → ((call_of plan event message m).answer.reply ≡ 0 → ⊥)
      → ((call_of plan event message m).answer.reply ≡ 9 → ⊥) → None (call_of plan event message m).after
  unfolding call_of
  refused_none (Received link fsn) some other =
      let r = call_of plan (Received link fsn) message m in
      subst None (sym (left_by_lem plan link fsn message m some)) (received_none link fsn r.answer.reply other)
  refused_none FromHost some other = unchanged _ (host_unchanged plan message m some)
  refused_none (IntoService link) some other = unchanged _ ((into_service_lem plan m link).left (ap not (ne_eqb _ 0 some)))
  refused_none (Failure link) some other = unchanged _ ((failure plan m link).left (ap not (ne_eqb _ 0 some)))
  refused_none (Send link) some other = unchanged _ (send plan m link (ap not (ne_eqb _ 0 some)))
  refused_none (Acknowledgement link b) some other = unchanged _ (acknowledgement plan m link b (ap not (ne_eqb _ 0 some)))
  refused_none (T1 link) some other = unchanged _ ((changeover plan m link 1).left (ap not (ne_eqb _ 0 some)))
  refused_none (T2 link) some other = unchanged _ ((changeover plan m link 2).left (ap not (ne_eqb _ 0 some)))
  refused_none (T3 link) some other = unchanged _ (wait plan m link 3 (ap not (ne_eqb _ 0 some)))
  refused_none (T4 link) some other = unchanged _ (wait plan m link 4 (ap not (ne_eqb _ 0 some)))
  refused_none (T6 x) some other = unchanged _ ((t6 plan m x).left (ap not (ne_eqb _ 0 some)))
  refused_none (T8 x) some other = unchanged _ (t8 plan m x (ap not (ne_eqb _ 0 some)))
  refused_none (T10 x set) some other = unchanged _ ((t10 plan m x set).left (ap not (ne_eqb _ 0 some)))

module _ (m : Memory) (whole : Whole m) (one : length m.areas.arrivals ≡ 1) (text : List ℕ) (earlier : List Call) (call : Call) where
  abbrev plan : Plan
  plan = (configured text).plan

  abbrev before : Memory
  before = ran plan earlier (fresh m)

  abbrev reply : ℕ
  reply = (call_of plan call.event call.message (lent call before)).answer.reply

  -- with reply 0 it joins its queue
  pub new_joins : (label : Label) → came_by plan call.message (view_of call.event) ≡ Passed label → reply ≡ 0
      → Joins plan label before.areas (called plan call before).areas
  unfolding called joins_at joins
  new_joins label is none =
      let new =
      call_joins plan call.message (lent call before) (reached m whole one text earlier) (accounted m whole one text earlier).apart
      (accounted m whole one text earlier).one
      call.event
      label
      is
      none
      in
      record { somewhere = new.somewhere; queues = new.queues; counted = new.counted }

  -- and every message of the host that gets it does
  pub host_joins : (call_of plan FromHost call.message (lent call before)).answer.reply ≡ 0
      → (label : Label)
      × ((from_host plan call.message ≡ Passed label)
      × Joins plan label before.areas (call_of plan FromHost call.message (lent call before)).after.areas)
  unfolding came_by joins_at joins
  host_joins none =
      let now : Memory = lent call before in
      let all = accounted m whole one text earlier in
      let regular = reached m whole one text earlier in
      let named = host_labelled plan call.message now regular all.apart all.one none in
      let new = call_joins plan call.message now regular all.apart all.one FromHost named.0 named.1 none in
      (named.0, (named.1, record { somewhere = new.somewhere; queues = new.queues; counted = new.counted }))

  -- with another no queue changes, but for 9's TFP
  pub refused_joins_none : (reply ≡ 0 → ⊥) → (reply ≡ 9 → ⊥) → NoneJoins before.areas (called plan call before).areas
  unfolding called
  refused_joins_none some other =
      let same = refused_none plan call.message (lent call before) call.event some other in
      record { queues_same = same.queues_same; number_same = same.number_same }

  -- from the host no queue changes with 9 either
  pub host_joins_none : ((call_of plan FromHost call.message (lent call before)).answer.reply ≡ 0 → ⊥)
      → NoneJoins before.areas (call_of plan FromHost call.message (lent call before)).after.areas
  host_joins_none some =
      let same = unchanged plan call.message (lent call before) _ (host_unchanged plan call.message (lent call before) some) in
      record { queues_same = same.queues_same; number_same = same.number_same }

  -- with 9 from a link the TFP joins, where one is due
  pub tfp_joins : (link fsn : ℕ) → (call_of plan (Received link fsn) call.message (lent call before)).answer.reply ≡ 9
      → (label : Label)
      × ((from_link plan call.message ≡ Passed label)
      × TFPJoins plan link label.dpc before.areas (call_of plan (Received link fsn) call.message (lent call before)).after.areas)
  unfolding joins_tfp
  tfp_joins link fsn nine =
      let all = accounted m whole one text earlier in
      let new = nine_joins plan link fsn call.message (lent call before) (reached m whole one text earlier).store all.one nine in
      let joins = new.1.1 in
      (new.0, (new.1.0, record { finds_path = joins.finds_path; queues = joins.queues; counted = joins.counted }))
