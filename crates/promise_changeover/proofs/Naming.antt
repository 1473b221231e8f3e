-- A changeover message that is answered with 0 takes the link out that it names, and its queue is cut as the message says.
-- Assumes nothing.
use mathlib.Core.Path.{◌≡◌, sym, ap, ◌∙◌, subst}
use mathlib.Core.Logic.{⊎_elim}
use mathlib.Core.Bool.{true}
use Prim.Native.Nat.{ℕ, ◌<◌}
use lib.Dec.{eqb}
use Rattle.plan.specs.declared.data.Plan.{Plan}
use Rattle.area_links.specs.declared.LinkRecord.{LinkRecord}
use Rattle.area_links.specs.LinkRecords.{record_at}
use Rattle.queue_rings.specs.Ring.{count_of}
use Rattle.wire_messages.specs.declared.management.Message.{Message}
use Rattle.replies.specs.Areas.{Areas}
use Rattle.lookup.specs.Lookup.{link_named}
use Rattle.changeover_cuts.specs.declared.Cut.{Cut}
use Rattle.changeover_cuts.specs.Cuts.{cut_at, cut_unknown}
use Rattle.managing.specs.Managed.{step_asked}
use Rattle.discrimination.specs.declared.Order.{Order}
use Rattle.node.specs.declared.call.Event.{Event}
use Rattle.node.specs.View.{view_of}
use Rattle.node.specs.Memory.{Memory}
use Rattle.node.specs.Call.{receives, call_of}
use Rattle.promise_runs.specs.Run.{Call, lent}
use Rattle.promise_runs.proofs.ByState.{waiting_is}
use Rattle.promise_runs.proofs.KeepsCalls.{RegularAt}
use Rattle.promise_accounts.specs.Ending.{Ending, ending_of}
use Rattle.promise_farend.specs.History.{result_of}
use Rattle.promise_changeover.specs.ChangedOver.{found, ending_by, WithNumber, WithoutNumber, Brings, InService}
use Rattle.promise_changeover.proofs.ByMessage.{Carried, Cuts, coo_carried, coa_carried, eco_carried, eca_carried}
use Rattle.promise_changeover.proofs.ByMessage.{coo_cuts, coa_cuts, eco_cuts, eca_cuts, received_cuts}

module _ (plan : Plan) (call : Call) (m : Memory) (regular : RegularAt (lent call m)) where
  abbrev a : Areas
  a = found call m

  -- nothing is sent over a waiting link
  none_sent : (link : ℕ) → link < 32 → (record_at a.links link).state ≡ 1 → (record_at a.links link).sent ≡ 0
  none_sent link h waits =
      (waiting_is (record_at a.links link) (count_of a.spans link) waits (regular.each_link link h)).none_sent

  -- how a call ends that cuts the queue of a link so, by the link's record
  abbrev pub EndsBy : (LinkRecord → Cut) → ℕ → Ending → Type 0
  EndsBy cut_of link ending =
      (ending.ends ≡ true) × (ending.link ≡ link) × (ending.parts ≡ cut_of (record_at a.links link))

  -- a message of a kind whose effect is its step
  module _ (Says : Message → Type 0) (cut_of : LinkRecord → Cut) where
    abbrev Does : ℕ → ℕ → Order → Message → Type 0
    Does arriving fsn order message =
        let named = link_named plan order.point order.slc in
        let step = step_asked plan a.links a.marks arriving fsn order.point order.slc message in
        Carried plan arriving fsn order a message × (eqb step.reply 0 ≡ true → Cuts named (cut_of (record_at a.links named)) step)

    kind_ends : ((arriving fsn : ℕ) (order : Order) → InService a (link_named plan order.point order.slc) → (message : Message) → Says message
        → Does arriving fsn order message)
        → (link : ℕ)
        → Brings plan call link Says
        → InService a link
        → (result_of plan call m).answer.reply ≡ 0
        → EndsBy cut_of link (ending_by plan call m)
    unfolding call_of receives
    kind_ends does link brings up done =
        let arriving = brings.arriving in
        let fsn = brings.fsn in
        let order = brings.order in
        let named = link_named plan order.point order.slc in
        let carries = does arriving fsn order (subst (InService a) (sym brings.names) up) order.message brings.says in
        let ends =
        received_cuts plan arriving fsn order a call.message brings.read carries.0 named (cut_of (record_at a.links named)) carries.1
        (sym (ap (λ (e : Event). (call_of plan e call.message (lent call m)).answer.reply) brings.received) ∙ done)
        in
        subst (λ (l : ℕ). EndsBy cut_of l (ending_by plan call m)) brings.names
        (subst (λ (e : Event). EndsBy cut_of named (ending_of plan a call.message (view_of e))) (sym brings.received) ends)

  -- a COO or COA, with its number
  pub number_ends : (f link : ℕ) → Brings plan call link (WithNumber f) → InService a link → (result_of plan call m).answer.reply ≡ 0
      → EndsBy (λ known. cut_at known f) link (ending_by plan call m)
  number_ends f =
      kind_ends (WithNumber f) (λ known. cut_at known f)
      (λ arriving fsn order up message.
      ⊎_elim
      (λ is.
      subst (Does (WithNumber f) (λ known. cut_at known f) arriving fsn order) (sym is)
      (coo_carried plan arriving fsn order a f, coo_cuts plan a arriving fsn order.point order.slc up none_sent f))
      (λ is.
      subst (Does (WithNumber f) (λ known. cut_at known f) arriving fsn order) (sym is)
      (coa_carried plan arriving fsn order a f, coa_cuts plan a arriving fsn order.point order.slc up none_sent f)))

  -- an ECO or ECA
  pub unnumbered_ends : (link : ℕ) → Brings plan call link WithoutNumber → InService a link → (result_of plan call m).answer.reply ≡ 0
      → EndsBy cut_unknown link (ending_by plan call m)
  unnumbered_ends =
      kind_ends WithoutNumber cut_unknown
      (λ arriving fsn order up message.
      ⊎_elim
      (λ is.
      subst (Does WithoutNumber cut_unknown arriving fsn order) (sym is)
      (eco_carried plan arriving fsn order a, eco_cuts plan a arriving fsn order.point order.slc up none_sent))
      (λ is.
      subst (Does WithoutNumber cut_unknown arriving fsn order) (sym is)
      (eca_carried plan arriving fsn order a, eca_cuts plan a arriving fsn order.point order.slc up none_sent)))
