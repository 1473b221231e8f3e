-- The card driver's record of a link agrees with the node's own numbers while the link is in service, over every run of calls from every
-- configuration.
-- Assumes nothing.
use mathlib.Core.Path.{◌≡◌, refl, ap}
use mathlib.Core.List.{List, [], ◌∷◌}
use Prim.Native.Nat.{ℕ, ◌<◌}
use Rattle.library_card.specs.declared.Record.{Record}
use Rattle.library_card.specs.Card as Card
use Rattle.plan.specs.declared.data.Plan.{Plan}
use Rattle.plan.specs.Sound as Plan
use Rattle.area_links.specs.declared.LinkRecord.{LinkRecord}
use Rattle.area_links.specs.LinkRecords.{record_at}
use Rattle.replies.specs.Areas.{Areas}
use Rattle.plan_configuration.specs.Configure.{configured}
use Rattle.plan_configuration.proofs.Made.{configured_sound}
use Rattle.node.specs.Memory.{Memory}
use Rattle.promise_runs.specs.Run.{Call, lent, called, ran, fresh, Whole}
use Rattle.promise_runs.proofs.Reached.{fresh_record, fresh_regular}
use Rattle.promise_runs.proofs.KeepsCalls.{RegularAt, call_regular}
use Rattle.promise_farend.specs.History.{History, begun, history_by, history_in}
use Rattle.promise_farend.specs.Card.{noted, noted_in, Agrees}
use Rattle.promise_farend.proofs.ServedCalls.{InService, call_served, run_served}
use Rattle.promise_farend.proofs.CardCalls.{Keeps, agrees, call_noted}

-- over a run of calls
module _ (plan : Plan) (sound : Plan.Sound plan) (link : ℕ) (h : link < 32) where
  run_noted : (calls : List Call) (m : Memory) (s : History) → RegularAt m → InService m.areas link s → (card : Record) → Keeps s card
      → Keeps (history_in plan calls m link s) (noted_in plan calls m link card)
  unfolding history_in noted_in called history_by noted
  run_noted [] m s regular before card keeps = keeps
  run_noted (call ∷ later) m s regular before card keeps =
      let within : InService (lent call m).areas link s =
      λ up. let was = before up in record { sent_is = was.sent_is; acknowledged_is = was.acknowledged_is }
      in
      let kept = call_noted plan call.message (lent call m) regular link h s within card keeps call.event in
      run_noted later (called plan call m) (history_by plan call m link s)
      (call_regular plan sound call.message (lent call m) regular call.event)
      (λ up.
      let now = call_served plan call.message (lent call m) regular link h s within call.event up in
      record { sent_is = now.sent_is; acknowledged_is = now.acknowledged_is })
      (noted plan call m link card)
      (record { sent_kept = kept.sent_kept; acknowledged_kept = kept.acknowledged_kept })

-- from a fresh node
module _ (m : Memory) (whole : Whole m) (text : List ℕ) (calls : List Call) (link : ℕ) (h : link < 32) where
  abbrev of_text : Plan
  of_text = (configured text).plan

  abbrev after : Areas
  after = (ran of_text calls (fresh m)).areas

  -- "The record of one link is brought up to date where it lies by the card driver's calls": begun anew as the link comes into service, it
  -- agrees with the node while the link is in service
  pub record_agrees : ((record_at after.links link).state ≡ 0 → ⊥) → Agrees after link (noted_in of_text calls (fresh m) link Card.begun)
  record_agrees up =
      let out : InService (fresh m).areas link begun =
      λ in_service.
      absurd (in_service (ap (λ (k : LinkRecord). k.state) (fresh_record m.areas.links whole.links_long link h)))
      in
      agrees after link (history_in of_text calls (fresh m) link begun) (noted_in of_text calls (fresh m) link Card.begun)
      (run_served of_text (configured_sound text) link h calls (fresh m) begun (fresh_regular m whole) out up)
      (run_noted of_text (configured_sound text) link h calls (fresh m) begun (fresh_regular m whole) out Card.begun
      (record { sent_kept = refl; acknowledged_kept = refl }))
