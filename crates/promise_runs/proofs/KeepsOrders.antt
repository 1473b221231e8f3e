-- A management message that is answered, that ends a changeover, or that does neither leaves a regular state regular.
-- Assumes nothing.
use mathlib.Core.Path.{◌≡◌}
use mathlib.Core.Bool.{true, cond, ◌&&◌, and-eq-true_iff}
use mathlib.Core.List.{List}
use Prim.Native.Nat.{ℕ, ◌<◌}
use lib.Dec.{eqb, ltb}
use borrow.Author.Tests.{ltb-true}
use Rattle.plan.specs.declared.data.Plan.{Plan}
use Rattle.area_links.specs.declared.LinkRecord.{LinkRecord}
use Rattle.area_links.specs.LinkRecords.{record_at}
use Rattle.wire_messages.specs.declared.management.Message.TheVariants.{COA, CBA, TFA}
use Rattle.replies.specs.Reply.{done}
use Rattle.replies.specs.Areas.{Areas, Outcome, outcome}
use Rattle.lookup.specs.Lookup.{link_named}
use Rattle.management_making.specs.declared.Draft.{Draft}
use Rattle.management_making.specs.Make.{with_made}
use Rattle.changeover_cuts.specs.declared.Cut.{Cut}
use Rattle.changeover_cuts.specs.Cuts.{cut_at, cut_unknown, cut_none}
use Rattle.changeover_ending.specs.End.{out_of_service}
use Rattle.management_steps.specs.declared.Step.{Step}
use Rattle.management_steps.specs.Step.{nothing, answer, answer_and_end, end, draft, order_step, ack_step}
use Rattle.management_asking.specs.Ask.{last_received, emergency_of, ask_coo, ask_eco, ask_coa, ask_eca}
use Rattle.management_requests.specs.Request.{ask_cbd, allows, ask_rst}
use Rattle.management_orders.specs.Carry.{answer_reply, with_answer, ended_by, carried}
use Rattle.promise_runs.proofs.Outcomes.{RegularIn, by_test, if_judged, unmet}
use Rattle.promise_runs.proofs.KeepsMaking.{made_regular}
use Rattle.promise_runs.proofs.KeepsEnding.{out_regular}

module _ (octets : List ℕ) where
  module _ (plan : Plan) (step : Step) where
    -- its answer
    with_answer_regular : (a : Areas) → RegularIn a octets → RegularIn (with_answer plan step a) octets
    unfolding with_answer
    with_answer_regular a regular =
        by_test (λ (b : Areas). RegularIn b octets) step.answers (with_made plan step.draft a) a
        (λ e. made_regular a octets regular plan step.draft)
        (λ e. regular)

    module _ (within : step.ends ≡ true → step.link < 32) where
      -- its end of a changeover
      ended_regular : (a : Areas) → RegularIn a octets → RegularIn (ended_by plan step a).after octets
      unfolding ended_by
      ended_regular a regular =
          by_test (λ (o : Outcome). RegularIn o.after octets) step.ends (out_of_service plan a step.link step.parts)
          (outcome (done 0) a)
          (λ e. out_regular a octets regular plan step.link (within e) step.parts)
          (λ e. regular)

      -- a step that is carried out
      pub carried_regular : (a : Areas) → RegularIn a octets → RegularIn (carried plan step a).after octets
      unfolding carried
      carried_regular a regular =
          if_judged octets step.reply _ a regular
          (λ asks.
          if_judged octets (answer_reply plan step a) _ a regular
          (λ done. ended_regular (with_answer plan step a) (with_answer_regular a regular)))

-- a step ends the changeover of a link that there is
abbrev pub OfLink : Step → Type 0
OfLink step = step.ends ≡ true → step.link < 32

order_of_link : (known : LinkRecord) (link : ℕ) → link < 32 → (own emergency : Draft) (parts : Cut)
    → OfLink (order_step known link own emergency parts)
unfolding order_step
order_of_link known link h own emergency parts =
    by_test OfLink (eqb known.state 0) (answer emergency) (answer_and_end own link (cond (eqb known.state 1) cut_none parts))
    (λ e. unmet)
    (λ e ends. h)

ack_of_link : (link : ℕ) (known : LinkRecord) (parts : Cut) → OfLink (ack_step link known parts)
unfolding ack_step
ack_of_link link known parts =
    by_test OfLink (ltb link 32 && eqb known.timer 2) (end link parts) nothing
    (λ e ends. ltb-true link 32 ((and-eq-true_iff (ltb link 32) (eqb known.timer 2)).0 e).0)
    (λ e. unmet)

module _ (plan : Plan) (links marks : List ℕ) (arriving fsn point slc : ℕ) where
  abbrev link : ℕ
  link = link_named plan point slc

  pub coo_of_link : (f : ℕ) → OfLink (ask_coo plan links arriving fsn point slc f)
  unfolding ask_coo
  coo_of_link f =
      by_test OfLink (ltb link 32)
      (order_step (record_at links link) link (draft (COA (last_received links arriving fsn link)) point slc link) (emergency_of point slc link)
      (cut_at (record_at links link) f))
      nothing
      (λ e. order_of_link (record_at links link) link (ltb-true link 32 e) _ _ _)
      (λ e. unmet)

  pub eco_of_link : OfLink (ask_eco plan links point slc)
  unfolding ask_eco
  eco_of_link =
      by_test OfLink (ltb link 32)
      (order_step (record_at links link) link (emergency_of point slc link) (emergency_of point slc link) (cut_unknown (record_at links link)))
      nothing
      (λ e. order_of_link (record_at links link) link (ltb-true link 32 e) _ _ _)
      (λ e. unmet)

  pub coa_of_link : (f : ℕ) → OfLink (ask_coa plan links point slc f)
  unfolding ask_coa
  coa_of_link f = ack_of_link link (record_at links link) (cut_at (record_at links link) f)

  pub eca_of_link : OfLink (ask_eca plan links point slc)
  unfolding ask_eca
  eca_of_link = ack_of_link link (record_at links link) (cut_unknown (record_at links link))

  pub cbd_of_link : (code : ℕ) → OfLink (ask_cbd plan point slc code)
  unfolding ask_cbd
  cbd_of_link code =
      by_test OfLink (ltb link 32) (answer (draft (CBA code) point slc 32)) nothing (λ e. unmet) (λ e. unmet)

  pub rst_of_link : (x : ℕ) → OfLink (ask_rst plan links marks point x)
  unfolding ask_rst
  rst_of_link x =
      by_test OfLink (allows plan links marks point x) (answer (draft (TFA x) point 0 32)) nothing (λ e. unmet) (λ e. unmet)
