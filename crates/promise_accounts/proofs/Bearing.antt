-- What a management message asks of a link's queue can be borne: no more is retired and dropped than stands there.
-- Assumes nothing.
use mathlib.Core.Path.{◌≡◌}
use mathlib.Core.Bool.{true, cond, ◌&&◌, and-eq-true_iff}
use mathlib.Core.List.{List}
use Prim.Native.Nat.{ℕ, ◌≤◌, ◌<◌}
use native.Mathlib.Omega.{arith}
use lib.Dec.{eqb, ltb}
use borrow.Author.Tests.{ltb-true}
use Rattle.plan.specs.declared.data.Plan.{Plan}
use Rattle.area_links.specs.declared.LinkRecord.{LinkRecord}
use Rattle.area_links.specs.LinkRecords.{record_at}
use Rattle.lookup.specs.Lookup.{link_named}
use Rattle.management_making.specs.declared.Draft.{Draft}
use Rattle.changeover_cuts.specs.declared.Cut.{Cut}
use Rattle.changeover_cuts.specs.Cuts.{cut_at, cut_unknown, cut_none}
use Rattle.management_steps.specs.declared.Step.{Step}
use Rattle.management_steps.specs.Step.{nothing, answer, answer_and_end, end, draft, order_step, ack_step}
use Rattle.management_asking.specs.Ask.{last_received, emergency_of, ask_coo, ask_eco, ask_coa, ask_eca}
use Rattle.management_requests.specs.Request.{ask_cbd, allows, ask_rst}
use Rattle.promise_runs.proofs.Outcomes.{by_test, unmet}
use Rattle.promise_accounts.proofs.EvenEnding.{Fits, cut_fits}
use Rattle.wire_messages.specs.declared.management.Message.{Message}
use Rattle.wire_messages.specs.declared.management.Message.TheVariants.{COO, COA, CBD, CBA, ECO, ECA, TFP, TFA, RST}
use Rattle.managing.specs.Managed.{asked, step_asked}

-- a step ends the changeover of a link that there is, with a cut that its queue can bear
abbrev pub Bears : (ℕ → ℕ) → Step → Type 0
Bears count step = step.ends ≡ true → (step.link < 32) × Fits step.parts (count step.link)

-- what each management message asks can be borne, where what is sent of a link is in its queue
module _ (count : ℕ → ℕ) where
  order_bears : (known : LinkRecord) (link : ℕ) → link < 32 → (own emergency : Draft) (parts : Cut) → Fits parts (count link)
      → Bears count (order_step known link own emergency parts)
  unfolding order_step
  order_bears known link h own emergency parts fits =
      by_test (Bears count) (eqb known.state 0) (answer emergency)
      (answer_and_end own link (cond (eqb known.state 1) cut_none parts))
      (λ e. unmet)
      (λ e.
      by_test (λ (c : Cut). Bears count (answer_and_end own link c)) (eqb known.state 1) cut_none parts
      (λ e ends. (h, omega arith))
      (λ e ends. (h, fits)))

  ack_bears : (link : ℕ) (known : LinkRecord) (parts : Cut) → (link < 32 → Fits parts (count link)) → Bears count (ack_step link known parts)
  unfolding ack_step
  ack_bears link known parts fits =
      by_test (Bears count) (ltb link 32 && eqb known.timer 2) (end link parts) nothing
      (λ e ends.
      let h = ltb-true link 32 ((and-eq-true_iff (ltb link 32) (eqb known.timer 2)).0 e).0 in
      (h, fits h))
      (λ e. unmet)

  module _ (plan : Plan) (links marks : List ℕ) (queued : (link : ℕ) → link < 32 → (record_at links link).sent ≤ count link)
      (arriving fsn point slc : ℕ) where
    abbrev link : ℕ
    link = link_named plan point slc

    at_fits : (f : ℕ) → link < 32 → Fits (cut_at (record_at links link) f) (count link)
    at_fits f h = cut_fits (record_at links link) (count link) f (queued link h)

    coo_bears : (f : ℕ) → Bears count (ask_coo plan links arriving fsn point slc f)
    unfolding ask_coo
    coo_bears f =
        by_test (Bears count) (ltb link 32)
        (order_step (record_at links link) link (draft (COA (last_received links arriving fsn link)) point slc link) (emergency_of point slc link)
        (cut_at (record_at links link) f))
        nothing
        (λ e.
        let h = ltb-true link 32 e in
        order_bears (record_at links link) link h (draft (COA (last_received links arriving fsn link)) point slc link) (emergency_of point slc link)
        (cut_at (record_at links link) f)
        (at_fits f h))
        (λ e. unmet)

    eco_bears : Bears count (ask_eco plan links point slc)
    unfolding ask_eco
    eco_bears =
        by_test (Bears count) (ltb link 32)
        (order_step (record_at links link) link (emergency_of point slc link) (emergency_of point slc link) (cut_unknown (record_at links link)))
        nothing
        (λ e.
        order_bears (record_at links link) link (ltb-true link 32 e) (emergency_of point slc link) (emergency_of point slc link)
        (cut_unknown (record_at links link))
        (omega (arith, queued link (ltb-true link 32 e))))
        (λ e. unmet)

    coa_bears : (f : ℕ) → Bears count (ask_coa plan links point slc f)
    unfolding ask_coa
    coa_bears f = ack_bears link (record_at links link) (cut_at (record_at links link) f) (at_fits f)

    eca_bears : Bears count (ask_eca plan links point slc)
    unfolding ask_eca
    eca_bears = ack_bears link (record_at links link) (cut_unknown (record_at links link)) (λ h. omega (arith, queued link h))

    cbd_bears : (code : ℕ) → Bears count (ask_cbd plan point slc code)
    unfolding ask_cbd
    cbd_bears code =
        by_test (Bears count) (ltb link 32) (answer (draft (CBA code) point slc 32)) nothing (λ e. unmet) (λ e. unmet)

    rst_bears : (x : ℕ) → Bears count (ask_rst plan links marks point x)
    unfolding ask_rst
    rst_bears x =
        by_test (Bears count) (allows plan links marks point x) (answer (draft (TFA x) point 0 32)) nothing (λ e. unmet) (λ e. unmet)

    -- whatever it is
    pub asked_bears : (message : Message) → Bears count (step_asked plan links marks arriving fsn point slc message)
    unfolding asked
    asked_bears (COO f) = coo_bears f
    asked_bears (COA f) = coa_bears f
    asked_bears (CBD code) = cbd_bears code
    asked_bears (CBA code) = unmet
    asked_bears ECO = eco_bears
    asked_bears ECA = eca_bears
    asked_bears (TFP x) = unmet
    asked_bears (TFA x) = unmet
    asked_bears (RST x) = rst_bears x
