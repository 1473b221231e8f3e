-- A management message for us: its reply is the first of its rows that applies. "CBA only while its CBD is unanswered, else 11."
-- Assumes nothing.
use Prim.Native.Nat.{ℕ}
use mathlib.Core.Bool.{Bool, true, false, cond, not, ◌&&◌}
use mathlib.Core.List.{List, [], ◌∷◌}
use mathlib.Core.Path.{◌≡◌, refl, ap, ◌∙◌}
use lib.Dec.{eqb, ltb}
use borrow.Author.Tests.{eqb-true}
use borrow.Table.Steps.{cases}
use Rattle.plan.specs.declared.data.Plan.{Plan}
use Rattle.area_links.specs.LinkRecords.{record_at}
use Rattle.wire_messages.specs.declared.management.Message.{Message}
use Rattle.wire_messages.specs.declared.management.Message.TheVariants.{COO, COA, CBD, CBA, ECO, ECA, TFP, TFA, RST}
use Rattle.replies.specs.Reply.{Row, row, first}
use Rattle.replies.specs.Areas.{Areas, Outcome}
use Rattle.lookup.specs.Lookup.{link_named}
use Rattle.queue_joining.specs.Queue.{no_management_place, no_number}
use Rattle.management_steps.specs.declared.Step.{Step}
use Rattle.management_steps.specs.Step.{order_step, ack_step}
use Rattle.management_asking.specs.Ask.{ask_coo, ask_coa, ask_eco, ask_eca}
use Rattle.management_requests.specs.Request.{ask_cbd, allows, ask_rst}
use Rattle.management_orders.specs.Carry.{answer_reply, carried}
use Rattle.changeback_waiting.specs.Wait.{answers, answered_by}
use Rattle.rerouting_marking.specs.Mark.{counts}
use Rattle.rerouting.specs.Transfer.{transferred}
use Rattle.managing.specs.Managed.{asked, step_asked, managed}
use Rattle.promise_table.specs.Received.{path_for, answer_needs, names_nothing}
use Rattle.promise_table.proofs.Either.{either, of_either}
use Rattle.promise_table.proofs.Judged.{judged_done}
use Rattle.promise_table.proofs.GoesOut.{ended_done}
use Rattle.promise_table.proofs.RouteReplies.{making}
use Rattle.promise_table.proofs.NamesNothing.{coo_eleven, coa_eleven, cbd_eleven, cba_eleven, eco_eleven, eca_eleven, tfp_eleven, tfa_eleven, rst_eleven}

-- a step replies 11, or 0 and nothing else
abbrev pub Plain : Step → Type 0
Plain step = eqb step.reply 11 ≡ not (eqb step.reply 0)

module _ (plan : Plan) (links marks : List ℕ) (arriving fsn point slc : ℕ) where
  abbrev link : ℕ
  link = link_named plan point slc

  abbrev state_is : ℕ → Bool
  state_is n = eqb (record_at links link).state n

  pub asked_plain : (message : Message) → Plain (step_asked plan links marks arriving fsn point slc message)
  unfolding asked ask_coo ask_coa ask_eco ask_eca ask_cbd ask_rst order_step ack_step
  asked_plain (COO f) = either Plain (ltb link 32) _ _ (either Plain (state_is 0) _ _ refl refl) refl
  asked_plain (COA f) = either Plain (ltb link 32 && eqb (record_at links link).timer 2) _ _ refl refl
  asked_plain (CBD code) = either Plain (ltb link 32) _ _ refl refl
  asked_plain (CBA code) = refl
  asked_plain ECO = either Plain (ltb link 32) _ _ (either Plain (state_is 0) _ _ refl refl) refl
  asked_plain ECA = either Plain (ltb link 32 && eqb (record_at links link).timer 2) _ _ refl refl
  asked_plain (TFP x) = refl
  asked_plain (TFA x) = refl
  asked_plain (RST x) = either Plain (allows plan links marks point x) _ _ refl refl

-- the rows that can apply to a management message: it names nothing; it needs a place or number
abbrev rows : Bool → Bool → Areas → List Row
rows nothing needs a = row 11 nothing ∷ row 8 (needs && no_management_place a.spans) ∷ row 10 (needs && no_number a.arrivals) ∷ []

-- an answer needs a place and a number where it has a path
answer_rows : (answers path full spent : Bool)
    → cond answers (first (row 8 (path && full) ∷ row 10 (path && spent) ∷ [])) 0
    ≡ first (row 8 ((answers && path) && full) ∷ row 10 ((answers && path) && spent) ∷ [])
unfolding first
answer_rows true path full spent = refl
answer_rows false path full spent = refl

pub answer_first : (plan : Plan) (step : Step) (a : Areas)
    → answer_reply plan step a
    ≡ first (row 8 (answer_needs plan a step && no_management_place a.spans) ∷ row 10 (answer_needs plan a step && no_number a.arrivals) ∷ [])
unfolding answer_reply
answer_first plan step a =
    ap (λ (n : ℕ). cond step.answers n 0) (making plan step.draft a)
    ∙ answer_rows step.answers (path_for plan a step.draft) (no_management_place a.spans) (no_number a.arrivals)

-- 11 of a step, else its answer's reply
eleven_first : (reply : ℕ) → eqb reply 11 ≡ not (eqb reply 0) → (later : List Row)
    → cond (eqb reply 0) (first later) reply ≡ first (row 11 (eqb reply 11) ∷ later)
unfolding first
eleven_first reply is later =
    cases (eqb reply 0)
    (λ e. simp (is, e))
    (λ e. let eleven : eqb reply 11 ≡ true = is ∙ ap not e in simp (e, eleven) (eqb-true reply 11 eleven))

module _ (plan : Plan) (link fsn : ℕ) (a : Areas) where
  abbrev reply : Outcome → ℕ
  reply o = o.answer.reply

  step_reply : (step : Step) → Plain step
      → reply (carried plan step a) ≡ first (rows (eqb step.reply 11) (answer_needs plan a step) a)
  unfolding carried
  step_reply step is =
      of_either reply (eqb step.reply 0) _ _
      (judged_done (answer_reply plan step a) _ a (ended_done plan step _) ∙ answer_first plan step a)
      refl
      ∙ eleven_first step.reply is _

  -- a message that asks for no answer: 11 where it doesn't count
  unless : (counts : Bool) → cond counts 0 11 ≡ first (rows (not counts) false a)
  unfolding first
  unless true = refl
  unless false = refl

  module _ (point slc : ℕ) where
    abbrev step : Message → Step
    step message = step_asked plan a.links a.marks link fsn point slc message

    abbrev pub managed_rows : Message → List Row
    managed_rows message = rows (names_nothing plan a point slc message) (answer_needs plan a (step message)) a

    by_step : (message : Message)
        → reply (carried plan (step_asked plan a.links a.marks link fsn point slc message) a)
        ≡ first (rows (eqb (step message).reply 11) (answer_needs plan a (step message)) a)
    by_step message = step_reply (step message) (asked_plain plan a.links a.marks link fsn point slc message)

    transfer_reply : (x : ℕ) (prohibits : Bool)
        → reply (transferred plan point x prohibits a) ≡ first (rows (not (counts plan a.marks point x prohibits)) false a)
    unfolding transferred
    transfer_reply x prohibits =
        of_either reply (counts plan a.marks point x prohibits) _ _ refl refl ∙ unless (counts plan a.marks point x prohibits)

    answer_reply_lem : (code : ℕ)
        → reply (answered_by plan point slc code a) ≡ first (rows (not (answers plan a.links point slc code)) false a)
    unfolding answered_by
    answer_reply_lem code =
        of_either reply (answers plan a.links point slc code) _ _ refl refl ∙ unless (answers plan a.links point slc code)

    -- row 11 said in other words
    said : {now other : Bool} → now ≡ other → (needs : Bool) → first (rows now needs a) ≡ first (rows other needs a)
    said same needs = ap (λ (t : Bool). first (rows t needs a)) same

    abbrev needed : Message → Bool
    needed message = answer_needs plan a (step message)

    pub managed_reply : (message : Message) → reply (managed plan link fsn point slc message a) ≡ first (managed_rows message)
    unfolding managed names_nothing asked
    managed_reply (COO f) = by_step (COO f) ∙ said (coo_eleven plan a.links point slc link fsn f) (needed (COO f))
    managed_reply (COA f) = by_step (COA f) ∙ said (coa_eleven plan a.links point slc f) (needed (COA f))
    managed_reply (CBD code) = by_step (CBD code) ∙ said (cbd_eleven plan point slc code) (needed (CBD code))
    managed_reply (CBA code) = answer_reply_lem code ∙ said (cba_eleven plan a.links point slc code) false
    managed_reply ECO = by_step ECO ∙ said (eco_eleven plan a.links point slc) (needed ECO)
    managed_reply ECA = by_step ECA ∙ said (eca_eleven plan a.links point slc) (needed ECA)
    managed_reply (TFP x) = transfer_reply x true ∙ said (tfp_eleven plan a.marks point x) false
    managed_reply (TFA x) = transfer_reply x false ∙ said (tfa_eleven plan a.marks point x) false
    managed_reply (RST x) = by_step (RST x) ∙ said (rst_eleven plan a.links a.marks point x) (needed (RST x))
