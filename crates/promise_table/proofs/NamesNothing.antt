-- Row 11 of each management message, in the paper's words, is the reply 11 of what the message asks. Assumes nothing.
use Prim.Native.Nat.{ℕ}
use mathlib.Core.Bool.{Bool, true, false, cond, not, ◌&&◌, ◌||◌, not-not}
use mathlib.Core.List.{List}
use mathlib.Core.Path.{◌≡◌, refl, ◌∙◌}
use lib.Dec.{eqb, ltb}
use Rattle.constants.specs.Constants.{no_link, state_out}
use Rattle.plan.specs.declared.data.Plan.{Plan}
use Rattle.plan.specs.Find.{place_of, is_found}
use Rattle.area_links.specs.LinkRecords.{record_at}
use Rattle.lookup.specs.Lookup.{no_set, no_rank, set_to, link_named}
use Rattle.route_access.specs.Change.{is_accessible}
use Rattle.route_current.specs.Current.{current_set}
use Rattle.management_steps.specs.declared.Step.{Step}
use Rattle.management_steps.specs.Step.{nothing, order_step, ack_step}
use Rattle.management_asking.specs.Ask.{ask_coo, ask_coa, ask_eco, ask_eca}
use Rattle.management_requests.specs.Request.{ask_cbd, allows, ask_rst}
use Rattle.changeback_waiting.specs.Wait.{answers}
use Rattle.rerouting_marking.specs.Mark.{rank_for, counts}
use Rattle.promise_table.specs.NamesNothing.{t2_runs, unanswered, mark_stands, order_names_nothing, acknowledgement_names_nothing, declaration_names_nothing, answer_names_nothing, prohibition_names_nothing, allowance_names_nothing, test_names_nothing}
use Rattle.promise_table.proofs.Either.{either}

-- a step has reply 11
abbrev pub is_eleven : Step → Bool
is_eleven step = eqb step.reply 11

abbrev Done : Step → Type 0
Done step = is_eleven step ≡ false

-- one of two by a test, the one done and the other not, is 11 exactly if the test fails
unless_done : (test : Bool) (done other : Step) → is_eleven done ≡ false → is_eleven other ≡ true → is_eleven (cond test done other) ≡ not test
unless_done true done other d o = d
unless_done false done other d o = o

-- not all of some is one of them not
not_both : (a b : Bool) → not (a && b) ≡ (not a || not b)
not_both true b = refl
not_both false b = refl

not_four : (a b c d : Bool) → not (a && (b && (c && d))) ≡ (not a || (not b || (not c || not d)))
not_four a b c d = simp (not_both a (b && (c && d)), not_both b (c && d), not_both c d)

module _ (plan : Plan) (links : List ℕ) (point slc : ℕ) where
  abbrev link : ℕ
  link = link_named plan point slc

  abbrev is_out : Bool
  is_out = eqb (record_at links link).state state_out

  pub coo_eleven : (arriving fsn f : ℕ) → is_eleven (ask_coo plan links arriving fsn point slc f) ≡ order_names_nothing plan point slc
  unfolding ask_coo order_step
  coo_eleven arriving fsn f = unless_done (ltb link no_link) _ nothing (either Done is_out _ _ refl refl) refl

  pub eco_eleven : is_eleven (ask_eco plan links point slc) ≡ order_names_nothing plan point slc
  unfolding ask_eco order_step
  eco_eleven = unless_done (ltb link no_link) _ nothing (either Done is_out _ _ refl refl) refl

  -- "COA and ECA count only while T2 runs"
  abbrev runs : Bool
  runs = t2_runs plan links point slc

  pub coa_eleven : (f : ℕ) → is_eleven (ask_coa plan links point slc f) ≡ acknowledgement_names_nothing plan links point slc
  unfolding ask_coa ack_step
  coa_eleven f = unless_done (ltb link no_link && runs) _ nothing refl refl ∙ not_both (ltb link no_link) runs

  pub eca_eleven : is_eleven (ask_eca plan links point slc) ≡ acknowledgement_names_nothing plan links point slc
  unfolding ask_eca ack_step
  eca_eleven = unless_done (ltb link no_link && runs) _ nothing refl refl ∙ not_both (ltb link no_link) runs

  -- "CBA only while its CBD is unanswered"
  pub cba_eleven : (code : ℕ) → not (answers plan links point slc code) ≡ answer_names_nothing plan links point slc code
  unfolding answers
  cba_eleven code = not_both (ltb link no_link) (unanswered plan links point slc code)

pub cbd_eleven : (plan : Plan) (point slc code : ℕ) → is_eleven (ask_cbd plan point slc code) ≡ declaration_names_nothing plan point slc
unfolding ask_cbd
cbd_eleven plan point slc code = unless_done (ltb (link_named plan point slc) no_link) _ nothing refl refl

-- "X equal to Y or to us, no route to X by Y's set, or a mark that already stands"
module _ (plan : Plan) (marks : List ℕ) (y x : ℕ) where
  abbrev stands : Bool
  stands = mark_stands plan marks y x

  pub tfp_eleven : not (counts plan marks y x true) ≡ prohibition_names_nothing plan marks y x
  unfolding counts
  tfp_eleven =
      not_four (not (eqb x y)) (not (eqb x plan.code)) (ltb (rank_for plan y x) no_rank) (not stands)
      ∙ simp (not-not (eqb x y), not-not (eqb x plan.code), not-not stands)

  pub tfa_eleven : not (counts plan marks y x false) ≡ allowance_names_nothing plan marks y x
  unfolding counts
  tfa_eleven =
      not_four (not (eqb x y)) (not (eqb x plan.code)) (ltb (rank_for plan y x) no_rank) stands
      ∙ simp (not-not (eqb x y), not-not (eqb x plan.code))

-- "if X is configured and accessible and its current set isn't the asker's"
pub rst_eleven : (plan : Plan) (links marks : List ℕ) (asker x : ℕ)
    → is_eleven (ask_rst plan links marks asker x) ≡ test_names_nothing plan links marks asker x
unfolding ask_rst allows
rst_eleven plan links marks asker x =
    let place : ℕ = place_of plan x in
    let theirs : Bool = eqb (current_set plan links marks place) (set_to plan asker) in
    unless_done (allows plan links marks asker x) _ nothing refl refl
    ∙ not_four (ltb (set_to plan asker) no_set) (is_found plan x) (is_accessible plan links marks place) (not theirs)
    ∙ simp (not-not theirs)
