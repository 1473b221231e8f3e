-- What is told of a text is told exactly as the table of faults says: 24 at line 0 if it is too long; else the number of the first line with
-- a fault and the first fault of that line, the lines above it being without fault on the plan that they made; else the plan. Assumes nothing.
use mathlib.Core.Path.{◌≡◌, refl, sym, ap, subst, ◌∙◌}
use mathlib.Core.Bool.{Bool, true, cond, ◌||◌, or-true}
use mathlib.Core.Logic.{◌↔◌}
use mathlib.Core.List.{List}
use Prim.Native.Nat.{ℕ, ◌+◌, ◌≤◌, ◌<◌}
use native.Mathlib.Omega.{arith}
use lib.Dec.{eqb}
use lib.ListN.{length}
use borrow.Author.Tests.{lt-ltb, le-ltb}
use Rattle.text.specs.Part.{split, lf}
use Rattle.plan.specs.declared.data.Plan.{Plan}
use Rattle.plan.specs.Data.{empty_plan}
use Rattle.plan.proofs.Split as Split
use Rattle.replies_given.proofs.Exactly.{gives_of}
use Rattle.plan_configuration.specs.declared.configure.Configured.{Configured}
use Rattle.plan_configuration.specs.Configure.{add_lines, faulty, configured}
use Rattle.plan_faults.specs.Faults.{Line, faults_of, is_fault}
use Rattle.plan_faults.specs.Told.{lines_of, with_line, Reads, no_more, is_faulty, faultless, Told, too_long, in_lines, Faultless, end, next}
use Rattle.plan_faults.proofs.Lines.{numbered, rows_numbered}
use Rattle.plan_faults.proofs.Reading.{made, Stage, first_stage, next_stage, none_when, over, reads, only, step}
use Rattle.plan_faults.proofs.LinesMade.{text_made}

module _ (text : List ℕ) where
  pub long : 16384 < length text → configured text ≡ faulty 0 24
  long h = ap (λ (t : Bool). cond t (faulty 0 24) (add_lines empty_plan 1 (split lf text))) (lt-ltb 16384 (length text) h)

  pub short : length text ≤ 16384 → configured text ≡ made empty_plan 1 (lines_of text)
  short h = ap (λ (t : Bool). cond t (faulty 0 24) (add_lines empty_plan 1 (split lf text))) (le-ltb 16384 (length text) h) ∙ text_made text

  pub is_told : Told text (configured text)
  is_told =
      Split.split 16384 (length text)
      (λ h. subst (Told text) (sym (long h)) (too_long text h))
      (λ h. subst (Told text) (sym (short h)) (in_lines text _ h (reads (lines_of text) empty_plan 1 first_stage)))

only_told : (text : List ℕ) (told : Configured) → Told text told → configured text ≡ told
only_told _ _ (too_long text h) = long text h
only_told _ _ (in_lines text told h rest) = short text h ∙ only (lines_of text) empty_plan 1 told first_stage rest

-- "The first faulty line is reported, with the first of its faults": exactly so
pub told_exactly : (text : List ℕ) (told : Configured) → (configured text ≡ told) ↔ Told text told
told_exactly text told = (λ e. subst (Told text) e (is_told text), only_told text told)

-- 0 exactly if the text isn't too long and no line has a fault
without_fault : (lines : List Line) (plan : Plan) (number : ℕ) (told : Configured) → Reads plan number lines told → told.fault ≡ 0 → Faultless plan number lines
without_fault _ _ _ _ (no_more plan number) e = end plan number
without_fault _ _ _ _ (is_faulty plan number line later n gives) e = absurd (omega (arith, over number plan line n gives))
without_fault _ _ _ _ (faultless plan number line later told none rest) e =
    next plan number line later none (without_fault later (with_line plan line) (number + 1) told rest e)

none_faulty : (lines : List Line) (plan : Plan) (number : ℕ) → Stage number plan → Faultless plan number lines → (made plan number lines).fault ≡ 0
unfolding made
none_faulty _ _ _ stage (end plan number) = refl
none_faulty _ _ _ stage (next plan number line later none rest) =
    let e = (none_when plan number line stage).1 none in
    ap (λ (told : Configured). told.fault) (step plan number line stage later e)
    ∙ none_faulty later (with_line plan line) (number + 1) (next_stage plan number line stage e) rest

pub accepted_exactly : (text : List ℕ) → ((configured text).fault ≡ 0) ↔ ((length text ≤ 16384) × Faultless empty_plan 1 (lines_of text))
accepted_exactly text = (
  λ e.
      Split.split 16384 (length text)
      (λ h. absurd (omega (arith, sym (ap (λ (told : Configured). told.fault) (long text h)) ∙ e)))
      (λ h. (
        h,
        without_fault (lines_of text) empty_plan 1 _ (reads (lines_of text) empty_plan 1 first_stage) (sym (ap (λ (told : Configured). told.fault) (short text h)) ∙ e),
      )),
  λ both. ap (λ (told : Configured). told.fault) (short text both.0) ∙ none_faulty (lines_of text) empty_plan 1 first_stage both.1,
)

-- whatever the text, 0 or one of 20 to 25
lines_one_of : (lines : List Line) (plan : Plan) (number : ℕ) (told : Configured) → Reads plan number lines told → is_fault told.fault ≡ true
lines_one_of _ _ _ _ (no_more plan number) = refl
lines_one_of _ _ _ _ (is_faulty plan number line later n gives) =
    ap (λ (t : Bool). eqb n 0 || t) (gives_of numbered (faults_of number plan line) n (rows_numbered number plan line) gives) ∙ or-true (eqb n 0)
lines_one_of _ _ _ _ (faultless plan number line later told none rest) = lines_one_of later (with_line plan line) (number + 1) told rest

told_one_of : (text : List ℕ) (told : Configured) → Told text told → is_fault told.fault ≡ true
told_one_of _ _ (too_long text h) = refl
told_one_of _ _ (in_lines text told h rest) = lines_one_of (lines_of text) empty_plan 1 told rest

pub one_of_the_faults : (text : List ℕ) → is_fault (configured text).fault ≡ true
one_of_the_faults text = told_one_of text (configured text) (is_told text)
