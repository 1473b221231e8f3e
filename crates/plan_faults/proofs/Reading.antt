-- Lines read one after the other: what they make is told of them, and nothing else is. Assumes nothing.
use mathlib.Core.Path.{◌≡◌, refl, sym, ap, subst, ◌∙◌}
use mathlib.Core.Bool.{Bool, cond, not}
use mathlib.Core.Logic.{◌↔◌}
use mathlib.Core.List.{List, [], ◌∷◌}
use Prim.Native.Nat.{ℕ, ◌+◌, ◌<◌}
use native.Mathlib.Omega.{arith}
use lib.Dec.{eqb, ltb}
use borrow.Author.Tests.{ltb-true, eq-eqb, eqb-true, ne_eqb, eqb-false}
use borrow.Table.Steps.{cases}
use Rattle.plan.specs.declared.data.Plan.{Plan}
use Rattle.plan.specs.Data.{empty_plan}
use Rattle.plan.specs.Sound.{Sound}
use Rattle.plan.proofs.Sound.{empty_sound}
use Rattle.plan.proofs.Split as Split
use Rattle.replies_given.specs.GivenWhen.{Gives, None}
use Rattle.replies_given.proofs.Exactly.{gives_of}
use Rattle.plan_configuration.specs.declared.configure.Configured.{Configured}
use Rattle.plan_configuration.specs.Configure.{add_line, done, faulty}
use Rattle.plan_configuration.proofs.Made.{added_sound}
use Rattle.plan_faults.specs.Faults.{Line, faults_of}
use Rattle.plan_faults.specs.Told.{with_line, Reads, no_more, is_faulty, faultless}
use Rattle.plan_faults.proofs.EachLine.{each_line}
use Rattle.plan_faults.proofs.Lines.{fault_when, faultless_when, rows_over}
use Rattle.plan_faults.proofs.Node.{has_node}
use Rattle.plan_building.specs.Building.{fault_of, plan_after}

-- what some lines make, each by what it is put in as
unfoldable pub made : Plan → ℕ → List Line → Configured
made plan number [] = done plan
made plan number (line ∷ later) =
    let added = add_line plan line.octets line.ended in
    cond (eqb (fault_of added) 0) (made (plan_after plan added) (number + 1) later) (faulty number (fault_of added))

-- a line keeps a plan sound
line_sound : (plan : Plan) → Sound plan → (line : Line) → Sound (with_line plan line)
line_sound plan sound line =
    each_line (λ added. Sound (plan_after plan added)) plan (λ fault. sound)
    (λ word has a b c. (added_sound plan sound (record { word = word; first = a; second = b; third = c })).still_sound)
    line.octets
    line.ended

-- where the reading of lines stands: a sound plan, with its node from line 1 on
pub record Stage (number : ℕ) (plan : Plan) : Type 0 where
  pub counted : 0 < number
  pub sound : Sound plan
  pub from_first : eqb number 1 ≡ not plan.given

pub first_stage : Stage 1 empty_plan
first_stage = record { counted = omega arith; sound = empty_sound; from_first = refl }

-- a fault that is given is over 0
pub over : (number : ℕ) (plan : Plan) (line : Line) (n : ℕ) → Gives (faults_of number plan line) n → 0 < n
over number plan line n gives = ltb-true 0 n (gives_of (λ (n : ℕ). ltb 0 n) (faults_of number plan line) n (rows_over number plan line) gives)

module _ (plan : Plan) (number : ℕ) (line : Line) (stage : Stage number plan) where
  abbrev fault : ℕ
  fault = fault_of (add_line plan line.octets line.ended)

  pub next_stage : fault ≡ 0 → Stage (number + 1) (with_line plan line)
  next_stage e =
      record {
        counted = omega arith;
        sound = line_sound plan stage.sound line;
        from_first =
            ne_eqb (number + 1) 1 (λ e. omega (arith, stage.counted))
            ∙ ap not (sym (has_node plan line.octets line.ended e));
      }

  when : (n : ℕ) → 0 < n → (fault ≡ n) ↔ Gives (faults_of number plan line) n
  when = fault_when number plan line stage.sound stage.from_first

  pub none_when : (fault ≡ 0) ↔ None (faults_of number plan line)
  none_when = faultless_when number plan line stage.sound stage.from_first

  module _ (later : List Line) where
    pub step : fault ≡ 0 → made plan number (line ∷ later) ≡ made (with_line plan line) (number + 1) later
    unfolding made
    step e = ap (λ (t : Bool). cond t (made (with_line plan line) (number + 1) later) (faulty number fault)) (eq-eqb fault 0 e)

    stop : (n : ℕ) → 0 < n → fault ≡ n → made plan number (line ∷ later) ≡ faulty number n
    unfolding made
    stop n h e =
        ap (λ (t : Bool). cond t (made (with_line plan line) (number + 1) later) (faulty number fault)) (ne_eqb fault 0 (λ z. omega arith))
        ∙ ap (faulty number) e

-- what the lines make is told of them, and nothing else is
pub reads : (lines : List Line) (plan : Plan) (number : ℕ) → Stage number plan → Reads plan number lines (made plan number lines)
unfolding made
reads [] plan number stage = no_more plan number
reads (line ∷ later) plan number stage =
    let n = fault plan number line stage in
    cases (eqb n 0)
    (λ yes.
    let e = eqb-true n 0 yes in
    subst (Reads plan number (line ∷ later)) (sym (step plan number line stage later e))
    (faultless plan number line later _ ((none_when plan number line stage).0 e)
    (reads later (with_line plan line) (number + 1) (next_stage plan number line stage e))))
    (λ no.
    let h : 0 < n = Split.split 0 n (λ less. less) (λ zero. absurd (eqb-false n 0 no (omega arith))) in
    subst (Reads plan number (line ∷ later)) (sym (stop plan number line stage later n h refl))
    (is_faulty plan number line later n ((when plan number line stage n h).0 refl)))

pub only : (lines : List Line) (plan : Plan) (number : ℕ) (told : Configured) → Stage number plan → Reads plan number lines told → made plan number lines ≡ told
unfolding made
only _ _ _ _ stage (no_more plan number) = refl
only _ _ _ _ stage (is_faulty plan number line later n gives) =
    let h = over number plan line n gives in
    stop plan number line stage later n h ((when plan number line stage n h).1 gives)
only _ _ _ _ stage (faultless plan number line later told none rest) =
    let e = (none_when plan number line stage).1 none in
    step plan number line stage later e ∙ only later (with_line plan line) (number + 1) told (next_stage plan number line stage e) rest
