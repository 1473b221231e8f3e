-- A text that is refused makes no node, and one that is accepted makes one. Assumes nothing.
use mathlib.Core.Path.{◌≡◌, refl}
use mathlib.Core.Bool.{true}
use mathlib.Core.Logic.{◌⊎◌, inl, inr}
use mathlib.Core.List.{List}
use Prim.Native.Nat.{ℕ, ◌+◌, ◌<◌}
use native.Mathlib.Omega.{arith}
use lib.ListN.{length}
use Rattle.plan.specs.declared.data.Plan.{Plan}
use Rattle.plan.specs.Data.{empty_plan}
use Rattle.plan_configuration.specs.declared.configure.Configured.{Configured}
use Rattle.plan_configuration.specs.Configure.{configured}
use Rattle.plan_faults.specs.Faults.{Line}
use Rattle.plan_faults.specs.Told.{lines_of, with_line, Reads, no_more, is_faulty, faultless, Told, too_long, in_lines}
use Rattle.plan_faults.proofs.Node.{has_node}
use Rattle.plan_faults.proofs.Reading.{Stage, first_stage, next_stage, none_when, over}
use Rattle.plan_faults.proofs.LinesMade.{text_some}
use Rattle.plan_faults.proofs.Exactly.{is_told}

-- a text that is refused makes no node: the plan beside its fault is the empty one
refused_lines : (lines : List Line) (plan : Plan) (number : ℕ) (told : Configured) → Reads plan number lines told → (told.fault ≡ 0 → ⊥) → told.plan ≡ empty_plan
refused_lines _ _ _ _ (no_more plan number) faulty-told = absurd (faulty-told refl)
refused_lines _ _ _ _ (is_faulty plan number line later n gives) faulty-told = refl
refused_lines _ _ _ _ (faultless plan number line later told none rest) faulty-told =
    refused_lines later (with_line plan line) (number + 1) told rest faulty-told

refused_told : (text : List ℕ) (told : Configured) → Told text told → (told.fault ≡ 0 → ⊥) → told.plan ≡ empty_plan
refused_told _ _ (too_long text h) faulty-told = refl
refused_told _ _ (in_lines text told h rest) faulty-told = refused_lines (lines_of text) empty_plan 1 told rest faulty-told

pub refused_no_node : (text : List ℕ) → ((configured text).fault ≡ 0 → ⊥) → (configured text).plan ≡ empty_plan
refused_no_node text = refused_told text (configured text) (is_told text)

-- and one that is accepted makes one
accepted_lines : (lines : List Line) (plan : Plan) (number : ℕ) (told : Configured) → Stage number plan → Reads plan number lines told → told.fault ≡ 0
    → (plan.given ≡ true) ⊎ (0 < length lines) → told.plan.given ≡ true
accepted_lines _ _ _ _ stage (no_more plan number) e (inl has) = has
accepted_lines _ _ _ _ stage (no_more plan number) e (inr some) = absurd (omega arith)
accepted_lines _ _ _ _ stage (is_faulty plan number line later n gives) e some = absurd (omega (arith, over number plan line n gives))
accepted_lines _ _ _ _ stage (faultless plan number line later told none rest) e some =
    let fine = (none_when plan number line stage).1 none in
    accepted_lines later (with_line plan line) (number + 1) told (next_stage plan number line stage fine) rest e (inl (has_node plan line.octets line.ended fine))

accepted_told : (text : List ℕ) (told : Configured) → Told text told → told.fault ≡ 0 → told.plan.given ≡ true
accepted_told _ _ (too_long text h) e = absurd (omega arith)
accepted_told _ _ (in_lines text told h rest) e = accepted_lines (lines_of text) empty_plan 1 told first_stage rest e (inr (text_some text))

pub accepted_node : (text : List ℕ) → (configured text).fault ≡ 0 → (configured text).plan.given ≡ true
accepted_node text = accepted_told text (configured text) (is_told text)
