-- A text makes what its lines make, whatever stands behind its last LF. Assumes nothing.
use mathlib.Core.Path.{◌≡◌, refl, sym, ap, ◌∙◌}
use mathlib.Core.Bool.{Bool, true, false, cond, ◌&&◌, true≢false}
use mathlib.Core.Logic.{◌⊎◌, inl, inr}
use mathlib.Core.List.{List, [], ◌∷◌}
use Prim.Native.Nat.{ℕ, ◌+◌, ◌<◌}
use native.Mathlib.Omega.{arith}
use lib.Dec.{eqb}
use lib.ListN.{length}
use borrow.Author.Tests.{eqb-true, ne_eqb}
use borrow.Table.Steps.{cases}
use Rattle.text.specs.Part.{split, is_empty, on_first, lf}
use Rattle.plan.specs.declared.data.Plan.{Plan}
use Rattle.plan.specs.Data.{empty_plan}
use Rattle.plan_configuration.specs.Configure.{add_line, add_lines, done, faulty}
use Rattle.plan_faults.specs.Told.{lines_in, lines_of}
use Rattle.plan_faults.proofs.Lines.{split_some}
use Rattle.plan_faults.proofs.Node.{has_node, end_faulty}
use Rattle.plan_faults.proofs.Reading.{made}
use Rattle.plan_building.specs.Building.{fault_of, plan_after}

-- what stands behind the last LF, if it is a line
last_made : (plan : Plan) (number : ℕ) (last : List ℕ)
    → faulty number (fault_of (add_line plan last false)) ≡ made plan number (record { octets = last; ended = false } ∷ [])
unfolding made
last_made plan number last =
    let n = fault_of (add_line plan last false) in
    sym (ap (λ (t : Bool). cond t (done (plan_after plan (add_line plan last false))) (faulty number n)) (ne_eqb n 0 (end_faulty plan last)))

-- nothing, and no line before it
alone : List (List ℕ) → Bool
alone [] = false
alone (last ∷ []) = is_empty last
alone (line ∷ second ∷ more) = false

lines_made : (parts : List (List ℕ)) (plan : Plan) (number : ℕ) → (plan.given ≡ true) ⊎ (alone parts ≡ false)
    → add_lines plan number parts ≡ made plan number (lines_in parts)
unfolding add_lines made lines_in alone
lines_made [] plan number h = refl
lines_made ([] ∷ []) plan number (inl given) = ap (λ (t : Bool). cond (t && true) (done plan) (faulty number (fault_of (add_line plan [] false)))) given
lines_made ([] ∷ []) plan number (inr some) = absurd (true≢false some)
lines_made ((x ∷ last) ∷ []) plan number h =
    cases plan.given
    (λ e. ap (λ (t : Bool). cond (t && false) (done plan) (faulty number (fault_of (add_line plan (x ∷ last) false)))) e ∙ last_made plan number (x ∷ last))
    (λ e. ap (λ (t : Bool). cond (t && false) (done plan) (faulty number (fault_of (add_line plan (x ∷ last) false)))) e ∙ last_made plan number (x ∷ last))
lines_made (line ∷ second ∷ more) plan number h =
    let added = add_line plan line true in
    cases (eqb (fault_of added) 0)
    (λ yes.
    simp yes (lines_made (second ∷ more) (plan_after plan added) (number + 1) (inl (has_node plan line true (eqb-true (fault_of added) 0 yes)))))
    (λ no. simp no)

-- a text with octets has a line
behind_lf : (parts : List (List ℕ)) → 0 < length parts → alone ([] ∷ parts) ≡ false
unfolding alone
behind_lf [] h = absurd (omega arith)
behind_lf (part ∷ rest) h = refl

with_letter : (x : ℕ) (parts : List (List ℕ)) → alone (on_first x parts) ≡ false
unfolding alone
with_letter x [] = refl
with_letter x (part ∷ []) = refl
with_letter x (part ∷ second ∷ more) = refl

some_line : (x : ℕ) (text : List ℕ) → alone (split lf (x ∷ text)) ≡ false
unfolding split
some_line x text =
    cases (eqb x lf) (λ e. simp e (behind_lf (split lf text) (split_some lf text))) (λ e. simp e (with_letter x (split lf text)))

pub text_made : (text : List ℕ) → add_lines empty_plan 1 (split lf text) ≡ made empty_plan 1 (lines_of text)
unfolding add_lines split
text_made [] = last_made empty_plan 1 []
text_made (x ∷ text) = lines_made (split lf (x ∷ text)) empty_plan 1 (inr (some_line x text))

lines_some : (parts : List (List ℕ)) → 0 < length parts → alone parts ≡ false → 0 < length (lines_in parts)
unfolding lines_in alone
lines_some [] h e = absurd (omega arith)
lines_some ([] ∷ []) h e = absurd (true≢false e)
lines_some ((x ∷ last) ∷ []) h e = omega arith
lines_some (line ∷ second ∷ more) h e = omega arith

pub text_some : (text : List ℕ) → 0 < length (lines_of text)
text_some [] = omega arith
text_some (x ∷ text) = lines_some (split lf (x ∷ text)) (split_some lf (x ∷ text)) (some_line x text)
