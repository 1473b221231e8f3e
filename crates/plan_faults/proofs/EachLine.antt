-- What holds of whatever a line leaves, and of the plan of every text: by the statements that are put in. Assumes nothing.
use mathlib.Core.Path.{◌≡◌, refl, sym, ap₂, ◌∙◌}
use mathlib.Core.Bool.{Bool, true, false, cond, not, ◌&&◌, true≢false}
use mathlib.Core.List.{List, [], ◌∷◌}
use Prim.Native.Nat.{ℕ, ◌+◌}
use lib.Dec.{eqb, ltb}
use lib.ListN.{length, get_or}
use borrow.Table.Steps.{cases}
use Rattle.text.specs.Part.{split, is_empty, lf, tab}
use Rattle.text_fields.specs.Fields.{number}
use Rattle.plan.specs.declared.data.Plan.{Plan}
use Rattle.plan.specs.Data.{empty_plan}
use Rattle.plan_building.specs.Building.{fault_of, plan_after}
use Rattle.plan_keywords.specs.declared.Word.{Word}
use Rattle.plan_keywords.specs.StatementWords.{fields_of}
use Rattle.plan_statement.specs.declared.Statement.{Statement}
use Rattle.plan_statement.specs.Statement.{with_number, said_as, read_statement}
use Rattle.plan_configuration.specs.declared.configure.Configured.{Configured}
use Rattle.plan_configuration.specs.Configure.{add_by, add_said, add_line, add_lines, first_word, is_node, done, faulty, configured}
use Rattle.plan_building.specs.declared.Fault.{Fault}
use Rattle.plan_building.specs.declared.Fault.TheVariants.{WrongLine, OutOfRange, NoNode}
use Rattle.std.specs.Prelude.{Option, Some, None, Result, Ok, Err}

-- what holds of a refusal and of every statement put in, by the word `node` or into a plan that has its node
module _ (P : Result Plan Fault → Type 0) (plan : Plan) (refuses : (fault : Fault) → P (Err fault))
    (adds : (word : Word) → (is_node (Some word) ≡ false → plan.given ≡ true) → (a b c : ℕ) → P (add_by word plan a b c)) where
  by_test : (test : Bool) (a b : Result Plan Fault) → P a → (test ≡ false → P b) → P (cond test a b)
  by_test true a b p q = p
  by_test false a b p q = q refl

  by_numbers : (word : Word) → (is_node (Some word) ≡ false → plan.given ≡ true) → (x y z : Option ℕ)
      → P (add_said plan (with_number x (λ a. with_number y (λ b. with_number z (λ c. Ok (record { word = word; first = a; second = b; third = c }))))))
  by_numbers word has None y z = refuses OutOfRange
  by_numbers word has (Some a) None z = refuses OutOfRange
  by_numbers word has (Some a) (Some b) None = refuses OutOfRange
  by_numbers word has (Some a) (Some b) (Some c) = adds word has a b c

  by_count : (fits : Bool) (said : Result Statement Fault) → P (add_said plan said) → P (add_said plan (cond fits said (Err WrongLine)))
  by_count true said p = p
  by_count false said p = refuses WrongLine

  by_known : (word : Option Word) → (is_node word ≡ false → plan.given ≡ true) → (all : List (List ℕ)) → P (add_said plan (said_as word all))
  by_known (Some word) has all =
      by_count (eqb (length all) (fields_of word)) _ (by_numbers word has (number (get_or all 1 [])) (number (get_or all 2 [])) (number (get_or all 3 (48 ∷ []))))
  by_known None has all = refuses WrongLine

  by_end : (ended : Bool) (said : Result Plan Fault) → P said → P (cond ended said (Err WrongLine))
  by_end true said p = p
  by_end false said p = refuses WrongLine

  pub each_line : (line : List ℕ) (ended : Bool) → P (add_line plan line ended)
  each_line line ended =
      let word = first_word line in
      let all = split tab line in
      let missing = not plan.given && not (is_node word) in
      let has : missing ≡ false → is_node word ≡ false → plan.given ≡ true =
      λ e f. cases plan.given (λ g. g) (λ g. absurd (true≢false (sym (ap₂ (λ (s t : Bool). not s && not t) g f) ∙ e)))
      in
      by_test missing (Err NoNode) (cond ended (add_said plan (read_statement line)) (Err WrongLine)) (refuses NoNode)
      (λ e.
      by_end ended (add_said plan (read_statement line))
      (by_known word (has e) all))

-- what holds of the empty plan, and of a plan with a line more, holds of the plan of every text
module _ (P : Plan → Type 0) (empty : P empty_plan) (line_more : (plan : Plan) → P plan → (line : List ℕ) (ended : Bool) → P (plan_after plan (add_line plan line ended))) where
  either : (test : Bool) (a b : Configured) → P a.plan → P b.plan → P (cond test a b).plan
  either true a b p q = p
  either false a b p q = q

  each_lines : (lines : List (List ℕ)) (plan : Plan) (n : ℕ) → P plan → P (add_lines plan n lines).plan
  unfolding add_lines
  each_lines [] plan n p = p
  each_lines (last ∷ []) plan n p = either (plan.given && is_empty last) (done plan) (faulty n (fault_of (add_line plan last false))) p empty
  each_lines (line ∷ next ∷ more) plan n p =
      let added = add_line plan line true in
      either (eqb (fault_of added) 0) (add_lines (plan_after plan added) (n + 1) (next ∷ more)) (faulty n (fault_of added))
      (each_lines (next ∷ more) (plan_after plan added) (n + 1) (line_more plan p line true)) empty

  pub each_text : (text : List ℕ) → P (configured text).plan
  each_text text =
      either (ltb 16384 (length text)) (faulty 0 24) (add_lines empty_plan 1 (split lf text)) empty (each_lines (split lf text) empty_plan 1 empty)
