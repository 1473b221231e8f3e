-- A whole configuration: "The first faulty line is reported, with the first of its faults" (R163, R164).
use Rattle.std.specs.Prelude.{ℕ, ◌+◌, Bool, true, false, cond, not, ◌&&◌, List, [], ◌∷◌, length, get_or, ltb, eqb, Option, Some, None, Result, Ok, Err}
use Rattle.text.specs.Part.{split, is_empty, lf, tab}
use Rattle.plan.specs.declared.data.Plan.{Plan}
use Rattle.plan.specs.Data.{empty_plan}
use Rattle.plan_building.specs.Building.{fault_of, plan_after}
use Rattle.plan_sets.specs.SetLines.{add_node, add_set}
use Rattle.plan_links.specs.LinkLines.{add_link}
use Rattle.plan_routes.specs.RouteLines.{add_route}
use Rattle.plan_statement.specs.declared.Statement.{Statement}
use Rattle.plan_keywords.specs.declared.Word.TheVariants.{Node, Set, Link, Route}
use Rattle.plan_keywords.specs.declared.Word.{Word}
use Rattle.plan_configuration.specs.declared.configure.Configured.{Configured}
use Rattle.plan_keywords.specs.StatementWords.{word_of}
use Rattle.plan_statement.specs.Statement.{read_statement}
use Rattle.plan_building.specs.declared.Fault.{Fault}
use Rattle.plan_building.specs.declared.Fault.TheVariants.{WrongLine, NoNode}

-- a statement put into the plan by its word (R161)
abbrev pub add_by : Word → Plan → ℕ → ℕ → ℕ → Result Plan Fault
add_by Node plan code ni none = add_node plan code ni
add_by Set plan number adjacent none = add_set plan number adjacent
add_by Link plan number those slc = add_link plan number those slc
add_by Route plan destination those rank = add_route plan destination those rank

abbrev pub add : Plan → Statement → Result Plan Fault
add plan statement = add_by statement.word plan statement.first statement.second statement.third

-- what a line says put into the plan, or its fault
abbrev pub add_said : Plan → Result Statement Fault → Result Plan Fault
add_said plan (Ok statement) = add plan statement
add_said plan (Err fault) = Err fault

-- the first word of a line
abbrev pub first_word : List ℕ → Option Word
first_word line = word_of (get_or (split tab line) 0 [])

abbrev pub is_node : Option Word → Bool
is_node (Some Node) = true
is_node (Some Set) = false
is_node (Some Link) = false
is_node (Some Route) = false
is_node None = false

-- a line put into the plan: "25 the first word of line 1 isn't `node`" (R165); "20 wrong word, field count or no LF" (R166); then its other
-- faults. No node is given before line 1 alone.
abbrev pub add_line : Plan → List ℕ → Bool → Result Plan Fault
add_line plan line ended =
    cond (not plan.given && not (is_node (first_word line))) (Err NoNode)
    (cond ended (add_said plan (read_statement line)) (Err WrongLine))

-- a plan, and no fault
abbrev pub done : Plan → Configured
done plan = record { line = 0; fault = 0; plan = plan }

-- "A refused one makes none" (R179): the line, its fault, and no node
abbrev pub faulty : ℕ → ℕ → Configured
faulty line fault = record { line = line; fault = fault; plan = empty_plan }

-- "Lines .., each ended by LF" (R159): what stands behind the last LF is no line, unless it has octets or there is no line before it
unfoldable pub add_lines : Plan → ℕ → List (List ℕ) → Configured
add_lines plan number [] = done plan
add_lines plan number (last ∷ []) =
    cond (plan.given && is_empty last) (done plan) (faulty number (fault_of (add_line plan last false)))
add_lines plan number (line ∷ next ∷ more) =
    let added = add_line plan line true in
    cond (eqb (fault_of added) 0) (add_lines (plan_after plan added) (number + 1) (next ∷ more)) (faulty number (fault_of added))

-- "Text too long is 24 at line 0." (R160, R175, D1)
abbrev pub configured : List ℕ → Configured
configured text = cond (ltb 16384 (length text)) (faulty 0 24) (add_lines empty_plan 1 (split lf text))
