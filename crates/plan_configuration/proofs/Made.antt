-- Every plan that a configuration makes is sound, whatever its text: its destinations ascend, and each link stands in one set at one
-- place, in SLC order.
-- Assumes nothing.
use mathlib.Core.Bool.{Bool, true, false, cond, ◌&&◌}
use mathlib.Core.List.{List, [], ◌∷◌}
use Prim.Native.Nat.{ℕ, ◌+◌}
use lib.Dec.{ltb, eqb}
use lib.ListN.{length}
use Rattle.text.specs.Part.{lf, split, is_empty}
use Rattle.plan.specs.declared.data.Plan.{Plan}
use Rattle.plan.specs.Data.{empty_plan}
use Rattle.plan_building.specs.Building.{fault_of, plan_after, Kept}
use Rattle.plan.specs.Sound.{Sound}
use Rattle.plan_sets.proofs.Kept.{node_kept, set_kept}
use Rattle.plan_links.proofs.Kept.{link_kept}
use Rattle.plan_routes.proofs.Kept.{route_kept}
use Rattle.plan.proofs.Sound.{empty_sound}
use Rattle.plan_keywords.specs.declared.Word.{Word}
use Rattle.plan_keywords.specs.declared.Word.TheVariants.{Node, Set, Link, Route}
use Rattle.plan_statement.specs.declared.Statement.{Statement}
use Rattle.plan_statement.specs.Statement.{read_statement}
use Rattle.plan_configuration.specs.declared.configure.Configured.{Configured}
use Rattle.plan_configuration.specs.Configure.{add_by, add, add_said, add_line, add_lines, done, faulty, configured}
use Rattle.plan_configuration.proofs.Lines.{no_node}
use Rattle.plan_building.specs.declared.Fault.{Fault}
use Rattle.plan_building.specs.declared.Fault.TheVariants.{WrongLine, NoNode}
use Rattle.std.specs.Prelude.{Result, Ok, Err}

-- of two outcomes that are sound each, the one that a test picks is
either : (plan : Plan) (test : Bool) (a b : Result Plan Fault) → Sound (plan_after plan a) → Sound (plan_after plan b) → Sound (plan_after plan (cond test a b))
either plan true a b p q = p
either plan false a b p q = q

either_made : (test : Bool) (a b : Configured) → Sound a.plan → Sound b.plan → Sound (cond test a b).plan
either_made true a b p q = p
either_made false a b p q = q

module _ (plan : Plan) (sound : Sound plan) where
  by_word_kept : (word : Word) (first second third : ℕ) → Kept plan (add_by word plan first second third)
  by_word_kept Node first second third = node_kept plan sound first second
  by_word_kept Set first second third = set_kept plan sound first second
  by_word_kept Link first second third = link_kept plan sound first second third
  by_word_kept Route first second third = route_kept plan sound first second third

  -- whatever the statement is
  pub added_sound : (statement : Statement) → Kept plan (add plan statement)
  added_sound statement = by_word_kept statement.word statement.first statement.second statement.third

  said_sound : (said : Result Statement Fault) → Sound (plan_after plan (add_said plan said))
  said_sound (Ok statement) = (added_sound statement).still_sound
  said_sound (Err fault) = sound

  line_sound : (line : List ℕ) (ended : Bool) → Sound (plan_after plan (add_line plan line ended))
  line_sound line ended =
      either plan (no_node plan line) (Err NoNode) (cond ended (add_said plan (read_statement line)) (Err WrongLine)) sound
      (either plan ended (add_said plan (read_statement line)) (Err WrongLine) (said_sound (read_statement line)) sound)

lines_sound : (lines : List (List ℕ)) (plan : Plan) (number : ℕ) → Sound plan → Sound (add_lines plan number lines).plan
unfolding add_lines
lines_sound [] plan number sound = sound
lines_sound (last ∷ []) plan number sound =
    either_made (plan.given && is_empty last) (done plan) (faulty number (fault_of (add_line plan last false))) sound empty_sound
lines_sound (line ∷ next ∷ more) plan number sound =
    let added = add_line plan line true in
    let rest = lines_sound (next ∷ more) (plan_after plan added) (number + 1) (line_sound plan sound line true) in
    either_made (eqb (fault_of added) 0) (add_lines (plan_after plan added) (number + 1) (next ∷ more)) (faulty number (fault_of added)) rest empty_sound

-- the plan of a text, and the empty one beside a fault
pub configured_sound : (text : List ℕ) → Sound (configured text).plan
configured_sound text =
    either_made (ltb 16384 (length text)) (faulty 0 24) (add_lines empty_plan 1 (split lf text)) empty_sound
    (lines_sound (split lf text) empty_plan 1 empty_sound)
