-- A line without fault leaves a plan with its node, and has its LF. Assumes nothing.
use mathlib.Core.Path.{◌≡◌, refl}
use mathlib.Core.Bool.{Bool, true, false, cond, not, ◌&&◌, ◌||◌}
use mathlib.Core.List.{List}
use Prim.Native.Nat.{ℕ}
use native.Mathlib.Omega.{arith}
use lib.Dec.{eqb, ltb, leb}
use Rattle.plan.specs.declared.data.Plan.{Plan}
use Rattle.plan.specs.Data.{set_at, link_at, links_of, routes_of}
use Rattle.plan.specs.Find.{place_of, is_found}
use Rattle.plan_repeats.specs.Taken.{adjacent_taken, slc_taken}
use Rattle.plan_routes.specs.RouteLines.{route_taken}
use Rattle.plan_building.specs.Building.{fault_of, plan_after}
use Rattle.plan_keywords.specs.declared.Word.{Word}
use Rattle.plan_keywords.specs.declared.Word.TheVariants.{Node, Set, Link, Route}
use Rattle.plan_statement.specs.Statement.{read_statement}
use Rattle.plan_building.proofs.Numbers.{over}
use Rattle.plan_faults.proofs.EachLine.{each_line}
use Rattle.plan_configuration.specs.Configure.{add_by, add_said, add_line, first_word, is_node}
use Rattle.plan_building.specs.declared.Fault.{Fault}
use Rattle.plan_building.specs.declared.Fault.TheVariants.{WrongLine, OutOfRange, Repeat, NotGiven, Full, NoNode}
use Rattle.std.specs.Prelude.{Some, Result, Ok, Err}

-- what is put in without fault has its node
record WithNode (plan : Plan) (added : Result Plan Fault) : Type 0 where
  node : fault_of added ≡ 0 → (plan_after plan added).given ≡ true

module _ (plan : Plan) where
  one_of : (test : Bool) (a b : Result Plan Fault) → WithNode plan a → WithNode plan b → WithNode plan (cond test a b)
  one_of true a b p q = p
  one_of false a b p q = q

  told : (fault : Fault) → WithNode plan (Err fault)
  told fault = record { node = λ e. absurd (omega (arith, over fault, e)) }

  put_in : (next : Plan) → next.given ≡ true → WithNode plan (Ok next)
  put_in next has = record { node = λ e. has }

  -- the word `node`, or a plan that has its node
  by_word : (word : Word) → (is_node (Some word) ≡ false → plan.given ≡ true) → (a b c : ℕ) → WithNode plan (add_by word plan a b c)
  by_word Node has a b c =
      one_of (ltb 16383 a || ltb 3 b) _ _ (told OutOfRange) (one_of plan.given _ _ (told Repeat) (put_in _ refl))
  by_word Set has a b c =
      one_of (ltb 7 a || ltb 16383 b) _ _ (told OutOfRange)
      (one_of ((set_at plan a).given || (adjacent_taken plan.sets b || eqb b plan.code)) _ _ (told Repeat) (put_in _ (has refl)))
  by_word Link has a b c =
      one_of (ltb 31 a || (ltb 7 b || ltb 15 c)) _ _ (told OutOfRange)
      (one_of (not (set_at plan b).given) _ _ (told NotGiven)
      (one_of ((link_at plan a).given || slc_taken plan (links_of plan b) c) _ _ (told Repeat)
      (one_of (leb 8 (set_at plan b).count) _ _ (told Full) (put_in _ (has refl)))))
  by_word Route has a b c =
      one_of (ltb 16383 a || (ltb 7 b || ltb 3 c)) _ _ (told OutOfRange)
      (one_of (not (set_at plan b).given) _ _ (told NotGiven)
      (one_of (eqb a plan.code) _ _ (told Repeat)
      (one_of (is_found plan a) _ _
      (one_of (route_taken (routes_of plan (place_of plan a)) b c) _ _ (told Repeat) (put_in _ (has refl)))
      (one_of (leb 64 plan.count) _ _ (told Full) (put_in _ (has refl))))))

  module _ (line : List ℕ) where
    -- what a line makes
    pub has_node : (ended : Bool) → fault_of (add_line plan line ended) ≡ 0 → (plan_after plan (add_line plan line ended)).given ≡ true
    has_node ended = (each_line (WithNode plan) plan told by_word line ended).node

    -- a line without LF is faulty
    without_end : (missing : Bool) (added : Result Plan Fault) → fault_of (cond missing (Err NoNode) (cond false added (Err WrongLine))) ≡ 0 → ⊥
    without_end true added e = omega arith
    without_end false added e = omega arith

    pub end_faulty : fault_of (add_line plan line false) ≡ 0 → ⊥
    end_faulty = without_end (not plan.given && not (is_node (first_word line))) (add_said plan (read_statement line))
