-- The fault of a line is the first of its faults that applies, 0 if none does; and it is given exactly if it applies and none before it does.
-- Assumes nothing.
use mathlib.Core.Path.{◌≡◌, refl, sym, ap, subst, ◌∙◌}
use mathlib.Core.Bool.{Bool, true, false, cond, not, ◌&&◌, ◌||◌, or-true, and-eq-true_iff}
use mathlib.Core.Logic.{◌↔◌}
use mathlib.Core.List.{List, [], ◌∷◌}
use Prim.Native.Nat.{ℕ, zero, suc, ◌<◌}
use native.Mathlib.Omega.{arith}
use lib.Dec.{eqb, leb, ltb}
use lib.ListN.{length, get_or, get_or-eq_default}
use borrow.Author.Tests.{eqb-true, lt-ltb, leb-true}
use borrow.Table.Steps.{cases}
use Rattle.text.specs.Part.{split, on_first, tab}
use Rattle.plan.specs.declared.data.Plan.{Plan}
use Rattle.plan.specs.Sound.{Sound}
use Rattle.replies.specs.Reply.{Row, row, first}
use Rattle.replies_given.specs.GivenWhen as GivenWhen
use Rattle.replies_given.proofs.Numbers.{all_of, over_zero, all_weaker, of_first}
use Rattle.replies_given.proofs.Exactly.{given_exactly, none_exactly}
use Rattle.plan_building.specs.Building.{fault_of}
use Rattle.plan_keywords.specs.declared.Word.{Word}
use Rattle.plan_keywords.specs.declared.Word.TheVariants.{Node, Set, Link, Route}
use Rattle.plan_statement.specs.declared.Statement.{Statement}
use Rattle.plan_statement.specs.Statement.{says, said_as, read_statement}
use Rattle.plan_configuration.specs.Configure.{add_said, add_line, first_word, is_node}
use Rattle.plan_faults.specs.Given.{node_given, is_ours, set_given, adjacent_given, link_given, slc_given, set_full, route_by_set, route_of_rank, destinations_full}
use Rattle.plan_faults.specs.Faults.{Line, fields, field, is_unknown, is_miscounted, node_faults, set_faults, link_faults, route_faults, faults_by, faults_of, is_fault}
use Rattle.plan_faults.proofs.Numbers.{numbers_fault, two_numbers_fault}
use Rattle.plan_faults.proofs.Words.{node_fault, set_fault, link_fault, route_fault}
use Rattle.plan_building.specs.declared.Fault.{Fault}
use Rattle.plan_building.specs.declared.Fault.TheVariants.{WrongLine, NoNode}
use Rattle.std.specs.Prelude.{Option, Some, None, Result, Err}

-- a text has a field at least
on_first_some : (x : ℕ) (parts : List (List ℕ)) → 0 < length (on_first x parts)
on_first_some x [] = omega arith
on_first_some x (part ∷ rest) = omega arith

pub split_some : (mark : ℕ) (text : List ℕ) → 0 < length (split mark text)
unfolding split
split_some mark [] = omega arith
split_some mark (x ∷ text) = cases (eqb x mark) (λ e. simp e (omega arith)) (λ e. simp e (on_first_some x (split mark text)))

-- what stands at a place of a list, whatever stands past its end
inside : {A : Type 0} (l : List A) (i : ℕ) (a b : A) → i < length l → get_or l i a ≡ get_or l i b
inside [] i a b h = absurd (omega arith)
inside (x ∷ l) zero a b h = refl
inside (x ∷ l) (suc i) a b h = inside l i a b (omega arith)

module _ (plan : Plan) where
  -- "20 wrong word, field count": by whether the count is right
  counted : (fits : Bool) (said : Result Statement Fault) (rows : List Row) → (fits ≡ true → fault_of (add_said plan said) ≡ first rows)
      → fault_of (add_said plan (cond fits said (Err WrongLine))) ≡ first (row 20 (not fits) ∷ rows)
  unfolding first
  counted true said rows right = right refl
  counted false said rows right = refl

  -- the line's first four rows
  in_front : (missing ended unknown miscounted : Bool) (later : Result Plan Fault) (rows : List Row)
      → fault_of later ≡ first (row 20 unknown ∷ row 20 miscounted ∷ rows)
      → fault_of (cond missing (Err NoNode) (cond ended later (Err WrongLine)))
      ≡ first (row 25 missing ∷ row 20 unknown ∷ row 20 miscounted ∷ row 20 (not ended) ∷ rows)
  unfolding first
  in_front true ended unknown miscounted later rows e = refl
  in_front false true true miscounted later rows e = e
  in_front false true false true later rows e = e
  in_front false true false false later rows e = e
  in_front false false true miscounted later rows e = refl
  in_front false false false true later rows e = refl
  in_front false false false false later rows e = refl

  module _ (sound : Sound plan) where
    by_word : (word : Option Word) (all : List (List ℕ)) → 0 < length all
        → fault_of (add_said plan (said_as word all))
        ≡ first (row 20 (is_unknown word) ∷ row 20 (is_miscounted word (length all)) ∷ faults_by word plan (get_or all 1 []) (get_or all 2 []) (get_or all 3 []))
    unfolding first faults_by
    by_word (Some Node) all some =
        counted (eqb (length all) 3) _ (node_faults plan (get_or all 1 []) (get_or all 2 []))
        (λ e.
        ap (λ (c : List ℕ). fault_of (add_said plan (says Node (get_or all 1 []) (get_or all 2 []) c))) (get_or-eq_default all (48 ∷ []) {n = 3} (omega (arith, eqb-true (length all) 3 e)))
        ∙ two_numbers_fault plan Node 16383 3 (λ a b. row 22 (node_given plan) ∷ []) (node_fault plan) (omega arith) (omega arith) (get_or all 1 []) (get_or all 2 []))
    by_word (Some Set) all some =
        counted (eqb (length all) 3) _ (set_faults plan (get_or all 1 []) (get_or all 2 []))
        (λ e.
        ap (λ (c : List ℕ). fault_of (add_said plan (says Set (get_or all 1 []) (get_or all 2 []) c))) (get_or-eq_default all (48 ∷ []) {n = 3} (omega (arith, eqb-true (length all) 3 e)))
        ∙ two_numbers_fault plan Set 7 16383 (λ a b. row 22 (set_given plan a) ∷ row 22 (adjacent_given plan b) ∷ row 22 (is_ours plan b) ∷ []) (set_fault plan) (omega arith) (omega arith) (get_or all 1 []) (get_or all 2 []))
    by_word (Some Link) all some =
        counted (eqb (length all) 4) _ (link_faults plan (get_or all 1 []) (get_or all 2 []) (get_or all 3 []))
        (λ e.
        ap (λ (c : List ℕ). fault_of (add_said plan (says Link (get_or all 1 []) (get_or all 2 []) c))) (inside all 3 (48 ∷ []) [] (omega (arith, eqb-true (length all) 4 e)))
        ∙ numbers_fault plan Link 31 7 15 (λ a b c. row 23 (not (set_given plan b)) ∷ row 22 (link_given plan a) ∷ row 22 (slc_given plan b c) ∷ row 24 (set_full plan b) ∷ []) (λ a b. link_fault plan a b sound) (omega arith) (omega arith) (omega arith) (get_or all 1 []) (get_or all 2 []) (get_or all 3 []))
    by_word (Some Route) all some =
        counted (eqb (length all) 4) _ (route_faults plan (get_or all 1 []) (get_or all 2 []) (get_or all 3 []))
        (λ e.
        ap (λ (c : List ℕ). fault_of (add_said plan (says Route (get_or all 1 []) (get_or all 2 []) c))) (inside all 3 (48 ∷ []) [] (omega (arith, eqb-true (length all) 4 e)))
        ∙ numbers_fault plan Route 16383 7 3 (λ a b c. row 23 (not (set_given plan b)) ∷ row 22 (is_ours plan a) ∷ row 22 (route_by_set plan a b) ∷ row 22 (route_of_rank plan a c) ∷ row 24 (destinations_full plan a) ∷ []) (route_fault plan sound) (omega arith) (omega arith) (omega arith) (get_or all 1 []) (get_or all 2 []) (get_or all 3 []))
    by_word None all some = refl

-- every row has a number from 20 to 25
abbrev pub numbered : ℕ → Bool
numbered n = leb 20 n && leb n 25

by_word_numbered : (word : Option Word) (plan : Plan) (a b c : List ℕ) → all_of numbered (faults_by word plan a b c) ≡ true
unfolding faults_by
by_word_numbered (Some Node) plan a b c = refl
by_word_numbered (Some Set) plan a b c = refl
by_word_numbered (Some Link) plan a b c = refl
by_word_numbered (Some Route) plan a b c = refl
by_word_numbered None plan a b c = refl

pub rows_numbered : (number : ℕ) (plan : Plan) (line : Line) → all_of numbered (faults_of number plan line) ≡ true
rows_numbered number plan line = by_word_numbered (first_word line.octets) plan (field line 1) (field line 2) (field line 3)

pub rows_over : (number : ℕ) (plan : Plan) (line : Line) → over_zero (faults_of number plan line) ≡ true
rows_over number plan line =
    all_weaker numbered (λ (n : ℕ). ltb 0 n)
    (λ n e. lt-ltb 0 n (omega (arith, leb-true 20 n ((and-eq-true_iff (leb 20 n) (leb n 25)).0 e).0)))
    (faults_of number plan line)
    (rows_numbered number plan line)

-- a line by its number, on a sound plan that has its node from line 1 on
module _ (number : ℕ) (plan : Plan) (line : Line) (sound : Sound plan) (from_First : eqb number 1 ≡ not plan.given) where
  -- the fault of the line
  abbrev fault : ℕ
  fault = fault_of (add_line plan line.octets line.ended)

  pub first_fault : fault ≡ first (faults_of number plan line)
  first_fault =
      let word = first_word line.octets in
      let rest : Bool → List Row = λ missing. row 25 (missing && not (is_node word)) ∷ row 20 (is_unknown word) ∷ row 20 (is_miscounted word (length (fields line))) ∷ row 20 (not line.ended) ∷ faults_by word plan (field line 1) (field line 2) (field line 3) in
      in_front plan (not plan.given && not (is_node word)) line.ended (is_unknown word) (is_miscounted word (length (fields line)))
      (add_said plan (read_statement line.octets))
      (faults_by word plan (field line 1) (field line 2) (field line 3))
      (by_word plan sound word (fields line) (split_some tab line.octets))
      ∙ ap (λ (t : Bool). first (rest t)) (sym from_First)

  -- "given exactly if": over 0, and 0
  pub fault_when : (n : ℕ) → 0 < n → (fault ≡ n) ↔ GivenWhen.Gives (faults_of number plan line) n
  fault_when = given_exactly fault (faults_of number plan line) first_fault

  pub faultless_when : (fault ≡ 0) ↔ GivenWhen.None (faults_of number plan line)
  faultless_when = none_exactly fault (faults_of number plan line) first_fault (rows_over number plan line)

  -- 0, or one of 20 to 25
  pub line_one_of_the_faults : is_fault fault ≡ true
  line_one_of_the_faults =
      subst (λ (n : ℕ). is_fault n ≡ true) (sym first_fault)
      (of_first is_fault refl (faults_of number plan line)
      (all_weaker numbered is_fault (λ n e. ap (λ (t : Bool). eqb n 0 || t) e ∙ or-true (eqb n 0)) (faults_of number plan line) (rows_numbered number plan line)))
