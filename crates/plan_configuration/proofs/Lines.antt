-- A configuration line by line: what one line does, and that the lines from a place on are the line there and the lines behind it.
-- Assumes nothing.
use mathlib.Core.Path.{◌≡◌, refl, sym, ap, ap₂, subst, ◌∙◌}
use mathlib.Core.Bool.{Bool, true, false, cond, not, ◌&&◌, false≢true}
use mathlib.Core.List.{List, [], ◌∷◌}
use Prim.Native.Nat.{ℕ, ◌+◌, ◌-◌, ◌≤◌, ◌<◌}
use native.Mathlib.Nat.{le_refl}
use native.Mathlib.Omega.{arith}
use lib.Dec.{eqb, leb}
use lib.ListN.{length}
use lib.Seq.{slice, take-length, length-slice}
use borrow.Author.Tests.{le-ltb, leb-true, leb-false, eq-eqb, ne_eqb}
use Rattle.text.specs.declared.part.Part.{Part}
use Rattle.text.specs.Part.{lf, marked, line_at, split, is_empty}
use borrow.Table.Steps.{cases}
use Rattle.text.proofs.Parts.{cut_none, first_part, split_last, next_onward, next_within}
use Rattle.plan.specs.declared.data.Plan.{Plan}
use Rattle.plan.specs.Data.{empty_plan}
use Rattle.plan_building.specs.Building.{fault_of, plan_after}
use Rattle.plan_keywords.specs.declared.Word.{Word}
use Rattle.plan_statement.specs.declared.Statement.{Statement}
use Rattle.plan_statement.specs.Statement.{read_statement}
use Rattle.plan_configuration.specs.Configure.{add_by, add, add_said, first_word, is_node, add_line, add_lines, done, faulty, configured}
use Rattle.plan_building.specs.declared.Fault.{Fault}
use Rattle.plan_building.specs.declared.Fault.TheVariants.{WrongLine, NoNode}
use Rattle.std.specs.Prelude.{Option, Result, Err}

-- a statement is put in by its word
pub by_word : (plan : Plan) (statement : Statement) (word : Word) → statement.word ≡ word → add_by word plan statement.first statement.second statement.third ≡ add plan statement
by_word plan statement word e =
    sym (ap (λ (w : Word). add_by w plan statement.first statement.second statement.third) e)

-- no node is given, and the line's word isn't `node`
abbrev pub no_node : Plan → List ℕ → Bool
no_node plan line = not plan.given && not (is_node (first_word line))

module _ (plan : Plan) (line : List ℕ) (word : Option Word) (told : Bool) (first : word ≡ first_word line) (tells : told ≡ is_node word) where
  tested : (given test : Bool) → plan.given ≡ given → told ≡ test → no_node plan line ≡ not given && not test
  tested given test e f = ap₂ (λ (a b : Bool). not a && not b) e (sym (tells ∙ ap is_node first) ∙ f)

  pub node_missing : plan.given ≡ false → told ≡ false → no_node plan line ≡ true
  node_missing e f = tested false false e f

  pub node_told : plan.given ≡ false → told ≡ true → no_node plan line ≡ false
  node_told e f = tested false true e f

pub node_given : (plan : Plan) (line : List ℕ) → plan.given ≡ true → no_node plan line ≡ false
node_given plan line e = ap (λ (a : Bool). not a && not (is_node (first_word line))) e

module _ (plan : Plan) (line : List ℕ) (ended : Bool) where
  pub no_node_lem : no_node plan line ≡ true → add_line plan line ended ≡ Err NoNode
  no_node_lem e = ap (λ (t : Bool). cond t (Err NoNode) (cond ended (add_said plan (read_statement line)) (Err WrongLine))) e

  goes_on : no_node plan line ≡ false → add_line plan line ended ≡ cond ended (add_said plan (read_statement line)) (Err WrongLine)
  goes_on e = ap (λ (t : Bool). cond t (Err NoNode) (cond ended (add_said plan (read_statement line)) (Err WrongLine))) e

  pub no_end : no_node plan line ≡ false → ended ≡ false → add_line plan line ended ≡ Err WrongLine
  no_end e f = goes_on e ∙ ap (λ (t : Bool). cond t (add_said plan (read_statement line)) (Err WrongLine)) f

  pub said : no_node plan line ≡ false → ended ≡ true → {what : Result Statement Fault} → read_statement line ≡ what → add_line plan line ended ≡ add_said plan what
  said e f g = goes_on e ∙ ap (λ (t : Bool). cond t (add_said plan (read_statement line)) (Err WrongLine)) f ∙ ap (add_said plan) g

-- a line with no LF is faulty
no_end_faulty : (plan : Plan) (line : List ℕ) → fault_of (add_line plan line false) ≡ 0 → ⊥
no_end_faulty plan line e =
    cases (no_node plan line)
    (λ t. let z : ◌≡◌ {A = ℕ} 25 0 = sym (ap fault_of (no_node_lem plan line false t)) ∙ e in omega arith)
    (λ t. let z : ◌≡◌ {A = ℕ} 20 0 = sym (ap fault_of (no_end plan line false t refl)) ∙ e in omega arith)

-- the lines of a text from a place on
abbrev pub lines_from : List ℕ → ℕ → List (List ℕ)
lines_from text at = split lf (slice at (length text) text)

lines_are : (text : List ℕ) (at : ℕ) (end : Part) → end ≡ line_at text at → lines_from text at ≡ slice at end.end text ∷ cond end.closed (lines_from text end.next) []
lines_are text at end e =
    subst (λ (p : Part). lines_from text at ≡ slice at p.end text ∷ cond p.closed (lines_from text p.next) []) (sym e)
    (first_part lf text at (length text))

-- past the end there is nothing
pub lines_end : (text : List ℕ) (at : ℕ) → length text ≤ at → lines_from text at ≡ [] ∷ []
unfolding split
lines_end text at h = simp (cut_none at (length text) text h)

both : (a b : Bool) → a && b ≡ true → (a ≡ true) × (b ≡ true)
both true b e = (refl, e)
both false b e = absurd (false≢true e)

some : (s : List ℕ) → 0 < length s → is_empty s ≡ false
some [] h = absurd (omega arith)
some (x ∷ s) h = refl

first : List (List ℕ) → List ℕ
first [] = []
first (line ∷ rest) = line

-- one turn of reading: with the node line read and nothing left, the plan is made; else the line there is put in
module _ (plan : Plan) (number : ℕ) (text : List ℕ) (at : ℕ) where
  pub turn_done : plan.given && leb (length text) at ≡ true → add_lines plan number (lines_from text at) ≡ done plan
  unfolding add_lines
  turn_done e =
      let h = both plan.given (leb (length text) at) e in
      ap (add_lines plan number) (lines_end text at (leb-true _ _ h.1))
      ∙ ap (λ (t : Bool). cond (t && true) (done plan) (faulty number (fault_of (add_line plan [] false)))) h.0

  module _ (end : Part) (here : end ≡ line_at text at) where
    line : List ℕ
    line = slice at end.end text

    -- what stands behind the last LF
    last_line : end.closed ≡ false → lines_from text at ≡ line ∷ []
    unfolding line
    last_line c = lines_are text at end here ∙ ap (λ (t : Bool). line ∷ cond t (lines_from text end.next) []) c

    -- it is all that is left of the text
    last_whole : end.closed ≡ false → line ≡ slice at (length text) text
    unfolding first
    last_whole c =
        let open-end : marked lf (slice at (length text) text) ≡ false = sym (ap (λ (p : Part). p.closed) here) ∙ c in
        ap first (sym (last_line c) ∙ split_last lf (slice at (length text) text) open-end)

    -- a line with its LF, and the lines behind it
    closed_line :
        end.closed ≡ true →
        add_lines plan number (lines_from text at)
        ≡ cond (eqb (fault_of (add_line plan line true)) 0)
        (add_lines (plan_after plan (add_line plan line true)) (number + 1) (lines_from text end.next))
        (faulty number (fault_of (add_line plan line true)))
    unfolding line add_lines
    closed_line c =
        let rest = lines_from text end.next in
        let lines = lines_are text at end here ∙ ap (λ (t : Bool). line ∷ cond t rest []) c in
        ap (add_lines plan number) lines
        ∙ subst
        (λ (r : List (List ℕ)). add_lines plan number (line ∷ r) ≡ cond (eqb (fault_of (add_line plan line true)) 0) (add_lines (plan_after plan (add_line plan line true)) (number + 1) r) (faulty number (fault_of (add_line plan line true))))
        (sym (lines_are text end.next (line_at text end.next) refl))
        refl

    module _ (added : Result Plan Fault) (put : added ≡ add_line plan (slice at end.end text) end.closed) where
      -- as the line is put in with its LF, or without
      as_ended : (t : Bool) → end.closed ≡ t → fault_of added ≡ fault_of (add_line plan line t)
      unfolding line
      as_ended t c = ap fault_of (put ∙ ap (add_line plan line) c)

      -- the first faulty line is reported
      pub turn_faulty : plan.given && leb (length text) at ≡ false → (fault_of added ≡ 0 → ⊥) → add_lines plan number (lines_from text at) ≡ faulty number (fault_of added)
      unfolding add_lines
      turn_faulty e f =
          cases end.closed
          (λ c.
          let bad : eqb (fault_of (add_line plan line true)) 0 ≡ false = ne_eqb _ _ (λ z. f (as_ended true c ∙ z)) in
          closed_line c
          ∙ ap (λ (t : Bool). cond t (add_lines (plan_after plan (add_line plan line true)) (number + 1) (lines_from text end.next)) (faulty number (fault_of (add_line plan line true)))) bad
          ∙ ap (faulty number) (sym (as_ended true c)))
          (λ c.
          ap (add_lines plan number) (last_line c)
          ∙ ap (λ (t : Bool). cond t (done plan) (faulty number (fault_of (add_line plan line false)))) (left c)
          ∙ ap (faulty number) (sym (as_ended false c)))
        where
          left : end.closed ≡ false → plan.given && is_empty line ≡ false
          left c =
              cases plan.given
              (λ g.
              let near : at < length text = leb-false (length text) at (sym (ap (λ (t : Bool). t && leb (length text) at) g) ∙ e) in
              let size : length line ≡ length text - at = ap length (last_whole c) ∙ length-slice at (length text) text (omega arith) in
              ap (λ (t : Bool). t && is_empty line) g ∙ some line (omega arith))
              (λ g. ap (λ (t : Bool). t && is_empty line) g)

      -- a line that isn't faulty has its LF, and reading goes on behind it
      pub turn_closed : fault_of added ≡ 0 → end.closed ≡ true
      turn_closed f = cases end.closed (λ c. c) (λ c. absurd (no_end_faulty plan line (sym (as_ended false c) ∙ f)))

      pub turn_on : fault_of added ≡ 0 → add_lines plan number (lines_from text at) ≡ add_lines (plan_after plan added) (number + 1) (lines_from text end.next)
      unfolding line
      turn_on f =
          let c = turn_closed f in
          let good : eqb (fault_of (add_line plan line true)) 0 ≡ true = eq-eqb _ _ (sym (as_ended true c) ∙ f) in
          let next : plan_after plan (add_line plan line true) ≡ plan_after plan added = ap (plan_after plan) (sym (put ∙ ap (add_line plan line) c)) in
          closed_line c
          ∙ ap (λ (t : Bool). cond t (add_lines (plan_after plan (add_line plan line true)) (number + 1) (lines_from text end.next)) (faulty number (fault_of (add_line plan line true)))) good
          ∙ ap (λ (p : Plan). add_lines p (number + 1) (lines_from text end.next)) next

-- where reading stands: what is left decides what the whole text makes
pub record Reading (text : List ℕ) (plan : Plan) (number at : ℕ) : Type 0 where
  pub inside : at ≤ length text
  pub few : number ≤ at + 1
  pub short : length text ≤ 16384
  pub same : add_lines plan number (lines_from text at) ≡ add_lines empty_plan 1 (split lf text)

pub begun : (text : List ℕ) (plan : Plan) → length text ≤ 16384 → plan ≡ empty_plan → Reading text plan 1 0
begun text plan h e =
    record {
      inside = omega arith;
      few = omega arith;
      short = h;
      same = ap (λ (p : Plan). add_lines p 1 (lines_from text 0)) e ∙ ap (λ (s : List ℕ). add_lines empty_plan 1 (split lf s)) (take-length text);
    }

-- a line that isn't faulty leads on, past it and not past the text
module _ (text : List ℕ) (plan : Plan) (number at : ℕ) (r : Reading text plan number at) (end : Part) (here : end ≡ line_at text at)
    (added : Result Plan Fault) (put : added ≡ add_line plan (slice at end.end text) end.closed) (fine : fault_of added ≡ 0) where
  pub onward : at < end.next
  onward =
      let closed = sym (ap (λ (p : Part). p.closed) here) ∙ turn_closed plan number text at end here added put fine in
      rw here (next_onward lf text at (length text) r.inside (le_refl (length text)) closed)

  pub within : end.next ≤ length text
  within = rw here (next_within lf text at (length text) r.inside (le_refl (length text)))

  pub on : Reading text (plan_after plan added) (number + 1) end.next
  on =
      record {
        inside = within;
        few = omega (arith, onward);
        short = r.short;
        same = sym (turn_on plan number text at end here added put fine) ∙ r.same;
      }

-- a text that isn't too long makes what its lines make
pub whole : (text : List ℕ) → length text ≤ 16384 → add_lines empty_plan 1 (split lf text) ≡ configured text
whole text h = sym (ap (λ (t : Bool). cond t (faulty 0 24) (add_lines empty_plan 1 (split lf text))) (le-ltb 16384 (length text) h))
