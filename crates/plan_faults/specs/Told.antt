-- What is told of a whole text: "The first faulty line is reported, with the first of its faults" (R163, R164).
use Rattle.std.specs.Prelude.{ℕ, ◌+◌, ◌≤◌, ◌<◌, true, false, cond, List, [], ◌∷◌, length}
use Rattle.text.specs.Part.{split, is_empty, lf}
use Rattle.plan.specs.declared.data.Plan.{Plan}
use Rattle.plan.specs.Data.{empty_plan}
use Rattle.plan_configuration.specs.declared.configure.Configured.{Configured}
use Rattle.plan_configuration.specs.Configure.{add_line, done, faulty}
use Rattle.replies_given.specs.GivenWhen.{Gives, None}
use Rattle.plan_faults.specs.Faults.{Line, faults_of}
use Rattle.plan_building.specs.Building.{plan_after}

-- "Lines .., each ended by LF" (R159): what stands behind the last LF is a line without one, and nothing is none
unfoldable pub lines_in : List (List ℕ) → List Line
lines_in [] = []
lines_in (last ∷ []) = cond (is_empty last) [] (record { octets = last; ended = false } ∷ [])
lines_in (line ∷ next ∷ more) = record { octets = line; ended = true } ∷ lines_in (next ∷ more)

-- "or there is no text (line 1)" (R165): no text counts as a line with nothing in it
abbrev pub lines_of : List ℕ → List Line
lines_of text = cond (is_empty text) (record { octets = []; ended = false } ∷ []) (lines_in (split lf text))

-- the plan with a line
abbrev pub with_line : Plan → Line → Plan
with_line plan line = plan_after plan (add_line plan line.octets line.ended)

-- what is told of some lines, the first of which has this number, on the plan that the lines above made
pub data Reads : Plan → ℕ → List Line → Configured → Type 0 where
  -- no line is left: the plan is made, and nothing was faulty
  no_more : (plan : Plan) (number : ℕ) → Reads plan number [] (done plan)
  -- a line with a fault: its number is told, and the first of its faults
  is_faulty : (plan : Plan) (number : ℕ) (line : Line) (later : List Line) (fault : ℕ)
      → Gives (faults_of number plan line) fault
      → Reads plan number (line ∷ later) (faulty number fault)
  -- a line without: it is put into the plan, and the next is read
  faultless : (plan : Plan) (number : ℕ) (line : Line) (later : List Line) (told : Configured)
      → None (faults_of number plan line)
      → Reads (with_line plan line) (number + 1) later told
      → Reads plan number (line ∷ later) told

-- what is told of a text (D1)
pub data Told : List ℕ → Configured → Type 0 where
  -- "Text too long is 24 at line 0." (R160, R175)
  too_long : (text : List ℕ) → 16384 < length text → Told text (faulty 0 24)
  -- else what is told of its lines, which are counted from 1
  in_lines : (text : List ℕ) (told : Configured) → length text ≤ 16384 → Reads empty_plan 1 (lines_of text) told → Told text told

-- every line is without fault on the plan that the lines above it made
pub data Faultless : Plan → ℕ → List Line → Type 0 where
  end : (plan : Plan) (number : ℕ) → Faultless plan number []
  next : (plan : Plan) (number : ℕ) (line : Line) (later : List Line)
      → None (faults_of number plan line)
      → Faultless (with_line plan line) (number + 1) later
      → Faultless plan number (line ∷ later)
