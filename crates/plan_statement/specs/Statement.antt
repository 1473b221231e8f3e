-- What a line says: "`node code ni`; `set number adjacent`; `link number set slc`; `route destination set rank`" (R161), and its fault 20 or
-- 21. Whether the numbers are in range is asked where they are put into the plan.
use Rattle.std.specs.Prelude.{ℕ, cond, List, [], ◌∷◌, length, get_or, eqb, Option, Some, None, Result, Ok, Err}
use Rattle.text.specs.Part.{split, tab}
use Rattle.text_fields.specs.Fields.{number}
use Rattle.plan_keywords.specs.declared.Word.{Word}
use Rattle.plan_statement.specs.declared.Statement.{Statement}
use Rattle.plan_keywords.specs.StatementWords.{word_of, fields_of}
use Rattle.plan_building.specs.declared.Fault.{Fault}
use Rattle.plan_building.specs.declared.Fault.TheVariants.{WrongLine, OutOfRange}

-- "21 not a plain decimal (no leading zero)" (R167), of at most 64 bits: a longer one is out of every range
abbrev pub with_number : Option ℕ → (ℕ → Result Statement Fault) → Result Statement Fault
with_number (Some n) says = says n
with_number None says = Err OutOfRange

-- a word and its numbers
abbrev pub says : Word → List ℕ → List ℕ → List ℕ → Result Statement Fault
says word first second third =
    with_number (number first)
    (λ a. with_number (number second) (λ b. with_number (number third) (λ c. Ok (record { word = word; first = a; second = b; third = c }))))

-- a line by its word and its fields: "20 wrong word, field count" (R166); where there is no third number it is 0
abbrev pub said_as : Option Word → List (List ℕ) → Result Statement Fault
said_as (Some word) fields =
    cond (eqb (length fields) (fields_of word))
    (says word (get_or fields 1 []) (get_or fields 2 []) (get_or fields 3 (48 ∷ [])))
    (Err WrongLine)
said_as None fields = Err WrongLine

-- a line by its fields, the first of which is its word
abbrev pub said_by : List (List ℕ) → Result Statement Fault
said_by fields = said_as (word_of (get_or fields 0 [])) fields

-- "Lines of decimal fields parted by tabs" (R158)
abbrev pub read_statement : List ℕ → Result Statement Fault
read_statement line = said_by (split tab line)

-- the same by the count of the fields and the first four of them
abbrev pub says_counted : ℕ → Option Word → List ℕ → List ℕ → List ℕ → Result Statement Fault
says_counted count (Some word) first second third =
    cond (eqb count (fields_of word)) (says word first second (cond (eqb count 3) (48 ∷ []) third)) (Err WrongLine)
says_counted count None first second third = Err WrongLine
