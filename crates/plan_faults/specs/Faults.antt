-- The faults that can apply to a line of a configuration, in the paper's order, each with its condition: "the first of its faults here" (R164).
use Rattle.std.specs.Prelude.{ℕ, Bool, true, false, not, ◌&&◌, ◌||◌, List, [], ◌∷◌, length, get_or, eqb, leb, Option, Some, None}
use Rattle.text.specs.Part.{split, tab}
use Rattle.text_decimals.specs.Decimal.{is_plain, value_on}
use Rattle.plan.specs.declared.data.Plan.{Plan}
use Rattle.replies.specs.Reply.{Row, row}
use Rattle.plan_keywords.specs.declared.Word.{Word}
use Rattle.plan_keywords.specs.declared.Word.TheVariants.{Node, Set, Link, Route}
use Rattle.plan_keywords.specs.StatementWords.{fields_of}
use Rattle.plan_configuration.specs.Configure.{first_word, is_node}
use Rattle.plan_faults.specs.Given.{node_given, is_ours, set_given, adjacent_given, link_given, slc_given, set_full, route_by_set, route_of_rank, destinations_full}

-- a line: its octets, and whether an LF ends it
pub record Line : Type 0 where
  pub octets : List ℕ
  pub ended : Bool

-- "decimal fields parted by tabs" (R158), the word first
abbrev pub fields : Line → List (List ℕ)
fields line = split tab line.octets

abbrev pub field : Line → ℕ → List ℕ
field line place = get_or (fields line) place []

-- the number that a field says
abbrev pub value : List ℕ → ℕ
value digits = value_on 0 digits

-- "21 not a plain decimal (no leading zero) or out of range" (R167)
abbrev pub is_out : List ℕ → ℕ → Bool
is_out digits top = not (is_plain digits && leb (value digits) top)

-- none of the four words (R161)
abbrev pub is_unknown : Option Word → Bool
is_unknown (Some word) = false
is_unknown None = true

-- another number of fields than a line with the word has; none is right where it is none of the four words (R166)
abbrev pub is_miscounted : Option Word → ℕ → Bool
is_miscounted (Some word) count = not (eqb count (fields_of word))
is_miscounted None count = true

-- `node code ni`: "22 a repeat (node line" (R169)
abbrev pub node_faults : Plan → List ℕ → List ℕ → List Row
node_faults plan code ni =
    row 21 (is_out code 16383)
    ∷ row 21 (is_out ni 3)
    ∷ row 22 (node_given plan)
    ∷ []

-- `set number adjacent`: "22 a repeat (.. set number, adjacent code" (R170) "or our own code" (R173)
abbrev pub set_faults : Plan → List ℕ → List ℕ → List Row
set_faults plan number adjacent =
    row 21 (is_out number 7)
    ∷ row 21 (is_out adjacent 16383)
    ∷ row 22 (set_given plan (value number))
    ∷ row 22 (adjacent_given plan (value adjacent))
    ∷ row 22 (is_ours plan (value adjacent))
    ∷ []

-- `link number set slc`: "23 names something not given above" (R168); "22 a repeat (.. link number, SLC in a set" (R171); "24 table full" (R174)
abbrev pub link_faults : Plan → List ℕ → List ℕ → List ℕ → List Row
link_faults plan number those slc =
    row 21 (is_out number 31)
    ∷ row 21 (is_out those 7)
    ∷ row 21 (is_out slc 15)
    ∷ row 23 (not (set_given plan (value those)))
    ∷ row 22 (link_given plan (value number))
    ∷ row 22 (slc_given plan (value those) (value slc))
    ∷ row 24 (set_full plan (value those))
    ∷ []

-- `route destination set rank`: 23 (R168); "22 a repeat (.. destination with the same set or rank)" (R172) "or our own code" (R173); 24 (R174)
abbrev pub route_faults : Plan → List ℕ → List ℕ → List ℕ → List Row
route_faults plan destination those rank =
    row 21 (is_out destination 16383)
    ∷ row 21 (is_out those 7)
    ∷ row 21 (is_out rank 3)
    ∷ row 23 (not (set_given plan (value those)))
    ∷ row 22 (is_ours plan (value destination))
    ∷ row 22 (route_by_set plan (value destination) (value those))
    ∷ row 22 (route_of_rank plan (value destination) (value rank))
    ∷ row 24 (destinations_full plan (value destination))
    ∷ []

-- 21, 23, 22 and 24 by the word of the line and the fields behind it
unfoldable pub faults_by : Option Word → Plan → List ℕ → List ℕ → List ℕ → List Row
faults_by (Some Node) plan code ni none = node_faults plan code ni
faults_by (Some Set) plan number adjacent none = set_faults plan number adjacent
faults_by (Some Link) plan number those slc = link_faults plan number those slc
faults_by (Some Route) plan destination those rank = route_faults plan destination those rank
faults_by None plan first second third = []

-- a line by its number in the text, on the plan that the lines above it made: "25 the first word of line 1 isn't `node`" (R165); "20 wrong
-- word, field count or no LF" (R159, R166); then the others
abbrev pub faults_of : ℕ → Plan → Line → List Row
faults_of number plan line =
    let word = first_word line.octets in
    row 25 (eqb number 1 && not (is_node word))
    ∷ row 20 (is_unknown word)
    ∷ row 20 (is_miscounted word (length (fields line)))
    ∷ row 20 (not line.ended)
    ∷ faults_by word plan (field line 1) (field line 2) (field line 3)

-- what a configuration is told: 0, or one of 20 to 25 (D1)
abbrev pub is_fault : ℕ → Bool
is_fault fault = eqb fault 0 || (leb 20 fault && leb fault 25)
