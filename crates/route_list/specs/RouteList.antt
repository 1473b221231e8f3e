-- The route list: "a header and a line a destination, ascending; `-` is no link" (R181, R182, R183), with tabs between and LF after every line.
use Rattle.std.specs.Prelude.{false, cond, List, [], ◌∷◌, ◌++◌, ℕ, zero, suc, ◌+◌, min, ltb, length, take, drop}
use Rattle.replies.specs.declared.Answer.{Answer}
use Rattle.text_decimals.specs.Decimal.{decimal_of}
use Rattle.text.specs.Part.{tab, lf}
use Rattle.plan.specs.declared.data.Plan.{Plan}
use Rattle.route_serving.specs.State.{serves, is_marked}
use Rattle.plan.specs.Data.{destination_at}
use Rattle.route_choice.specs.Which.{none, chosen}
use Rattle.route_ways.specs.Way.{for_users}

-- a row: a word behind a tab for each of so many SLS from one on, and LF
unfoldable pub in_row : (ℕ → List ℕ) → ℕ → ℕ → List ℕ
in_row word sls zero = lf ∷ []
in_row word sls (suc more) = tab ∷ (word sls ++ in_row word (suc sls) more)

-- "dest 0 1 2 3 4 5 6 7 8 9 10 11 12 13 14 15" (R181)
abbrev pub header_line : List ℕ
header_line = 100 ∷ 101 ∷ 115 ∷ 116 ∷ in_row decimal_of 0 16

-- "the link by the rule" (decision 25), or `-`
abbrev pub link_word : ℕ → List ℕ
link_word link = cond (ltb link none) (decimal_of link) (45 ∷ [])

-- the link of each SLS, for a destination
abbrev pub link_of : List ℕ → List ℕ → Plan → ℕ → ℕ → ℕ
link_of links marks plan destination sls = chosen (serves links for_users) (is_marked marks destination) plan destination sls

-- the word of an SLS, for a destination
abbrev pub word_of : List ℕ → List ℕ → Plan → ℕ → ℕ → List ℕ
word_of links marks plan destination sls = link_word (link_of links marks plan destination sls)

-- what stands behind a destination's code: the current link of each SLS
abbrev pub row_of : List ℕ → List ℕ → Plan → ℕ → List ℕ
row_of links marks plan destination = in_row (word_of links marks plan destination) 0 16

-- the code of a destination
abbrev pub listed_code : Plan → ℕ → ℕ
listed_code plan destination = (destination_at plan destination).code

-- a destination's line: its code, then the current link of each SLS
abbrev pub line_of : List ℕ → List ℕ → Plan → ℕ → List ℕ
line_of links marks plan destination =
    decimal_of (listed_code plan destination) ++ row_of links marks plan destination

-- the lines of so many destinations from one on
unfoldable pub lines_from : List ℕ → List ℕ → Plan → ℕ → ℕ → List ℕ
lines_from links marks plan destination zero = []
lines_from links marks plan destination (suc more) =
    line_of links marks plan destination ++ lines_from links marks plan (suc destination) more

-- "a line a destination, ascending" (R182)
abbrev pub all_lines : List ℕ → List ℕ → Plan → List ℕ
all_lines links marks plan = lines_from links marks plan 0 (min plan.count 64)

-- the whole list (R184)
abbrev pub list_of : List ℕ → List ℕ → Plan → List ℕ
list_of links marks plan = header_line ++ all_lines links marks plan

-- an area with octets laid from a place on, all else as it was (R69)
abbrev pub laid : List ℕ → ℕ → List ℕ → List ℕ
laid out at octets = take at out ++ (octets ++ drop (at + length octets) out)

-- "A lent output has at least 273 octets (route list: 4,096)" (R23, R24): refused with 1, and 2 with no node
abbrev pub list_reply : List ℕ → Plan → ℕ
list_reply out plan = cond (ltb (length out) 4096) 1 (cond plan.given 0 2)

-- what is written: nothing where it is refused
abbrev pub list_written : List ℕ → List ℕ → List ℕ → Plan → List ℕ
list_written out links marks plan = cond (ltb 0 (list_reply out plan)) [] (list_of links marks plan)

-- what is answered: how many octets it has
abbrev pub list_answer : ℕ → ℕ → Answer
list_answer reply octets = record { reply = reply; fsn = 0; octets = octets; reports = 0; delivers = false }
