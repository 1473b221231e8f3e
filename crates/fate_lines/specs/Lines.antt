-- What a run of a record writes of messages (docs/FORMATS.md, "Fates"): a line for each that something became of.
use Rattle.std.specs.Prelude.{ℕ, cond, List, [], ◌∷◌, ◌++◌, eqb}
use Rattle.text_decimals.specs.Decimal.{decimal_of}
use Rattle.text_pages.specs.Page.{ended, parted}
use Rattle.fate_lines.specs.declared.Fate.{Fate}
use Rattle.fate_lines.specs.declared.Fate.TheVariants.{Unchanged, Queued, Sent, Acknowledged, Retired, Moved}

-- `queued`, `sent`, `acknowledged`, `retired` and `moved`, each between its tabs
abbrev pub queued_word : List ℕ
queued_word = 9 ∷ 113 ∷ 117 ∷ 101 ∷ 117 ∷ 101 ∷ 100 ∷ 9 ∷ []

abbrev pub sent_word : List ℕ
sent_word = 9 ∷ 115 ∷ 101 ∷ 110 ∷ 116 ∷ 9 ∷ []

abbrev pub acknowledged_word : List ℕ
acknowledged_word = 9 ∷ 97 ∷ 99 ∷ 107 ∷ 110 ∷ 111 ∷ 119 ∷ 108 ∷ 101 ∷ 100 ∷ 103 ∷ 101 ∷ 100 ∷ 9 ∷ []

abbrev pub retired_word : List ℕ
retired_word = 9 ∷ 114 ∷ 101 ∷ 116 ∷ 105 ∷ 114 ∷ 101 ∷ 100 ∷ 9 ∷ []

abbrev pub moved_word : List ℕ
moved_word = 9 ∷ 109 ∷ 111 ∷ 118 ∷ 101 ∷ 100 ∷ 9 ∷ []

-- a link by its number; "`apart` stands for the link where it is held apart while T6 runs"
abbrev pub placed : ℕ → List ℕ
placed queue = cond (eqb queue 32) (97 ∷ 112 ∷ 97 ∷ 114 ∷ 116 ∷ []) (decimal_of queue)

-- the name of a management message by its heading: the table of "Octets on the wire" (R31, R32, R33, R34, R35)
abbrev pub name_of : ℕ → List ℕ
name_of heading =
    cond (eqb heading 0x11) (67 ∷ 79 ∷ 79 ∷ [])
    (cond (eqb heading 0x21) (67 ∷ 79 ∷ 65 ∷ [])
    (cond (eqb heading 0x51) (67 ∷ 66 ∷ 68 ∷ [])
    (cond (eqb heading 0x61) (67 ∷ 66 ∷ 65 ∷ [])
    (cond (eqb heading 0x12) (69 ∷ 67 ∷ 79 ∷ [])
    (cond (eqb heading 0x22) (69 ∷ 67 ∷ 65 ∷ [])
    (cond (eqb heading 0x14) (84 ∷ 70 ∷ 80 ∷ [])
    (cond (eqb heading 0x54) (84 ∷ 70 ∷ 65 ∷ [])
    (cond (eqb heading 0x15) (82 ∷ 83 ∷ 84 ∷ [])
    (63 ∷ 63 ∷ 63 ∷ [])))))))))

-- "Behind the link of a message that the node made stands its name": a user message has heading 0
abbrev pub queued_at : ℕ → ℕ → List (List ℕ)
queued_at queue heading =
    cond (eqb heading 0) (placed queue ∷ ended ∷ []) (placed queue ∷ parted ∷ name_of heading ∷ ended ∷ [])

-- the line of a fate; what stays as it was has none
abbrev pub fate_line : ℕ → Fate → List (List ℕ)
fate_line number Unchanged = []
fate_line number (Queued arrival queue heading) = decimal_of number ∷ queued_word ∷ decimal_of arrival ∷ parted ∷ queued_at queue heading
fate_line number (Sent arrival link fsn) =
    decimal_of number ∷ sent_word ∷ decimal_of arrival ∷ parted ∷ placed link ∷ parted ∷ decimal_of fsn ∷ ended ∷ []
fate_line number (Acknowledged arrival link) = decimal_of number ∷ acknowledged_word ∷ decimal_of arrival ∷ parted ∷ placed link ∷ ended ∷ []
fate_line number (Retired arrival link) = decimal_of number ∷ retired_word ∷ decimal_of arrival ∷ parted ∷ placed link ∷ ended ∷ []
fate_line number (Moved arrival from to) =
    decimal_of number ∷ moved_word ∷ decimal_of arrival ∷ parted ∷ placed from ∷ parted ∷ placed to ∷ ended ∷ []

-- the lines of some, in order
unfoldable pub fate_lines : ℕ → List Fate → List (List ℕ)
fate_lines number [] = []
fate_lines number (fate ∷ later) = fate_line number fate ++ fate_lines number later
