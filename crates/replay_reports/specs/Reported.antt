-- What a run of a record writes (docs/FORMATS.md): the lines of a call's reports.
use Rattle.std.specs.Prelude.{ℕ, zero, suc, ◌+◌, ◌*◌, ◌/◌, min, cond, List, [], ◌∷◌, ◌++◌, length, get_or, eqb}
use Rattle.text_decimals.specs.Decimal.{decimal_of}
use Rattle.text_pages.specs.Page.{ended, parted}

-- `drop`, `pause` and `resume`, each between its tabs
abbrev pub drop_word : List ℕ
drop_word = 9 ∷ 100 ∷ 114 ∷ 111 ∷ 112 ∷ 9 ∷ []

abbrev pub pause_word : List ℕ
pause_word = 9 ∷ 112 ∷ 97 ∷ 117 ∷ 115 ∷ 101 ∷ 9 ∷ []

abbrev pub resume_word : List ℕ
resume_word = 9 ∷ 114 ∷ 101 ∷ 115 ∷ 117 ∷ 109 ∷ 101 ∷ 9 ∷ []

-- `N drop ARRIVAL REASON`, `N pause DESTINATION`, `N resume DESTINATION` (docs/FORMATS.md): a record of the report area (R225)
abbrev pub reported : ℕ → ℕ → ℕ → List (List ℕ)
reported number kind about =
    cond (eqb kind 4) (decimal_of number ∷ pause_word ∷ decimal_of about ∷ ended ∷ [])
    (cond (eqb kind 5) (decimal_of number ∷ resume_word ∷ decimal_of about ∷ ended ∷ [])
    (decimal_of number ∷ drop_word ∷ decimal_of about ∷ parted ∷ decimal_of kind ∷ ended ∷ []))

-- so many records of the report area from one on
unfoldable pub reported_from : ℕ → List ℕ → ℕ → ℕ → List (List ℕ)
reported_from number reports k zero = []
reported_from number reports k (suc more) =
    reported number (get_or reports (2 * k) 0) (get_or reports (2 * k + 1) 0) ++ reported_from number reports (k + 1) more

-- reports follow their reply, in the order in which the node told them: as many as were written, of those that the area holds
abbrev pub all_reported : ℕ → List ℕ → ℕ → List (List ℕ)
all_reported number reports count = reported_from number reports 0 (min count (length reports / 2))
