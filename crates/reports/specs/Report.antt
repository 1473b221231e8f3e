-- "Reports: drops in queue order (arrival number, reason), then pause or resume, by code, of each destination whose access
-- changed." (R138, R139) The area has two words for each record: what it is, and the arrival number or code that it is about.
use Rattle.std.specs.Prelude.{ℕ, ◌+◌, ◌*◌, ◌/◌, Bool, cond, List, [], ◌∷◌, ltb, length}
use Rattle.std.proofs.lemmas.List.Edits.{sets}

-- the report area, and how many records are written in it
pub record Log : Type 0 where
  pub area : List ℕ
  pub count : ℕ

abbrev pub log : List ℕ → ℕ → Log
log area count = record { area = area; count = count }

-- what a record is: a drop by its reason, 1 to 3, or a pause, or a resume
abbrev pub pause : ℕ
pause = 4

abbrev pub resume : ℕ
resume = 5

-- how many records an area has room for
abbrev pub room : List ℕ → ℕ
room area = length area / 2

-- "a lent report area room for 512 records" (R25): one with less is too short (R43)
abbrev pub short : List ℕ → Bool
short area = ltb (room area) 512

-- a record behind those written before; a full area takes none (R69, R219)
unfoldable pub told : Log → ℕ → ℕ → Log
told written kind number =
    cond (ltb written.count (room written.area))
    (log (sets written.area (2 * written.count) (kind ∷ number ∷ [])) (written.count + 1))
    written
