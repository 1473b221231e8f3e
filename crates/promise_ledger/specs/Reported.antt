-- What a report area tells: "drops in queue order (arrival number, reason), then pause or resume" (R138, R139).
use Rattle.std.specs.Prelude.{ℕ, zero, suc, ◌+◌, ◌*◌, Bool, cond, List, [], ◌∷◌, ◌++◌, ltb, get_or}
use Rattle.reports.specs.Report.{Log, pause}

-- a record: what it is, and the arrival number or the code that it is about
pub record Report : Type 0 where
  pub kind : ℕ
  pub number : ℕ

abbrev pub report : ℕ → ℕ → Report
report kind number = record { kind = kind; number = number }

-- the first so many records of an area, in order
unfoldable pub reports_in : List ℕ → ℕ → List Report
reports_in area zero = []
reports_in area (suc more) =
    reports_in area more ++ (report (get_or area (2 * more) 0) (get_or area (2 * more + 1) 0) ∷ [])

abbrev pub reports_of : Log → List Report
reports_of log = reports_in log.area log.count

-- a drop, with its reason: the others are a pause and a resume
abbrev pub is_drop : Report → Bool
is_drop told = ltb told.kind pause

-- the arrival numbers of the drops among some records
unfoldable pub drops_of : List Report → List ℕ
drops_of [] = []
drops_of (told ∷ later) = cond (is_drop told) (told.number ∷ drops_of later) (drops_of later)
