-- What a call tells of accesses: "pause or resume, by code, of each destination whose access changed" (R139).
use Rattle.std.specs.Prelude.{ℕ, ◌<◌, ◌≡◌, Bool, cond, List, [], ◌∷◌, eqb}
use Rattle.plan.specs.declared.data.Plan.{Plan}
use Rattle.plan.specs.Find.{given}
use Rattle.replies.specs.Areas.{Areas}
use Rattle.route_access.specs.Change.{is_accessible, code_of}
use Rattle.promise_ledger.specs.Reported.{Report, is_drop}
use Rattle.promise_leaving.specs.Going.{change}

-- the pauses and resumes among some records: those that are no drops
unfoldable pub accesses_in : List Report → List Report
accesses_in [] = []
accesses_in (one ∷ later) = cond (is_drop one) (accesses_in later) (one ∷ accesses_in later)

-- the records about a code
unfoldable pub about : ℕ → List Report → List Report
about code [] = []
about code (one ∷ later) = cond (eqb one.number code) (one ∷ about code later) (about code later)

-- every record is about a higher code than this
unfoldable pub Above : ℕ → List Report → Type 0
Above code [] = Unit {0}
Above code (one ∷ later) = (code < one.number) × Above code later

-- codes ascend strictly
unfoldable pub Ascend : List Report → Type 0
Ascend [] = Unit {0}
Ascend (one ∷ later) = Above one.number later × Ascend later

-- some records tell of a change of access of all destinations, from one answer to "is it accessible" to another
pub record ByCode (plan : Plan) (before after : ℕ → Bool) (told : List Report) : Type 0 where
  -- "by code" (R139)
  pub ascend : Ascend told
  -- of a destination that was accessible and isn't a pause, of one that wasn't and is a resume, of any other nothing
  pub each : (destination : ℕ) → destination < given plan
      → about (code_of plan destination) told ≡ change (before destination) (after destination) (code_of plan destination)
  -- and of a code that no destination has nothing
  pub no_other : (code : ℕ) → ((destination : ℕ) → destination < given plan → code_of plan destination ≡ code → ⊥) → about code told ≡ []

-- the access of each destination, by some areas
abbrev pub access_in : Plan → Areas → ℕ → Bool
access_in plan a destination = is_accessible plan a.links a.marks destination
