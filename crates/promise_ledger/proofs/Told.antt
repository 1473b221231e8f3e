-- What a record more in the report area tells: it stands behind those that were there, and of the drops only a drop is one more.
-- Assumes nothing.
use mathlib.Core.Path.{◌≡◌, refl, ap, ap₂, ◌∙◌}
use mathlib.Core.Bool.{Bool, false, not, ◌&&◌}
use mathlib.Core.List.{List, [], ◌∷◌, ◌++◌}
use Prim.Native.Nat.{ℕ, zero, suc, ◌+◌, ◌*◌, ◌≤◌, ◌<◌, ◌/◌}
use native.Mathlib.Omega.{arith}
use native.Mathlib.Numerals.{add-one}
use lib.Dec.{ltb}
use lib.ListN.{length, get_or, set, length-set}
use lib.Seq.{sets, get_or-set_same, get_or-set_other, length-sets}
use borrow.Author.Tests.{lt-ltb, le-ltb, ltb-true}
use borrow.Table.Steps.{cases}
use Rattle.plan.specs.declared.data.Plan.{Plan}
use Rattle.plan.specs.Find.{given}
use Rattle.queue_store.specs.Sound.{bit, tally}
use Rattle.queue_store.proofs.Tallies.{tally_end}
use Rattle.reports.specs.Report.{Log, pause, resume, room, told}
use Rattle.route_access.specs.Change.{code_of, told_one, told_from, changes_told}
use Rattle.promise_ledger.specs.Reported.{Report, report, reports_in, reports_of, is_drop, drops_of}

-- two areas with the same words have the same records
reports_same : (area other : List ℕ) (many : ℕ) → ((place : ℕ) → place < 2 * many → get_or other place 0 ≡ get_or area place 0)
    → reports_in other many ≡ reports_in area many
unfolding reports_in
reports_same area other zero same = refl
reports_same area other (suc more) same =
    let earlier = reports_same area other more (λ place h. same place (omega arith)) in
    simp (earlier, same (2 * more) (omega arith), same (2 * more + 1) (omega arith))

module _ (area : List ℕ) (many kind number : ℕ) where
  abbrev after : List ℕ
  after = sets area (2 * many) (kind ∷ number ∷ [])

  -- a record that is written leaves the words before it
  earlier_word : (place : ℕ) → place < 2 * many → get_or after place 0 ≡ get_or area place 0
  earlier_word place h =
      get_or-set_other (set area (2 * many) kind) (suc (2 * many)) place number 0 (λ e. omega arith)
      ∙ get_or-set_other area (2 * many) place kind 0 (λ e. omega arith)

  module _ (free : many < room area) where
    -- its own are those written
    kind_word : get_or after (2 * many) 0 ≡ kind
    kind_word =
        get_or-set_other (set area (2 * many) kind) (suc (2 * many)) (2 * many) number 0 (λ e. omega arith)
        ∙ get_or-set_same area (2 * many) kind 0 (omega arith)

    number_word : get_or after (2 * many + 1) 0 ≡ number
    number_word =
        ap (λ (place : ℕ). get_or after place 0) (add-one (2 * many))
        ∙ get_or-set_same (set area (2 * many) kind) (suc (2 * many)) number 0 (omega (arith, length-set area (2 * many) kind))

    -- so it stands behind those before it
    one_more : reports_in after (many + 1) ≡ reports_in area many ++ (report kind number ∷ [])
    unfolding reports_in
    one_more =
        ap (reports_in after) (add-one many)
        ∙ ap₂ (λ (earlier : List Report) (last : Report). earlier ++ (last ∷ [])) (reports_same area after many earlier_word)
        (ap₂ report kind_word number_word)

-- a drop at the end is the last of the drops; another record is none
drops_end : (earlier : List Report) (kind number : ℕ) → kind < pause
    → drops_of (earlier ++ (report kind number ∷ [])) ≡ drops_of earlier ++ (number ∷ [])
unfolding drops_of
drops_end [] kind number h = simp (lt-ltb kind pause h)
drops_end (one ∷ others) kind number h =
    let later = drops_end others kind number h in
    cases (is_drop one) (λ e. simp (e, later)) (λ e. simp (e, later))

drops_else : (earlier : List Report) (kind number : ℕ) → pause ≤ kind
    → drops_of (earlier ++ (report kind number ∷ [])) ≡ drops_of earlier
unfolding drops_of
drops_else [] kind number h = simp (le-ltb kind pause h)
drops_else (one ∷ others) kind number h =
    let later = drops_else others kind number h in
    cases (is_drop one) (λ e. simp (e, later)) (λ e. simp (e, later))

module _ (written : Log) (kind number : ℕ) where
  -- with room for it a record is told behind the others
  pub told_there : written.count < room written.area
      → reports_of (told written kind number) ≡ reports_of written ++ (report kind number ∷ [])
  unfolding told
  told_there free = simp (lt-ltb _ _ free) (one_more written.area written.count kind number free)

  -- a full area stays as it is
  told_full : ltb written.count (room written.area) ≡ false → told written kind number ≡ written
  unfolding told
  told_full e = simp e

  -- it is one record more, and the area has the room that it had
  pub told_count : written.count < room written.area → (told written kind number).count ≡ written.count + 1
  unfolding told
  told_count free = simp (lt-ltb _ _ free)

  pub told_long : length (told written kind number).area ≡ length written.area
  unfolding told
  told_long =
      cases (ltb written.count (room written.area))
      (λ e. simp (e, length-sets written.area (2 * written.count) (kind ∷ number ∷ [])))
      (λ e. simp e)

  pub told_room : room (told written kind number).area ≡ room written.area
  told_room = ap (λ (words : ℕ). words / 2) told_long

  -- a drop is one more of the drops
  pub told_drop : kind < pause → written.count < room written.area → (test : ℕ → Bool)
      → tally test (drops_of (reports_of (told written kind number))) ≡ tally test (drops_of (reports_of written)) + bit (test number)
  told_drop h free test =
      ap (λ (all : List Report). tally test (drops_of all)) (told_there free)
      ∙ ap (tally test) (drops_end (reports_of written) kind number h)
      ∙ tally_end test (drops_of (reports_of written)) number

  -- a pause or a resume leaves them, with room for it or without
  pub told_else : pause ≤ kind → drops_of (reports_of (told written kind number)) ≡ drops_of (reports_of written)
  told_else h =
      cases (ltb written.count (room written.area))
      (λ e. ap drops_of (told_there (ltb-true _ _ e)) ∙ drops_else (reports_of written) kind number h)
      (λ e. ap (λ (l : Log). drops_of (reports_of l)) (told_full e))

-- the report of changes leaves the drops
one_even : (before after : Bool) (code : ℕ) (log : Log) → drops_of (reports_of (told_one before after code log)) ≡ drops_of (reports_of log)
unfolding told_one
one_even before after code log =
    cases (before && not after)
    (λ e. simp e (told_else log pause code (omega arith)))
    (λ e.
    cases (after && not before)
    (λ d. simp (e, d) (told_else log resume code (omega arith)))
    (λ d. simp (e, d)))

from_even : (plan : Plan) (before after : ℕ → Bool) (destination many : ℕ) (log : Log)
    → drops_of (reports_of (told_from plan before after destination many log)) ≡ drops_of (reports_of log)
unfolding told_from
from_even plan before after destination zero log = refl
from_even plan before after destination (suc more) log =
    from_even plan before after (destination + 1) more
    (told_one (before destination) (after destination) (code_of plan destination) log)
    ∙ one_even (before destination) (after destination) (code_of plan destination) log

pub changes_even : (plan : Plan) (before after : ℕ → Bool) (log : Log)
    → drops_of (reports_of (changes_told plan before after log)) ≡ drops_of (reports_of log)
changes_even plan before after log = from_even plan before after 0 (given plan) log
