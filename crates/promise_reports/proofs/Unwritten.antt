-- Every call leaves the report area as it was lent behind the records that its answer counts, whatever the plan and the memory.
-- Assumes nothing.
use mathlib.Core.Path.{◌≡◌, refl, sym, ap, ◌∙◌}
use mathlib.Core.List.{List, [], ◌∷◌}
use Prim.Native.Nat.{ℕ, zero, suc, ◌+◌, ◌*◌}
use native.Mathlib.Omega.{arith}
use native.Mathlib.Numerals.{add-one}
use lib.Dec.{ltb}
use lib.ListN.{length, set, drop, length-append}
use lib.Seq.{sets, drop-drop, drop-set-lt}
use borrow.Table.Steps.{cases}
use Rattle.plan.specs.declared.data.Plan.{Plan}
use Rattle.reports.specs.Report.{Log, room, told}
use Rattle.node.specs.declared.call.Event.{Event}
use Rattle.node.specs.Memory.{Memory}
use Rattle.node.specs.Call.{call_of}
use Rattle.promise_ledger.specs.Reported.{report, reports_in}
use Rattle.promise_ledger.proofs.Told.{told_long}
use Rattle.promise_reports.specs.Unwritten.{Unwritten}
use Rattle.promise_reports.proofs.Writes.{call_kept}

-- an area has as many records as are asked for
pub reports_many : (area : List ℕ) (many : ℕ) → length (reports_in area many) ≡ many
unfolding reports_in
reports_many area zero = refl
reports_many area (suc more) =
    length-append (reports_in area more) (report _ _ ∷ []) ∙ ap (λ (n : ℕ). n + 1) (reports_many area more) ∙ add-one more

module _ (lent : List ℕ) where
  -- behind the records of a log the area is as it was lent
  abbrev Behind : Log → Type 0
  Behind written = drop (2 * written.count) written.area ≡ drop (2 * written.count) lent

  -- behind a record more too
  further : (area : List ℕ) (many kind number : ℕ) → drop (2 * many) area ≡ drop (2 * many) lent
      → drop (2 * (many + 1)) (sets area (2 * many) (kind ∷ number ∷ [])) ≡ drop (2 * (many + 1)) lent
  further area many kind number same =
      let next : 2 * (many + 1) ≡ 2 * many + 2 = omega arith in
      drop-set-lt (2 * (many + 1)) (set area (2 * many) kind) (suc (2 * many)) number (omega arith)
      ∙ drop-set-lt (2 * (many + 1)) area (2 * many) kind (omega arith)
      ∙ ap (λ (n : ℕ). drop n area) next
      ∙ sym (drop-drop 2 (2 * many) area)
      ∙ ap (drop 2) same
      ∙ drop-drop 2 (2 * many) lent
      ∙ ap (λ (n : ℕ). drop n lent) (sym next)

  behind_more : (written : Log) (kind number : ℕ) → Behind written → Behind (told written kind number)
  unfolding told
  behind_more written kind number h =
      cases (ltb written.count (room written.area))
      (λ e. simp e (further written.area written.count kind number h))
      (λ e. simp e h)

-- every call
module _ (plan : Plan) (message : List ℕ) (m : Memory) (event : Event) where
  pub call_unwritten : Unwritten m.areas.reports (call_of plan event message m)
  call_unwritten =
      let lent : List ℕ = m.areas.reports in
      let r = call_of plan event message m in
      record {
        counted = reports_many r.after.areas.reports r.answer.reports;
        behind = call_kept (Behind lent) (behind_more lent) plan message m refl event;
        long =
            call_kept (λ (written : Log). length written.area ≡ length lent)
            (λ written kind number h. told_long written kind number ∙ h)
            plan
            message
            m
            refl
            event;
      }
