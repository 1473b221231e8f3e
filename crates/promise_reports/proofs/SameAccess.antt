-- Access depends on which links carry and which routes are marked, and on nothing else: numbers, timers and the clocks of a destination leave it.
-- Assumes nothing.
use mathlib.Core.Path.{◌≡◌, refl, sym, ap, ap₂, ◌∙◌, fun_ext}
use mathlib.Core.Bool.{Bool, not, ◌&&◌, and-eq-true_iff}
use mathlib.Core.List.{List, [], ◌++◌}
use Prim.Native.Nat.{ℕ, zero, suc, ◌+◌, ◌*◌, ◌%◌, ◌≤◌}
use native.Mathlib.Omega.{arith}
use lib.Dec.{eqb, ltb}
use lib.ListN.{length}
use lib.Seq.{get_or-set_other}
use borrow.Author.Tests.{ltb-true}
use borrow.Table.Steps.{cases}
use Rattle.plan.specs.declared.data.Plan.{Plan}
use Rattle.plan.specs.Find.{given}
use Rattle.plan.proofs.Split.{split, alike}
use Rattle.area_flags.specs.Flags.{word, with_flag}
use Rattle.area_links.specs.declared.LinkRecord.{LinkRecord}
use Rattle.area_links.specs.LinkRecords.{record_at}
use Rattle.route_serving.specs.State.{carries, is_marked}
use Rattle.route_choice.specs.Which.{none, chosen}
use Rattle.route_ways.specs.Way.{link_for}
use Rattle.route_access.specs.Change.{is_accessible, code_of}
use Rattle.changeback_service.proofs.Carries.{state_read}
use Rattle.promise_runs.proofs.Records.{Rewritten}
use Rattle.promise_ledger.specs.Reported.{Report}
use Rattle.promise_leaving.specs.Going.{change, changes}
use Rattle.promise_reports.specs.Tells.{access_changes}

-- the same links carry, and the same routes are marked
abbrev pub Carrying : List ℕ → List ℕ → Type 0
Carrying links after = (link : ℕ) → carries after link ≡ carries links link

abbrev pub Marked : List ℕ → List ℕ → Type 0
Marked marks after = (destination rank : ℕ) → is_marked after destination rank ≡ is_marked marks destination rank

module _ (plan : Plan) where
  -- so access is the same
  pub access_same : (links links_after marks marks_after : List ℕ) → Carrying links links_after → Marked marks marks_after
      → is_accessible plan links_after marks_after ≡ is_accessible plan links marks
  unfolding is_accessible link_for
  access_same links links_after marks marks_after carrying marked =
      fun_ext
      (λ (d : ℕ).
      ap (λ (link : ℕ). ltb link none)
      (ap₂ (λ (serving : ℕ → Bool) (mark : ℕ → Bool). chosen serving mark plan d 0)
      (fun_ext (λ (link : ℕ). ap (λ (t : Bool). ltb link 32 && (not (eqb link none) && t)) (carrying link)))
      (fun_ext (λ (rank : ℕ). marked d rank))))

  -- and no change is told
  none_from : (access : ℕ → Bool) (more destination : ℕ) → changes plan access access destination more ≡ []
  unfolding changes
  none_from access zero destination = refl
  none_from access (suc more) destination =
      let tells : (t : Bool) → change t t (code_of plan destination) ≡ [] = λ t. cases t (λ e. simp e) (λ e. simp e) in
      ap (λ (l : List Report). l ++ changes plan access access (destination + 1) more) (tells (access destination))
      ∙ none_from access more (destination + 1)

  pub none_changed : (links links_after marks marks_after : List ℕ) → Carrying links links_after → Marked marks marks_after
      → access_changes plan links marks links_after marks_after ≡ []
  none_changed links links_after marks marks_after carrying marked =
      ap (λ (access : ℕ → Bool). changes plan (is_accessible plan links marks) access 0 (given plan))
      (access_same links links_after marks marks_after carrying marked)
      ∙ none_from (is_accessible plan links marks) (given plan) 0

-- a record that is rewritten and carries as it did
pub rewritten_carrying : (links after : List ℕ) (link : ℕ) (new : LinkRecord) → length links ≡ 256 → Rewritten links link new after
    → ltb 0 (new.state % 4) ≡ ltb 0 (record_at links link).state → Carrying links after
rewritten_carrying links after link new long rewritten same other =
    let said : (record_at after other).state ≡ (record_at links other).state → carries after other ≡ carries links other =
    λ e. ap (ltb 0) (state_read after other ∙ e ∙ sym (state_read links other))
    in
    split link 32
    (λ within.
    alike other link
    (λ here.
    ap (ltb 0) (state_read after other)
    ∙ ap (λ (l : ℕ). ltb 0 (record_at after l).state) here
    ∙ ap (λ (known : LinkRecord). ltb 0 known.state) (rewritten.there long within)
    ∙ same
    ∙ ap (λ (l : ℕ). ltb 0 (record_at links l).state) (sym here)
    ∙ ap (ltb 0) (sym (state_read links other)))
    (λ apart. said (ap (λ (known : LinkRecord). known.state) (rewritten.others other apart))))
    (λ past. said (ap (λ (l : List ℕ). (record_at l other).state) (rewritten.past past)))

-- a flag behind the marks of the four routes
pub flag_marked : (marks : List ℕ) (place flag : ℕ) (on : Bool) → 4 ≤ flag → Marked marks (with_flag marks place flag on)
flag_marked marks place flag on high destination rank =
    cases (ltb place 64 && ltb flag 8)
    (λ e.
    let within = ltb-true flag 8 ((and-eq-true_iff (ltb place 64) (ltb flag 8)).0 e).1 in
    cases (ltb rank 4)
    (λ low.
    let first = ltb-true rank 4 low in
    simp e
    (ap (λ (n : ℕ). ltb destination 64 && (ltb rank 4 && ltb 0 n))
    (get_or-set_other marks (8 * place + flag) (8 * destination + rank) (word on) 0 (λ same. omega (arith, within, first)))))
    (λ past. simp (e, past)))
    (λ e. simp e)
