-- The report of changes as it is written, one destination after the other. Assumes nothing.
use mathlib.Core.Path.{◌≡◌, sym, ap, ◌∙◌}
use mathlib.Core.Bool.{Bool, true, false, not, ◌&&◌}
use mathlib.Core.List.{List}
use Prim.Native.Nat.{ℕ, suc, ◌+◌, ◌-◌, ◌<◌, ◌≤◌}
use native.Mathlib.Nat.{sub-zero}
use native.Mathlib.Omega.{arith}
use borrow.Author.Tests.{lt-ltb, le-ltb}
use Rattle.plan.specs.declared.data.Plan.{Plan}
use Rattle.plan.specs.Data.{destination_at}
use Rattle.reports.specs.Report.{Log, log, pause, resume, told}
use Rattle.route_access.specs.Change.{code_of, told_one, told_from}

-- the code of a destination, 0 past the last place
pub code_there : (plan : Plan) (destination : ℕ) → destination < 64
    → (destination_at plan destination).code ≡ code_of plan destination
unfolding code_of
code_there plan destination h = simp (lt-ltb destination 64 h)

pub code_past : (plan : Plan) (destination : ℕ) → 64 ≤ destination → 0 ≡ code_of plan destination
unfolding code_of
code_past plan destination h = simp (le-ltb destination 64 h)

-- what is told, part by part
pub by_parts : {one other : Log} → one ≡ other → (one.count ≡ other.count) × (one.area ≡ other.area)
by_parts e = (ap (λ (l : Log). l.count) e, ap (λ (l : Log). l.area) e)

module _ (before after : Bool) (code : ℕ) (written : Log) where
  -- access that is lost is a pause, access that is won a resume, and what is as it was isn't told
  pub lost : before ≡ true → after ≡ false → told written pause code ≡ told_one before after code written
  unfolding told_one
  lost b a = simp (b, a)

  pub won : before ≡ false → after ≡ true → told written resume code ≡ told_one before after code written
  unfolding told_one
  won b a = simp (b, a)

  pub kept : (before && not after) ≡ false → (after && not before) ≡ false → written ≡ told_one before after code written
  unfolding told_one
  kept b a = simp (b, a)

module _ (plan : Plan) (before after : ℕ → Bool) where
  -- what the report of one destination leaves, with the rest after it, is the report from that destination on
  pub told_next : (d all : ℕ) (written : Log) (access : Bool) (code : ℕ) (area : List ℕ) (count : ℕ) → d < all
      → access ≡ after d → code ≡ code_of plan d → count ≡ (told_one (before d) access code written).count
      → area ≡ (told_one (before d) access code written).area
      → told_from plan before after (d + 1) (all - (d + 1)) (log area count) ≡ told_from plan before after d (all - d) written
  unfolding told_from
  told_next d all written access code area count h accessed coded counted put =
      let one : Log = told_one (before d) access code written in
      let this : log area count ≡ told_one (before d) (after d) (code_of plan d) written =
      ap (λ (a : List ℕ). log a count) put
      ∙ ap (λ (n : ℕ). log one.area n) counted
      ∙ ap (λ (t : Bool). told_one (before d) t code written) accessed
      ∙ ap (λ (k : ℕ). told_one (before d) (after d) k written) coded
      in
      let left : all - d ≡ suc (all - (d + 1)) = omega arith in
      ap (λ (l : Log). told_from plan before after (d + 1) (all - (d + 1)) l) this
      ∙ ap (λ (n : ℕ). told_from plan before after d n written) (sym left)

  -- before the first all is left to tell, and behind the last nothing
  pub told_first : (all : ℕ) (written : Log)
      → told_from plan before after 0 (all - 0) written ≡ told_from plan before after 0 all written
  told_first all written = simp sub-zero

  pub told_last : (d all : ℕ) (written : Log) → all ≤ d → written ≡ told_from plan before after d (all - d) written
  unfolding told_from
  told_last d all written h = let left : all - d ≡ 0 = omega arith in simp left
