-- `plan_repeats::taken::beside_each` meets its contract: the links are looked at in order. Assumes nothing.
use mathlib.Core.Path.{◌≡◌}
use Prim.Native.Nat.{◌≤◌}
use lib.ListN.{length, take}
use Rattle.std.proofs.Common.{ℕ, Bool, eqb, ltb}
use Rattle.plan.specs.declared.data.Plan.{Plan}
use Rattle.plan.specs.Data.{link_at}
use Rattle.plan_repeats.proofs.Searches.{Looking}
use Rattle.plan_repeats.proofs.taken.beside_each.Given as goal

abbrev pub same : Plan → ℕ → ℕ → Bool
same plan slc link = eqb (link_at plan link).slc slc

abbrev pub less : Plan → ℕ → ℕ → Bool
less plan slc link = ltb (link_at plan link).slc slc

abbrev pub invariant-loop-i : goal.invariant-loop-i
invariant-loop-i l = (l.m ≤ 8) × (length (take l.count l.links) ≡ l.m) × Looking (same l.plan l.slc) (less l.plan l.slc) (take l.count l.links) l.i l.lower l.taken
