-- The tables of a plan: how long one is, from its values one by one, and what stands past its end. Assumes nothing.
use mathlib.Core.Path.{◌≡◌, sym, ◌∙◌}
use mathlib.Core.List.{List, [], map}
use Prim.Native.Nat.{ℕ, ◌≤◌}
use lib.ListN.{length, length-map, get_or-eq_default}
use Rattle.plan.specs.declared.data.Plan.{Plan}
use Rattle.plan.specs.Data.{absent_set, links_of}

pub unmapped : (X Y : Type 0) (f : X → Y) (l : List X) (n : ℕ) → length (map f l) ≡ n → length l ≡ n
unmapped X Y f l n e = sym (length-map l f) ∙ e

pub no_links : (plan : Plan) (number : ℕ) → length plan.sets ≤ number → links_of plan number ≡ []
no_links plan number h = simp (get_or-eq_default plan.sets absent_set h)
