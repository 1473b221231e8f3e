-- What the expiry of T8 leaves: all as it was where it is refused, and else its flag cleared. Assumes nothing.
use mathlib.Core.Path.{◌≡◌, sym, ap, ◌∙◌}
use mathlib.Core.Bool.{Bool, true, false, cond}
use mathlib.Core.List.{List}
use Prim.Native.Nat.{ℕ}
use lib.Dec.{eqb}
use borrow.Author.Tests.{eq-eqb}
use Rattle.plan.specs.declared.data.Plan.{Plan}
use Rattle.plan.specs.Find.{place_of}
use Rattle.area_flags.specs.Flags.{with_flag}
use Rattle.rerouting_expiry.specs.Expiry.{reply_of, expired_t8}

module _ (plan : Plan) (marks : List ℕ) (x : ℕ) where
  t8_by : (does : Bool) → eqb (reply_of plan marks x 5) 0 ≡ does
      → cond does (with_flag marks (place_of plan x) 5 false) marks ≡ expired_t8 plan marks x
  unfolding expired_t8
  t8_by does e = ap (λ (t : Bool). cond t (with_flag marks (place_of plan x) 5 false) marks) (sym e)

  pub t8_refused : eqb (reply_of plan marks x 5) 0 ≡ false → marks ≡ expired_t8 plan marks x
  t8_refused e = t8_by false e

  pub t8_stops : reply_of plan marks x 5 ≡ 0 → (place : ℕ) → place ≡ place_of plan x
      → with_flag marks place 5 false ≡ expired_t8 plan marks x
  t8_stops e place at = ap (λ (p : ℕ). with_flag marks p 5 false) at ∙ t8_by true (eq-eqb _ _ e)
