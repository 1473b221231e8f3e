-- What a configuration leaves, by its fault: with one, what was; without, what is new. Assumes nothing.
use mathlib.Core.Path.{◌≡◌, sym, ap, ◌∙◌}
use mathlib.Core.Bool.{Bool, true, false, cond}
use Prim.Native.Nat.{◌≤◌, ◌<◌}
use native.Mathlib.Omega.{arith}
use lib.Dec.{eqb}
use borrow.Author.Tests.{eq-eqb, ne_eqb}
use Rattle.plan_configuration.specs.declared.configure.Configured.{Configured}
use Rattle.replies.specs.Reply.{if_done}

module _ {A : Type 0} (made said : Configured) (same : made ≡ said) where
  left : (new old : A) (test : Bool) → eqb made.fault 0 ≡ test → cond test new old ≡ if_done said.fault new old
  left new old test e =
      ap (λ (t : Bool). cond t new old) (sym e) ∙ ap (λ (c : Configured). if_done c.fault new old) same

  pub kept : 0 < made.fault → (new old : A) → old ≡ if_done said.fault new old
  kept fault new old = left new old false (ne_eqb made.fault 0 (omega arith))

  pub renewed : made.fault ≤ 0 → (new old now : A) → now ≡ new → now ≡ if_done said.fault new old
  renewed none new old now e = e ∙ left new old true (eq-eqb made.fault 0 (omega arith))
