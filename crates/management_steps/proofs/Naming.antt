-- A message that names no link asks nothing, whatever it would ask of one. Assumes nothing.
use mathlib.Core.Path.{◌≡◌, sym, ap, ◌∙◌}
use mathlib.Core.Bool.{Bool, cond}
use Prim.Native.Nat.{ℕ, ◌≤◌, ◌<◌}
use lib.Dec.{ltb}
use borrow.Author.Tests.{lt-ltb, le-ltb}
use Rattle.management_steps.specs.declared.Step.{Step}
use Rattle.management_steps.specs.Step.{nothing}

-- the link that was found is the one that the message names
module _ (link named : ℕ) (is : link ≡ named) (asks : ℕ → Step) (step : Step) where
  abbrev asked : ℕ → Step
  asked l = cond (ltb l 32) (asks l) nothing

  pub names_none : 32 ≤ link → step ≡ nothing → step ≡ asked named
  names_none h e = e ∙ ap (λ (t : Bool). cond t (asks link) nothing) (sym (le-ltb link 32 h)) ∙ ap asked is

  pub names_one : link < 32 → step ≡ asks link → step ≡ asked named
  names_one h e = e ∙ ap (λ (t : Bool). cond t (asks link) nothing) (sym (lt-ltb link 32 h)) ∙ ap asked is
