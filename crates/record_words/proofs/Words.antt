-- The first word that a text is the same as names it.
-- Assumes nothing.
use mathlib.Core.Path.{◌≡◌, sym, ap, ◌∙◌}
use mathlib.Core.Bool.{Bool, true, false, cond}
use Rattle.std.specs.Prelude.{Option}
use Rattle.record_kinds.specs.declared.Kind.{Kind}

-- a text that is the word
pub named : (same is : Bool) (kind other : Option Kind) → same ≡ is → same ≡ true → kind ≡ cond is kind other
named same is kind other e h = ap (λ (b : Bool). cond b kind other) (sym h ∙ e)

-- one that isn't goes by the words behind it
pub passed : (same is : Bool) (kind other found : Option Kind) → same ≡ is → same ≡ false → found ≡ other → found ≡ cond is kind other
passed same is kind other found e h r = r ∙ ap (λ (b : Bool). cond b kind other) (sym h ∙ e)
