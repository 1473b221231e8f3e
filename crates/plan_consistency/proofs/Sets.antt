-- A set line put into a plan that fits leaves one that does. Assumes nothing.
use mathlib.Core.Path.{◌≡◌, sym, ap, subst, ◌∙◌}
use mathlib.Core.Bool.{Bool, true, false, ◌&&◌, false≢true}
use mathlib.Core.List.{List}
use Prim.Native.Nat.{ℕ, ◌<◌}
use native.Mathlib.Omega.{arith}
use lib.Dec.{eqb}
use lib.ListN.{length, get_or, set, get_or-eq_default}
use lib.Seq.{get_or-set_same, get_or-set_other}
use borrow.Author.Tests.{eqb-false}
use Rattle.plan.specs.declared.data.Plan.{Plan}
use Rattle.plan.specs.declared.data.LinkSet.{LinkSet}
use Rattle.plan.specs.Data.{absent_set, set_at, link_at}
use Rattle.plan.specs.Sound.{Sound}
use Rattle.plan.proofs.Split.{split, alike}
use Rattle.plan_repeats.specs.Taken.{adjacent_taken}
use Rattle.plan_repeats.proofs.Searches.{none_passes}
use Rattle.plan_sets.specs.SetLines.{new_set, with_sets}
use Rattle.plan_consistency.proofs.Fits.{InSet, Fits, serves_still}

-- a set that is given stands in the table
pub given_inside : (sets : List LinkSet) (s : ℕ) → (get_or sets s absent_set).given ≡ true → s < length sets
given_inside sets s e =
    split s (length sets) (λ h. h)
    (λ h. absurd (false≢true (sym (ap (λ (those : LinkSet). those.given) (get_or-eq_default sets absent_set {n = s} h)) ∙ e)))

-- no given set has an adjacent code that isn't taken
pub not_taken : (sets : List LinkSet) (adjacent : ℕ) → adjacent_taken sets adjacent ≡ false
    → (s : ℕ) → (get_or sets s absent_set).given ≡ true → (get_or sets s absent_set).adjacent ≡ adjacent → ⊥
not_taken sets adjacent free s e same =
    let fails = none_passes (λ (those : LinkSet). those.given && eqb those.adjacent adjacent) absent_set sets free s (given_inside sets s e) in
    eqb-false (get_or sets s absent_set).adjacent adjacent (sym (ap (λ (t : Bool). t && eqb (get_or sets s absent_set).adjacent adjacent) e) ∙ fails) same

module _ (plan : Plan) (sound : Sound plan) (fits : Fits plan) (number adjacent : ℕ) (inside : number < 8) (has : plan.given ≡ true)
    (new : (set_at plan number).given ≡ false) (free : adjacent_taken plan.sets adjacent ≡ false) (other : adjacent ≡ plan.code → ⊥) where
  abbrev sets : List LinkSet
  sets = set plan.sets number (new_set adjacent)

  here : get_or sets number absent_set ≡ new_set adjacent
  here = get_or-set_same plan.sets number (new_set adjacent) absent_set (omega (arith, sound.eight_sets))

  there : (s : ℕ) → (s ≡ number → ⊥) → get_or sets s absent_set ≡ set_at plan s
  there s e = get_or-set_other plan.sets number s (new_set adjacent) absent_set e

  -- a set that was given is another, and as it was
  not_new : (s : ℕ) → (set_at plan s).given ≡ true → s ≡ number → ⊥
  not_new s e same = false≢true (sym new ∙ ap (λ (n : ℕ). (set_at plan n).given) (sym same) ∙ e)

  as_it_was : (s : ℕ) → (set_at plan s).given ≡ true → set_at plan s ≡ get_or sets s absent_set
  as_it_was s e = sym (there s (not_new s e))

  -- a given set is the new one, or was given
  either : {P : Type 0} (s : ℕ) → (get_or sets s absent_set).given ≡ true
      → (s ≡ number → (get_or sets s absent_set).adjacent ≡ adjacent → P)
      → ((set_at plan s).given ≡ true → (get_or sets s absent_set).adjacent ≡ (set_at plan s).adjacent → P)
      → P
  either s e new_one old-one =
      alike s number
      (λ same. new_one same (ap (λ (n : ℕ). (get_or sets n absent_set).adjacent) same ∙ ap (λ (those : LinkSet). those.adjacent) here))
      (λ differs.
      old-one (ap (λ (those : LinkSet). those.given) (sym (there s differs)) ∙ e) (ap (λ (those : LinkSet). those.adjacent) (there s differs)))

  pub set_fits : Fits (with_sets plan sets)
  set_fits =
      record {
        node_first = λ e. absurd (false≢true (sym e ∙ has));
        standing = λ link e. let old = fits.standing link e in subst (λ (those : LinkSet). InSet those link) (as_it_was (link_at plan link).set old.is_given) old;
        apart =
            record {
              once =
                  λ s o e f same.
                  either s e
                  (λ s-new s-code.
                  either o f
                  (λ o-new o-code. s-new ∙ sym o-new)
                  (λ o-old o-code. absurd (not_taken plan.sets adjacent free o o-old (sym o-code ∙ sym same ∙ s-code))))
                  (λ s-old s-code.
                  either o f
                  (λ o-new o-code. absurd (not_taken plan.sets adjacent free s s-old (sym s-code ∙ same ∙ o-code)))
                  (λ o-old o-code. fits.apart.once s o s-old o-old (sym s-code ∙ same ∙ o-code)));
              not_ours =
                  λ s e same.
                  either s e (λ s-new s-code. other (sym s-code ∙ same)) (λ s-old s-code. fits.apart.not_ours s s-old (sym s-code ∙ same));
            };
        served =
            λ place h.
            serves_still plan.code plan.sets sets (λ s e. ap (λ (those : LinkSet). those.given) (sym (as_it_was s e)) ∙ e) _ (fits.served place h);
      }
