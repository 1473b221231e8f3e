-- A route list line by line: the lines from a place on are the line there and those behind it, and behind the last LF stands none.
-- Assumes nothing.
use mathlib.Core.Path.{◌≡◌, refl, sym, ap, ap₂, subst, ◌∙◌}
use mathlib.Core.Bool.{Bool, true, false, cond}
use mathlib.Core.List.{List, [], ◌∷◌}
use Prim.Native.Nat.{ℕ, ◌≤◌, ◌<◌}
use native.Mathlib.Nat.{le_refl}
use lib.ListN.{length}
use lib.Seq.{slice}
use Rattle.text.specs.declared.part.Part.{Part}
use Rattle.text.specs.Part.{lf, line_at, split}
use Rattle.text_decimals.specs.Decimal.{decimal_of}
use Rattle.text.proofs.Parts.{first_part, next_onward, next_within}
use Rattle.text_pages.specs.Page.{ended}
use Rattle.replay_routes.specs.Routed.{routed, route_word}

-- what the lines of a list from a place on write
abbrev pub routed_from : ℕ → List ℕ → ℕ → List (List ℕ)
routed_from number list from = routed number (split lf (slice from (length list) list))

-- a line with others behind it is written before them
line_on : (number : ℕ) (line : List ℕ) (more : List (List ℕ)) (next : List ℕ) (rest : List (List ℕ)) → more ≡ next ∷ rest
    → routed number (line ∷ more) ≡ decimal_of number ∷ route_word ∷ line ∷ ended ∷ routed number more
unfolding routed
line_on number line more next rest e = subst (λ (m : List (List ℕ)). routed number (line ∷ m) ≡ decimal_of number ∷ route_word ∷ line ∷ ended ∷ routed number m) (sym e) refl

module _ (number : ℕ) (list : List ℕ) (from : ℕ) (part : Part) (here : part ≡ line_at list from) where
  lines_are : split lf (slice from (length list) list) ≡ slice from part.end list ∷ cond part.closed (split lf (slice part.next (length list) list)) []
  lines_are =
      subst
      (λ (p : Part). split lf (slice from (length list) list) ≡ slice from p.end list ∷ cond p.closed (split lf (slice p.next (length list) list)) [])
      (sym here)
      (first_part lf list from (length list))

  pub routes_on : (line : List ℕ) → line ≡ slice from part.end list → part.closed ≡ true
      → routed_from number list from ≡ decimal_of number ∷ route_word ∷ line ∷ ended ∷ routed_from number list part.next
  routes_on line told e =
      let more = split lf (slice part.next (length list) list) in
      ap (routed number) (lines_are ∙ ap₂ (λ (s : List ℕ) (t : Bool). s ∷ cond t more []) (sym told) e)
      ∙ line_on number line more _ _ (first_part lf list part.next (length list))

  pub routes_end : part.closed ≡ false → routed_from number list from ≡ []
  unfolding routed
  routes_end e =
      ap (routed number) (lines_are ∙ ap (λ (t : Bool). slice from part.end list ∷ cond t (split lf (slice part.next (length list) list)) []) e)

-- past a line with its LF the walk has gone on, and not past the list
pub onward : (list : List ℕ) (from : ℕ) → from ≤ length list → (part : Part) → part ≡ line_at list from → part.closed ≡ true
    → (from < part.next) × (part.next ≤ length list)
onward list from h part here e =
    let closed = sym (ap (λ (p : Part). p.closed) here) ∙ e in (
      rw here (next_onward lf list from (length list) h (le_refl (length list)) closed),
      rw here (next_within lf list from (length list) h (le_refl (length list))),
    )
