-- The first rows of a call on a link: a link or another argument that is out of range, then a link that isn't configured.
-- Assumes nothing.
use Prim.Native.Nat.{ℕ, ◌≤◌, ◌<◌}
use mathlib.Core.Bool.{Bool, true, false, not, ◌||◌}
use mathlib.Core.List.{List, ◌∷◌}
use mathlib.Core.Path.{◌≡◌, sym, ap, ◌∙◌}
use lib.Dec.{leb}
use borrow.Author.Tests.{le-leb, lt-leb}
use Rattle.plan.specs.declared.data.Plan.{Plan}
use Rattle.replies.specs.Reply.{Row, row, first}
use Rattle.replies.proofs.Rows.{applies, passes}
use Rattle.lookup.specs.Lookup.{is_link}

module _ (plan : Plan) (link : ℕ) (other : Bool) (later : List Row) where
  abbrev reply : ℕ
  reply = first (row 1 (leb 32 link || other) ∷ row 2 (not (is_link plan link)) ∷ later)

  pub link_out_of_range : 32 ≤ link → 1 ≡ reply
  link_out_of_range past = sym (applies 1 (leb 32 link || other) _ (simp (le-leb 32 link past)))

  module _ (within : link < 32) where
    pub other_out_of_range : other ≡ true → 1 ≡ reply
    other_out_of_range out = sym (applies 1 (leb 32 link || other) _ (simp (lt-leb 32 link within, out)))

    -- of a link that is configured or not, as a function told
    module _ (inside : other ≡ false) (told : Bool) (e : told ≡ is_link plan link) where
      second_row : reply ≡ first (row 2 (not told) ∷ later)
      second_row =
          passes 1 (leb 32 link || other) _ (simp (lt-leb 32 link within, inside))
          ∙ ap (λ (t : Bool). first (row 2 (not t) ∷ later)) (sym e)

      pub not_configured : not told ≡ true → 2 ≡ reply
      not_configured missing = sym (second_row ∙ applies 2 (not told) later missing)

      pub configured : not told ≡ false → reply ≡ first later
      configured there = second_row ∙ passes 2 (not told) later there
