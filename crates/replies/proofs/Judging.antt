-- What an event leaves that is judged by a reply: all as it was where the reply isn't 0, and what it does where it is.
-- Assumes nothing.
use mathlib.Core.Path.{◌≡◌, sym, ap, ◌∙◌}
use mathlib.Core.Bool.{Bool, true, false, cond}
use mathlib.Core.List.{List}
use Prim.Native.Nat.{ℕ, ◌≤◌, ◌<◌}
use lib.Dec.{eqb}
use borrow.Author.Tests.{eq-eqb}
use Rattle.replies.specs.declared.Answer.{Answer}
use Rattle.replies.specs.Reply.{plain}
use Rattle.replies.specs.Areas.{Areas, areas, Outcome, outcome, refused, judged, Leaves}
use Rattle.replies.proofs.Leaving.{leaves}
use Rattle.replies.proofs.Rows.{refused as over_none, done}

module _ (told reply : ℕ) (same : told ≡ reply) (does : Outcome) (before : Areas) where
  by_test : (test : Bool) → eqb reply 0 ≡ test → cond test does (refused reply before) ≡ judged reply does before
  by_test test e = ap (λ (t : Bool). cond t does (refused reply before)) (sym e)

  pub is_refused : 0 < told → refused told before ≡ judged reply does before
  is_refused over =
      ap (λ (n : ℕ). refused n before) same ∙ by_test false (over_none told reply same over)

  pub is_done : told ≤ 0 → does ≡ judged reply does before
  is_done none = by_test true (eq-eqb reply 0 (done told reply same none))

  -- "unchanged": what is answered and left then
  pub leaves_refused : 0 < told → (answer : Answer) → answer ≡ plain told → Leaves (judged reply does before) answer before
  leaves_refused over answer says =
      leaves (judged reply does before) answer before (ap (λ (r : Answer). outcome r before) says ∙ is_refused over)

  -- done
  pub leaves_done : told ≤ 0 → (answer : Answer) (after : Areas) → outcome answer after ≡ does
      → Leaves (judged reply does before) answer after
  leaves_done none answer after is = leaves (judged reply does before) answer after (is ∙ is_done none)

-- an answer and areas that an outcome leaves make it up
pub whole : (o : Outcome) (r : Answer) (links marks spans rings rows arrivals reports : List ℕ)
    → Leaves o r (areas links marks spans rings rows arrivals reports)
    → outcome r (areas links marks spans rings rows arrivals reports) ≡ o
whole o r links marks spans rings rows arrivals reports left =
    simp (
      left.answers,
      left.in_links,
      left.in_marks,
      left.in_spans,
      left.in_rings,
      left.in_rows,
      left.in_arrivals,
      left.in_reports,
    )
