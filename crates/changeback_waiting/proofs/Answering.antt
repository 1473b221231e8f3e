-- What a CBA leaves, from what the code does with it: nothing, or the link's CBD answered; and that only the links change by it.
-- Assumes nothing.
use mathlib.Core.Path.{◌≡◌, refl, sym, ap, ◌∙◌}
use mathlib.Core.Bool.{Bool, true, false, cond}
use mathlib.Core.List.{List, []}
use Prim.Native.Nat.{ℕ}
use Rattle.plan.specs.declared.data.Plan.{Plan}
use Rattle.replies.specs.declared.Answer.{Answer}
use Rattle.replies.specs.Reply.{plain, done}
use Rattle.replies.specs.Areas.{Areas, areas, Outcome, outcome, with_links, Leaves}
use Rattle.replies.proofs.Leaving.{leaves}
use Rattle.changeback_waiting.specs.Wait.{answers, answered, answered_by}

-- one of two answers with one of two lists of links is an answer with links
one_outcome : (said : Bool) (r r' : Answer) (links links' : List ℕ) (a : Areas)
    → cond said (outcome r (with_links a links)) (outcome r' (with_links a links'))
    ≡ outcome (cond said r r') (with_links a (cond said links links'))
one_outcome true r r' links links' a = refl
one_outcome false r r' links links' a = refl

module _ (plan : Plan) (point slc code : ℕ) where
  -- the answer, and the links after it, by whether it counts
  abbrev answer_by : Bool → Answer
  answer_by said = cond said (done 0) (plain 11)

  abbrev links_by : List ℕ → Bool → List ℕ
  links_by links said = cond said (answered plan links point slc) links

  abbrev counts : List ℕ → Bool
  counts links = answers plan links point slc code

  by_count : (a : Areas)
      → answered_by plan point slc code a
      ≡ outcome (answer_by (counts a.links)) (with_links a (links_by a.links (counts a.links)))
  unfolding answered_by
  by_count a =
      one_outcome (counts a.links) (done 0) (plain 11) (answered plan a.links point slc) a.links a

  leaves_by : (a : Areas) (r : Answer) (links : List ℕ) → r ≡ answer_by (counts a.links)
      → links ≡ links_by a.links (counts a.links)
      → Leaves (answered_by plan point slc code a) r (with_links a links)
  leaves_by a r links e f =
      leaves _ r (with_links a links)
      (ap (λ (x : Answer). outcome x (with_links a links)) e
      ∙ ap (λ (l : List ℕ). outcome (answer_by (counts a.links)) (with_links a l)) f
      ∙ sym (by_count a))

  module _ (a : Areas) (told : Bool) (tells : told ≡ answers plan a.links point slc code) where
    -- "else 11"
    pub not_counted : told ≡ false → (r : Answer) → r ≡ plain 11
        → Leaves (answered_by plan point slc code a) r a
    not_counted left r e =
        let f = sym left ∙ tells in
        leaves_by a r a.links (e ∙ ap answer_by f) (ap (links_by a.links) f)

    -- "only while its CBD is unanswered"
    pub counted : told ≡ true → (after : List ℕ) → after ≡ answered plan a.links point slc → (r : Answer) → r ≡ done 0
        → Leaves (answered_by plan point slc code a) r (with_links a after)
    counted holds after does r e =
        let t = sym holds ∙ tells in
        leaves_by a r after (e ∙ ap answer_by t) (does ∙ ap (links_by a.links) t)

  -- what it leaves of the links alone it leaves of all areas, the others as they were
  pub in_all : (a : Areas) (r : Answer) (links : List ℕ)
      → Leaves (answered_by plan point slc code (areas a.links [] [] [] [] [] [])) r (areas links [] [] [] [] [] [])
      → Leaves (answered_by plan point slc code a) r (with_links a links)
  in_all a r links left =
      let alone = by_count (areas a.links [] [] [] [] [] []) in
      leaves_by a r links (left.answers ∙ ap (λ (o : Outcome). o.answer) alone)
      (left.in_links ∙ ap (λ (o : Outcome). o.after.links) alone)
