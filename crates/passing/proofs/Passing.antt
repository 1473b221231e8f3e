-- What a message for another point leaves that came over a link: as one that can't be reached where it has no way, and else queued,
-- or refused where it finds no place or number. Assumes nothing.
use mathlib.Core.Path.{◌≡◌, sym, ap, subst, ◌∙◌}
use mathlib.Core.Bool.{Bool, true, false, cond}
use mathlib.Core.List.{List}
use Prim.Native.Nat.{ℕ, ◌≤◌, ◌<◌}
use native.Mathlib.Omega.{arith}
use lib.Dec.{eqb}
use borrow.Author.Tests.{eqb-true, eqb-false}
use borrow.Table.Steps.{cases}
use lib.ListN.{length}
use Rattle.plan.specs.declared.data.Plan.{Plan}
use Rattle.wire.specs.declared.header.Label.{Label}
use Rattle.replies.specs.declared.Answer.{Answer}
use Rattle.replies.specs.Reply.{plain, done}
use Rattle.replies.specs.Areas.{Areas, Outcome, outcome, judged, Leaves}
use Rattle.replies.proofs.Rows.{refused}
use Rattle.replies.proofs.Leaving.{leaves}
use Rattle.replies.proofs.Judging.{is_refused, is_done}
use Rattle.passing_passage.specs.Passage.{unreachable, place_reply, queued, octets_queued}
use Rattle.passing_passage.proofs.Placing.{Placed, queued_kept}
use Rattle.passing.specs.Pass.{not_reached, passed, octets_passed}

module _ (plan : Plan) (arriving : ℕ) (label : Label) (a : Areas) (octets message : List ℕ) where
  -- the outcome of one that has a way
  abbrev goes : Outcome
  goes = judged (place_reply a) (outcome (done 0) (queued plan a label (length message))) a

  by_way : (said : Bool) → unreachable plan a label ≡ said
      → (cond said (not_reached plan arriving label.dpc a) goes ≡ passed plan arriving label (length message) a)
      × (cond said octets (octets_queued a octets message) ≡ octets_passed plan label a octets message)
  unfolding passed octets_passed
  by_way said e = (
    sym (ap (λ (t : Bool). cond t (not_reached plan arriving label.dpc a) goes) e),
    sym (ap (λ (t : Bool). cond t octets (octets_queued a octets message)) e),
  )

  -- the contract: what is left, and the octets
  abbrev pub PassLeaves : Answer → Areas → List ℕ → Type 0
  PassLeaves answer after octets' =
      Leaves (passed plan arriving label (length message) a) answer after × (octets' ≡ octets_passed plan label a octets message)

  -- it has no way
  pub passed_nowhere : unreachable plan a label ≡ true → (answer : Answer) (after : Areas)
      → Leaves (not_reached plan arriving label.dpc a) answer after → PassLeaves answer after octets
  passed_nowhere e answer after left =
      (subst (λ (o : Outcome). Leaves o answer after) (by_way true e).0 left, (by_way true e).1)

  -- it has one
  module _ (reply : ℕ) (after : Areas) (octets' : List ℕ) (so : Placed plan a label octets message reply after octets') where
    -- and finds no place or number
    pub passed_lacking : 0 < reply → (answer : Answer) → answer ≡ plain reply → PassLeaves answer after octets'
    passed_lacking over answer says =
        let kept : after ≡ a = so.queues ∙ queued_kept plan a label message (refused reply _ so.replies over) in (
          leaves (passed plan arriving label (length message) a) answer after
              (ap (λ (r : Answer). outcome r after) says
              ∙ ap (λ (b : Areas). outcome (plain reply) b) kept
              ∙ is_refused reply _ so.replies _ a over
              ∙ (by_way false so.has_way).0),
          so.writes ∙ (by_way false so.has_way).1,
        )

    -- and is queued
    pub passed_on : reply ≤ 0 → (answer : Answer) → answer ≡ done 0 → PassLeaves answer after octets'
    passed_on nothing answer says = (
      leaves (passed plan arriving label (length message) a) answer after
          (ap (λ (r : Answer). outcome r after) says
          ∙ ap (λ (b : Areas). outcome (done 0) b) so.queues
          ∙ is_done reply _ so.replies _ a nothing
          ∙ (by_way false so.has_way).0),
      so.writes ∙ (by_way false so.has_way).1,
    )

    -- so it is answered by what it finds
    pub passed_by : (answer : Answer) → answer ≡ plain reply → PassLeaves answer after octets'
    passed_by answer says =
        cases (eqb reply 0)
        (λ e. let nothing = eqb-true reply 0 e in passed_on (omega (arith, nothing)) answer (says ∙ ap plain nothing))
        (λ e. passed_lacking (omega (arith, eqb-false reply 0 e)) answer says)
