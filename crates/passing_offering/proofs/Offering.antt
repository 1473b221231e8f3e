-- What a message of the host leaves: refused by what it is or because it has no way, and else queued, or refused where it finds no
-- place or number. Assumes nothing.
use mathlib.Core.Path.{◌≡◌, refl, sym, ap, subst, ◌∙◌}
use mathlib.Core.Bool.{Bool, true, false, cond, ◌||◌}
use mathlib.Core.List.{List}
use Prim.Native.Nat.{ℕ}
use native.Mathlib.Omega.{arith}
use lib.Dec.{eqb}
use lib.ListN.{length}
use borrow.Author.Tests.{eq-eqb, ne_eqb, eqb-true, eqb-false}
use borrow.Table.Steps.{cases}
use Rattle.plan.specs.declared.data.Plan.{Plan}
use Rattle.wire.specs.declared.header.Label.{Label}
use Rattle.discrimination.specs.declared.Came.{Came}
use Rattle.discrimination.specs.Discrimination.{from_host}
use Rattle.replies.specs.declared.Answer.{Answer}
use Rattle.replies.specs.Reply.{plain, done}
use Rattle.replies.specs.Areas.{Areas, Outcome, outcome, refused, judged, Leaves}
use Rattle.replies.proofs.Leaving.{leaves}
use Rattle.passing_passage.specs.Passage.{unreachable, place_reply, queued, octets_queued}
use Rattle.passing_offering.specs.Host.{refuses, offered, from_host_by, sent, octets_offered, octets_by, octets_sent}
use Rattle.replies.proofs.Judging.{is_refused, is_done}
use Rattle.passing_passage.proofs.Placing.{Placed, queued_kept}

-- a message with a label
module _ (plan : Plan) (label : Label) (a : Areas) where
  -- our own DPC
  pub ours_refused : label.dpc ≡ plan.code → refuses plan a label ≡ true
  unfolding refuses
  ours_refused e = ap (λ (t : Bool). t || unreachable plan a label) (eq-eqb label.dpc plan.code e)

  -- another, by its way
  pub others_refused : (label.dpc ≡ plan.code → ⊥) → (said : Bool) → unreachable plan a label ≡ said → refuses plan a label ≡ said
  unfolding refuses
  others_refused apart said e = ap (λ (t : Bool). t || unreachable plan a label) (ne_eqb label.dpc plan.code apart) ∙ e

  module _ (octets message : List ℕ) where
    -- the outcome of one that has a way
    abbrev goes : Outcome
    goes = judged (place_reply a) (outcome (done 0) (queued plan a label (length message))) a

    -- the contract: what is left, and the octets
    abbrev pub OfferLeaves : Answer → Areas → List ℕ → Type 0
    OfferLeaves answer after octets' =
        Leaves (offered plan label (length message) a) answer after × (octets' ≡ octets_offered plan label a octets message)

    by_refusal : (said : Bool) → refuses plan a label ≡ said
        → (cond said (refused 9 a) goes ≡ offered plan label (length message) a)
        × (cond said octets (octets_queued a octets message) ≡ octets_offered plan label a octets message)
    unfolding offered octets_offered
    by_refusal said e = (
      sym (ap (λ (t : Bool). cond t (refused 9 a) goes) e),
      sym (ap (λ (t : Bool). cond t octets (octets_queued a octets message)) e),
    )

    pub offer_refused : refuses plan a label ≡ true → (answer : Answer) → answer ≡ plain 9 → OfferLeaves answer a octets
    offer_refused e answer nine = (
      leaves (offered plan label (length message) a) answer a (ap (λ (r : Answer). outcome r a) nine ∙ (by_refusal true e).0),
      (by_refusal true e).1,
    )

    -- its reply is that to the queueing
    judged_so : outcome (plain (place_reply a)) (queued plan a label (length message)) ≡ goes
    judged_so =
        cases (eqb (place_reply a) 0)
        (λ e.
        let none = eqb-true (place_reply a) 0 e in
        ap (λ (n : ℕ). outcome (plain n) (queued plan a label (length message))) none
        ∙ is_done (place_reply a) (place_reply a) refl (outcome (done 0) (queued plan a label (length message))) a (omega arith))
        (λ e.
        let some = eqb-false (place_reply a) 0 e in
        ap (λ (b : Areas). outcome (plain (place_reply a)) b) (queued_kept plan a label message e)
        ∙ is_refused (place_reply a) (place_reply a) refl (outcome (done 0) (queued plan a label (length message))) a (omega (arith, some)))

    pub offer_queued : (label.dpc ≡ plan.code → ⊥) → (reply : ℕ) (after : Areas) (octets' : List ℕ)
        → Placed plan a label octets message reply after octets' → (answer : Answer) → answer ≡ plain reply
        → OfferLeaves answer after octets'
    offer_queued apart reply after octets' so answer says =
        let refuses-not = others_refused apart false so.has_way in (
          leaves (offered plan label (length message) a) answer after
              (ap (λ (r : Answer). outcome r after) (says ∙ ap plain so.replies)
              ∙ ap (λ (b : Areas). outcome (plain (place_reply a)) b) so.queues
              ∙ judged_so
              ∙ (by_refusal false refuses-not).0),
          so.writes ∙ (by_refusal false refuses-not).1,
        )

module _ (plan : Plan) (octets message : List ℕ) (a : Areas) where
  -- the contract: what is left, and the octets
  abbrev pub SendLeaves : Answer → Areas → List ℕ → Type 0
  SendLeaves answer after octets' = Leaves (sent plan message a) answer after × (octets' ≡ octets_sent plan message a octets)

  by_given : (said : Bool) → plan.given ≡ said
      → (cond said (from_host_by plan (from_host plan message) (length message) a) (refused 2 a) ≡ sent plan message a)
      × (cond said (octets_by plan (from_host plan message) a octets message) octets ≡ octets_sent plan message a octets)
  unfolding sent octets_sent
  by_given said e = (
    sym (ap (λ (t : Bool). cond t (from_host_by plan (from_host plan message) (length message) a) (refused 2 a)) e),
    sym (ap (λ (t : Bool). cond t (octets_by plan (from_host plan message) a octets message) octets) e),
  )

  -- no node is configured
  pub no_node_lem : plan.given ≡ false → (answer : Answer) → answer ≡ plain 2 → SendLeaves answer a octets
  no_node_lem e answer two =
      (leaves (sent plan message a) answer a (ap (λ (r : Answer). outcome r a) two ∙ (by_given false e).0), (by_given false e).1)

  -- one is, and the message was told for what it is
  pub by_kind : plan.given ≡ true → (came : Came) → came ≡ from_host plan message → (kind : Came) → came ≡ kind
      → (answer : Answer) (after : Areas) (octets' : List ℕ)
      → Leaves (from_host_by plan kind (length message) a) answer after × (octets' ≡ octets_by plan kind a octets message)
      → SendLeaves answer after octets'
  by_kind e came is kind told answer after octets' left =
      let same : kind ≡ from_host plan message = sym told ∙ is in (
        subst (λ (o : Outcome). Leaves o answer after)
            (ap (λ (k : Came). from_host_by plan k (length message) a) same ∙ (by_given true e).0)
            left.0,
        left.1 ∙ ap (λ (k : Came). octets_by plan k a octets message) same ∙ (by_given true e).1,
      )

  -- it is one that is refused for what it is
  pub kind_refused : plan.given ≡ true → (came : Came) → came ≡ from_host plan message → (kind : Came) → came ≡ kind
      → (reply : ℕ) → refused reply a ≡ from_host_by plan kind (length message) a → octets ≡ octets_by plan kind a octets message
      → (answer : Answer) → answer ≡ plain reply → SendLeaves answer a octets
  kind_refused e came is kind told reply so kept answer says =
      by_kind e came is kind told answer a octets
      (leaves (from_host_by plan kind (length message) a) answer a (ap (λ (r : Answer). outcome r a) says ∙ so), kept)
