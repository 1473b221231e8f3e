-- What a received message leaves: all as it was where it is refused, and else what becomes of it by what it is, with the message taken or
-- not by its reply. Assumes nothing.
use mathlib.Core.Path.{◌≡◌, sym, ap, subst, ◌∙◌}
use mathlib.Core.Bool.{Bool, true, false, cond}
use mathlib.Core.List.{List}
use Prim.Native.Nat.{ℕ, ◌≤◌, ◌<◌}
use lib.ListN.{length}
use borrow.Author.Tests.{eq-eqb}
use Rattle.plan.specs.declared.data.Plan.{Plan}
use Rattle.discrimination.specs.declared.Came.{Came}
use Rattle.discrimination.specs.Discrimination.{from_link}
use Rattle.replies.specs.declared.Answer.{Answer}
use Rattle.replies.specs.Reply.{plain}
use Rattle.replies.specs.Areas.{Areas, areas, Outcome, outcome, with_links, Leaves}
use Rattle.replies.proofs.Leaving.{leaves}
use Rattle.replies.proofs.Rows.{refused, done}
use Rattle.replies.proofs.Judging.{is_refused, is_done, whole}
use Rattle.numbers.specs.Numbers.{is_taken, taken}
use Rattle.numbers.specs.Taken.{with_taken, taken_by}
use Rattle.receiving.specs.Receive.{reply_of, received_by, received, octets_by, octets_received}

module _ (plan : Plan) (link fsn : ℕ) (octets message : List ℕ) (a : Areas) where
  -- what becomes of it
  abbrev became : Outcome
  became = received_by plan link fsn (length message) (from_link plan message) a

  -- the contracts: what is left, and the octets, before it is taken and after
  abbrev pub BecomeLeaves : Answer → Areas → List ℕ → Type 0
  BecomeLeaves answer after octets' = Leaves became answer after × (octets' ≡ octets_by plan (from_link plan message) a octets message)

  abbrev pub ReceiveLeaves : Answer → Areas → List ℕ → Type 0
  ReceiveLeaves answer after octets' =
      Leaves (received plan link fsn message a) answer after × (octets' ≡ octets_received plan link fsn message a octets)

  -- the message was told for what it is
  module _ (came : Came) (told : came ≡ from_link plan message) (kind : Came) (so : came ≡ kind) where
    same : kind ≡ from_link plan message
    same = sym so ∙ told

    pub by_kind : (answer : Answer) (after : Areas) (octets' : List ℕ)
        → Leaves (received_by plan link fsn (length message) kind a) answer after → octets' ≡ octets_by plan kind a octets message
        → BecomeLeaves answer after octets'
    by_kind answer after octets' left written = (
      subst (λ (k : Came). Leaves (received_by plan link fsn (length message) k a) answer after) same left,
      written ∙ ap (λ (k : Came). octets_by plan k a octets message) same,
    )

    -- it is one that has only an answer
    pub only_answered : (gives : Answer) → outcome gives a ≡ received_by plan link fsn (length message) kind a
        → octets ≡ octets_by plan kind a octets message → (answer : Answer) → answer ≡ gives → BecomeLeaves answer a octets
    only_answered gives does kept answer says =
        by_kind answer a octets
        (leaves (received_by plan link fsn (length message) kind a) answer a (ap (λ (r : Answer). outcome r a) says ∙ does))
        kept

  abbrev octets_by_lem : Bool → List ℕ
  octets_by_lem does = cond does (octets_by plan (from_link plan message) a octets message) octets

  -- the reply, as it was told
  module _ (reply : ℕ) (is : reply ≡ reply_of plan a.links link fsn a.reports) where
    pub message_refused : 0 < reply → (answer : Answer) → answer ≡ plain reply → ReceiveLeaves answer a octets
    unfolding received octets_received
    message_refused over answer says = (
      leaves (received plan link fsn message a) answer a
          (ap (λ (r : Answer). outcome r a) says ∙ is_refused reply _ is (taken_by link fsn became) a over),
      sym (ap octets_by_lem (refused reply _ is over)),
    )

    -- what has become of it, and whether it is taken
    module _ (none : reply ≤ 0) (answer : Answer) (links marks spans rings rows arrivals reports octets' : List ℕ)
        (left : BecomeLeaves answer (areas links marks spans rings rows arrivals reports) octets')
        (takes : Bool) (says : takes ≡ is_taken answer.reply) where
      abbrev then : Areas
      then = areas links marks spans rings rows arrivals reports

      by_reply : (said : Bool) → takes ≡ said
          → outcome answer (cond said (with_taken link fsn then) then) ≡ received plan link fsn message a
      unfolding received
      by_reply said e =
          ap (λ (t : Bool). outcome answer (cond t (with_taken link fsn then) then)) (sym e ∙ says)
          ∙ ap (taken_by link fsn) (whole became answer links marks spans rings rows arrivals reports left.0)
          ∙ is_done reply _ is (taken_by link fsn became) a none

      octets_are : octets' ≡ octets_received plan link fsn message a octets
      unfolding octets_received
      octets_are = left.1 ∙ sym (ap octets_by_lem (eq-eqb _ 0 (done reply _ is none)))

      pub message_taken : takes ≡ true → (links' : List ℕ) → links' ≡ taken links link fsn
          → ReceiveLeaves answer (with_links then links') octets'
      message_taken e links' moved = (
        leaves (received plan link fsn message a) answer (with_links then links')
            (ap (λ (l : List ℕ). outcome answer (with_links then l)) moved ∙ by_reply true e),
        octets_are,
      )

      pub message_left : takes ≡ false → ReceiveLeaves answer then octets'
      message_left e = (leaves (received plan link fsn message a) answer then (by_reply false e), octets_are)
