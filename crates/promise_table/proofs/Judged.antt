-- An event that is judged by a reply: its reply is that one, and the event's own where that is 0. Assumes nothing.
use Prim.Native.Nat.{ℕ}
use mathlib.Core.Bool.{Bool, cond}
use mathlib.Core.Path.{◌≡◌, refl, sym, ap, ◌∙◌}
use lib.Dec.{eqb}
use borrow.Author.Tests.{eqb-true}
use borrow.Table.Steps.{cases}
use Rattle.replies.specs.Reply.{if_done}
use Rattle.replies.specs.Areas.{Areas, Outcome, refused, judged}
use Rattle.promise_table.proofs.Either.{of_either}

-- what stands for 0 where a reply is 0, and for the reply where it isn't
pub told : {A : Type 0} (says : A → ℕ) (reply : ℕ) (new old : A) → says new ≡ 0 → says old ≡ reply → says (if_done reply new old) ≡ reply
told says reply new old none other =
    cases (eqb reply 0) (λ e. ap (λ (t : Bool). says (cond t new old)) e ∙ none ∙ sym (eqb-true reply 0 e))
    (λ e. ap (λ (t : Bool). says (cond t new old)) e ∙ other)

module _ (reply : ℕ) (does : Outcome) (before : Areas) where
  pub judged_reply : (judged reply does before).answer.reply ≡ if_done reply does.answer.reply reply
  judged_reply = of_either (λ (o : Outcome). o.answer.reply) (eqb reply 0) does (refused reply before) refl refl

  -- an event that is done where its reply is 0
  pub judged_done : does.answer.reply ≡ 0 → (judged reply does before).answer.reply ≡ reply
  judged_done is = told (λ (o : Outcome). o.answer.reply) reply does (refused reply before) is refl
