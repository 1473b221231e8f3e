-- What an event leaves with the replies that some test names: the memory as it was, or another by the reply. A refusal leaves all, and
-- an outcome with a reply that isn't named may leave anything. Assumes nothing.
use Prim.Native.Nat.{ℕ}
use mathlib.Core.Bool.{Bool, true, false, not, false≢true}
use mathlib.Core.List.{List}
use mathlib.Core.Path.{◌≡◌, refl, sym, ap, ◌∙◌}
use lib.Dec.{eqb}
use Rattle.replies.specs.Areas.{Outcome, refused, judged}
use Rattle.node.specs.Memory.{Memory, memory}
use Rattle.promise_table.proofs.Either.{either}

-- an outcome, and the octets after it: with a reply that is named they are those of a memory
pub record Left (named : ℕ → Bool) (out : List ℕ) (target : ℕ → Memory) (o : Outcome) (octets : List ℕ) : Type 0 where
  pub left : named o.answer.reply ≡ true → memory o.after octets out ≡ target o.answer.reply

-- a reply that isn't named
pub not_named : (named : ℕ → Bool) (out : List ℕ) (target : ℕ → Memory) (n : ℕ) → named n ≡ false → (o : Outcome) (octets : List ℕ)
    → o.answer.reply ≡ n → Left named out target o octets
not_named named out target n none o octets is = record { left = λ e. absurd (false≢true (sym none ∙ sym (ap named is) ∙ e)) }

-- any reply but 0
abbrev pub refuses : ℕ → Bool
refuses n = not (eqb n 0)

-- the memory as it was
abbrev pub Kept : (ℕ → Bool) → Memory → Outcome → List ℕ → Type 0
Kept named m = Left named m.out (λ (n : ℕ). m)

module _ (named : ℕ → Bool) (m : Memory) where
  pub refused_kept : (reply : ℕ) → Kept named m (refused reply m.areas) m.octets
  refused_kept reply = record { left = λ e. refl }

  pub judged_kept : (reply : ℕ) (does : Outcome) → Kept named m does m.octets → Kept named m (judged reply does m.areas) m.octets
  judged_kept reply does whole =
      either (λ (o : Outcome). Kept named m o m.octets) (eqb reply 0) does (refused reply m.areas) whole (refused_kept reply)
