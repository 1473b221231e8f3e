-- Refusals and their numbers: what is decided has one number, what a reply of the table decides has that number, and what is decided is refused where
-- its number isn't 0. Assumes nothing.
use Prim.Native.Nat.{ℕ, zero, suc, ◌≤◌, ◌<◌}
use mathlib.Core.Path.{◌≡◌, refl, sym, ap, ◌∙◌}
use native.Mathlib.Omega.{arith}
use lib.Dec.{lit<}
use Rattle.std.specs.Prelude.{Result, Ok, Err}
use Rattle.replies.specs.declared.Refusal.{Refusal}
use Rattle.replies.specs.declared.Refusal.TheVariants.{OutOfRange, NotConfigured, Malformed, Foreign, Unfit, NotNext, NoUserPlace, NoManagementPlace, Inaccessible, NoNumber, NamesNothing}
use Rattle.replies.specs.declared.Answer.{Answer}
use Rattle.replies.specs.Reply.{number, number_of, refusal_of, holding, decided, plain}

-- the number that is told decides the same again
pub refusal_of_number : (told : Result Unit Refusal) → refusal_of (number_of told) ≡ told
unfolding refusal_of
refusal_of_number (Ok tt) = refl
refusal_of_number (Err OutOfRange) = refl
refusal_of_number (Err NotConfigured) = refl
refusal_of_number (Err Malformed) = refl
refusal_of_number (Err Foreign) = refl
refusal_of_number (Err Unfit) = refl
refusal_of_number (Err NotNext) = refl
refusal_of_number (Err NoUserPlace) = refl
refusal_of_number (Err NoManagementPlace) = refl
refusal_of_number (Err Inaccessible) = refl
refusal_of_number (Err NoNumber) = refl
refusal_of_number (Err NamesNothing) = refl

-- so what has the number of a reply is what that reply decides
pub by_number : (told : Result Unit Refusal) (reply : ℕ) → number_of told ≡ reply → told ≡ refusal_of reply
by_number told reply e = sym (refusal_of_number told) ∙ ap refusal_of e

-- every reply of the table, 0 to 11, is the number of what it decides
pub number_of_refusal : (reply : ℕ) → reply ≤ 11 → number_of (refusal_of reply) ≡ reply
unfolding refusal_of
number_of_refusal zero h = refl
number_of_refusal (suc zero) h = refl
number_of_refusal (suc (suc zero)) h = refl
number_of_refusal (suc (suc (suc zero))) h = refl
number_of_refusal (suc (suc (suc (suc zero)))) h = refl
number_of_refusal (suc (suc (suc (suc (suc zero))))) h = refl
number_of_refusal (suc (suc (suc (suc (suc (suc zero)))))) h = refl
number_of_refusal (suc (suc (suc (suc (suc (suc (suc zero))))))) h = refl
number_of_refusal (suc (suc (suc (suc (suc (suc (suc (suc zero)))))))) h = refl
number_of_refusal (suc (suc (suc (suc (suc (suc (suc (suc (suc zero))))))))) h = refl
number_of_refusal (suc (suc (suc (suc (suc (suc (suc (suc (suc (suc zero)))))))))) h = refl
number_of_refusal (suc (suc (suc (suc (suc (suc (suc (suc (suc (suc (suc zero))))))))))) h = refl
number_of_refusal (suc (suc (suc (suc (suc (suc (suc (suc (suc (suc (suc (suc n)))))))))))) h = absurd (omega arith)

-- no refusal has the number 0
pub over_none : (refusal : Refusal) → 0 < number refusal
over_none OutOfRange = lit< tt
over_none NotConfigured = lit< tt
over_none Malformed = lit< tt
over_none Foreign = lit< tt
over_none Unfit = lit< tt
over_none NotNext = lit< tt
over_none NoUserPlace = lit< tt
over_none NoManagementPlace = lit< tt
over_none Inaccessible = lit< tt
over_none NoNumber = lit< tt
over_none NamesNothing = lit< tt

-- what refuses has the number of its refusal, which is over 0, and what doesn't has 0
module _ {A : Type 0} (told : Result A Refusal) where
  pub over : (refusal : Refusal) → told ≡ Err refusal → 0 < number_of told
  over refusal e =
      let above = over_none refusal in
      let is : number_of told ≡ number refusal = ap number_of e in
      omega arith

  pub none : (value : A) → told ≡ Ok value → number_of told ≤ 0
  none value e =
      let is : number_of told ≡ 0 = ap number_of e in
      omega arith

  -- so it is answered by that number
  pub answers : (refusal : Refusal) → told ≡ Err refusal → (answer : Answer) → answer ≡ plain (number refusal) → answer ≡ plain (number_of told)
  answers refusal e answer says = says ∙ ap plain (sym (ap number_of e))

-- a value that goes with what was decided
module _ {A : Type 0} (value : A) where
  holds_by : (told : Result Unit Refusal) (other : A) → holding value told ≡ Ok other → value ≡ other
  holds_by (Ok tt) other e = cc
  holds_by (Err refusal) other e = absurd cc

  pub holds : (reply : ℕ) (other : A) → decided reply value ≡ Ok other → value ≡ other
  holds reply = holds_by (refusal_of reply)
