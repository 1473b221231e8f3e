-- What holds of a test together with what it decides: by one test, by two and by three, one within the other. Assumes nothing.
use mathlib.Core.Path.{◌≡◌, refl}
use mathlib.Core.Bool.{Bool, true, false, cond, ◌&&◌}
use Prim.Native.Nat.{ℕ}
use lib.Dec.{eqb}
use borrow.Author.Tests.{eqb-true}
use Rattle.replies.specs.Reply.{if_done}

by_bool : {A : Type 0} (P : Bool → A → Type 0) (test : Bool) (done refused : A) → (test ≡ true → P true done) → P false refused
    → P test (cond test done refused)
by_bool P true done refused p q = p refl
by_bool P false done refused p q = q

by_bools : {A : Type 0} (P : Bool → A → Type 0) (first next : Bool) (both one none : A) → (first ≡ true → next ≡ true → P true both)
    → (first ≡ true → next ≡ false → P false one)
    → P false none
    → P (first && next) (cond first (cond next both one) none)
by_bools P true true both one none p q r = p refl refl
by_bools P true false both one none p q r = q refl refl
by_bools P false next both one none p q r = r

-- what holds of a judged event by whether it is done, and by a test within it
pub by_done : {A : Type 0} (P : Bool → A → Type 0) (reply : ℕ) (done refused : A) → (reply ≡ 0 → P true done) → P false refused
    → P (eqb reply 0) (if_done reply done refused)
by_done P reply done refused does was = by_bool P (eqb reply 0) done refused (λ e. does (eqb-true reply 0 e)) was

pub two_tests : {A : Type 0} (P : Bool → A → Type 0) (reply : ℕ) (test : Bool) (both one none : A) → (reply ≡ 0 → test ≡ true → P true both)
    → (reply ≡ 0 → test ≡ false → P false one)
    → P false none
    → P (eqb reply 0 && test) (if_done reply (cond test both one) none)
two_tests P reply test both one none p q r =
    by_bools P (eqb reply 0) test both one none (λ e t. p (eqb-true reply 0 e) t) (λ e t. q (eqb-true reply 0 e) t) r

-- what holds by three tests, one within the other
pub three_tests : {A : Type 0} (P : Bool → A → Type 0) (first next last : Bool) (all two one none : A) → (last ≡ true → P true all) → P false two
    → P false one
    → P false none
    → P (first && (next && last)) (cond first (cond next (cond last all two) one) none)
three_tests P true true true all two one none p q r s = p refl
three_tests P true true false all two one none p q r s = q
three_tests P true false last all two one none p q r s = r
three_tests P false next last all two one none p q r s = s
