-- One of two by a test: what holds of both holds of it, and what is made of it is one of the two that are made of them.
-- Assumes nothing.
use mathlib.Core.Bool.{Bool, true, false, cond}
use mathlib.Core.Path.{◌≡◌, refl, ap}

pub either : {A : Type 0} (P : A → Type 0) (t : Bool) (x y : A) → P x → P y → P (cond t x y)
either P true x y p q = p
either P false x y p q = q

pub of_either : {A B : Type 0} (f : A → B) (t : Bool) (x y : A) {u v : B} → f x ≡ u → f y ≡ v → f (cond t x y) ≡ cond t u v
of_either f true x y p q = p
of_either f false x y p q = q

-- and where each is known to hold only with its own outcome of the test
pub by_test : {A : Type 0} (P : A → Type 0) (t : Bool) (x y : A) → (t ≡ true → P x) → (t ≡ false → P y) → P (cond t x y)
by_test P true x y p q = p refl
by_test P false x y p q = q refl

-- and of two together, both by one test
pub either_both : {A B : Type 0} (P : A → B → Type 0) (t : Bool) (x y : A) (u v : B) → P x u → P y v → P (cond t x y) (cond t u v)
either_both P true x y u v p q = p
either_both P false x y u v p q = q

-- by a test that failed it is the second
pub otherwise : {A : Type 0} (t : Bool) (x y : A) → t ≡ false → cond t x y ≡ y
otherwise t x y e = ap (λ (b : Bool). cond b x y) e
