-- A value put in among the values of an array by pushing each from its place on up by one. Assumes nothing.
use mathlib.Core.Path.{◌≡◌, sym, ◌∙◌}
use mathlib.Core.List.{List, ◌∷◌, ◌++◌, append-nil}
use Prim.Native.Nat.{ℕ, suc, ◌+◌, ◌-◌, ◌≤◌, ◌<◌}
use native.Mathlib.Numerals.{add-one}
use native.Mathlib.Omega.{arith}
use lib.ListN.{length, take, drop, get_or, set, length-set}
use lib.Seq.{length-take-le, take_all, take-append_seam, take-append-add, take-suc-set, drop-set-lt, drop-cons, append_snoc}
use Rattle.plan_entries.specs.Insert.{inserted}
use Rattle.plan.proofs.Split.{split}

-- below place i the array is as it is to be, and the value stands there before those from there on
pub record Pushing {A : Type 0} (n i : ℕ) (value : A) (values goal : List A) : Type 0 where
  pub long : length values ≡ n
  pub left : take i values ++ take (n - i) (value ∷ drop i values) ≡ goal

module _ {A : Type 0} (n i : ℕ) (value : A) where
  -- nothing is pushed yet
  pub push_first : (values : List A) → length values ≡ n → Pushing n i value values (inserted i value values)
  push_first values e =
      record {
        long = e;
        left =
            split i n
            (λ within.
            let here : length (take i values) ≡ i = length-take-le i values (omega arith) in
            let whole : length values ≡ length (take i values) + (n - i) = omega arith in
            sym (simp whole (take-append-add (take i values) (value ∷ drop i values) (n - i))))
            (λ past.
            let all : take i values ≡ values = take_all i values (omega arith) in
            let none_left : n - i ≡ 0 = omega arith in
            simp (none_left, all, append-nil, take-append_seam));
      }

  -- the value is stored at place i, and the one that stood there is pushed
  pub push_on : (values goal : List A) (none : A) → i < n → Pushing n i value values goal
      → Pushing n (i + 1) (get_or values i none) (set values i value) goal
  push_on values goal none h p =
      let inside : i < length values = omega arith in
      let more : n - i ≡ suc (n - suc i) = omega arith in
      record {
        long = length-set values i value ∙ p.long;
        left =
            simp (
              add-one,
              take-suc-set values i value inside,
              drop-set-lt (suc i) values i value (omega arith),
              ← drop-cons values i none inside,
              append_snoc,
            )
            (simp more at p.left);
      }

  -- nothing is left to push
  pub push_last : (values goal : List A) → n ≤ i → Pushing n i value values goal → values ≡ goal
  push_last values goal h p =
      let none_left : n - i ≡ 0 = omega arith in
      let all : take i values ≡ values = take_all i values (omega arith) in
      simp (none_left, all, append-nil) at p.left
