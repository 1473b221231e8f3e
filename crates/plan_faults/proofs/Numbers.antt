-- The numbers of a line: 21 if a field is out of its range, whether it is no number at all or only too large a one. Assumes nothing.
use mathlib.Core.Path.{◌≡◌, refl, sym, ap, subst, ◌∙◌}
use mathlib.Core.Bool.{Bool, true, false, cond, not, ◌&&◌}
use mathlib.Core.List.{List, [], ◌∷◌}
use Prim.Native.Nat.{ℕ, ◌≤◌}
use native.Mathlib.Omega.{arith}
use lib.Dec.{leb, ltb}
use borrow.Author.Tests.{le-leb, lt-leb, lt-ltb, le-ltb, leb-false}
use Rattle.text_decimals.specs.Decimal.{is_plain, all_digits, value_on}
use Rattle.std.specs.Prelude.{Option, Some, None, Ok}
use Rattle.text_fields.specs.Fields.{number}
use Rattle.plan.specs.declared.data.Plan.{Plan}
use Rattle.plan.proofs.Split.{split}
use Rattle.replies.specs.Reply.{Row, row, first}
use Rattle.plan_keywords.specs.declared.Word.{Word}
use Rattle.plan_statement.specs.Statement.{with_number, says}
use Rattle.plan_configuration.specs.Configure.{add_by, add_said}
use Rattle.plan_faults.specs.Faults.{value, is_out}
use Rattle.plan_building.specs.Building.{fault_of}

-- what is read of a field: no number, which is out of every range, or one that is out of a range if it is above its top
pub data Read (top : ℕ) : Option ℕ → ℕ → Bool → Type 0 where
  no_number : (n : ℕ) → Read top None n true
  a_number : (n : ℕ) → Read top (Some n) n (ltb top n)

above : (n top : ℕ) → not (leb n top) ≡ ltb top n
above n top =
    split top n
    (λ less. ap not (lt-leb n top less) ∙ sym (lt-ltb top n less))
    (λ more. ap not (le-leb n top more) ∙ sym (le-ltb top n more))

read_by : (top most n : ℕ) (plain small : Bool) → top ≤ most → leb n most ≡ small
    → Read top (cond (plain && small) (Some n) None) n (not (plain && leb n top))
read_by top most n false small h e = no_number n
read_by top most n true true h e = subst (Read top (Some n) n) (sym (above n top)) (a_number n)
read_by top most n true false h e =
    subst (Read top None n) (ap not (sym (lt-leb n top (omega (arith, leb-false n most e))))) (no_number n)

pub read : (digits : List ℕ) (top : ℕ) → top ≤ 18446744073709551615 → Read top (number digits) (value digits) (is_out digits top)
read digits top h = read_by top 18446744073709551615 (value digits) (is_plain digits) (leb (value digits) 18446744073709551615) h refl

-- a row that applies among rows of the same number
second : (n : ℕ) (a : Bool) (later : List Row) → n ≡ first (row n a ∷ row n true ∷ later)
unfolding first
second n true later = refl
second n false later = refl

third : (n : ℕ) (a b : Bool) (later : List Row) → n ≡ first (row n a ∷ row n b ∷ row n true ∷ later)
unfolding first
third n true b later = refl
third n false b later = second n b later

-- the fault of a line by its three numbers, where it is known for every three of them
module _ (plan : Plan) (word : Word) (top₁ top₂ top₃ : ℕ) (rest : ℕ → ℕ → ℕ → List Row)
    (known : (a b c : ℕ) → fault_of (add_by word plan a b c) ≡ first (row 21 (ltb top₁ a) ∷ row 21 (ltb top₂ b) ∷ row 21 (ltb top₃ c) ∷ rest a b c)) where
  by_read : {x y z : Option ℕ} {out₁ out₂ : Bool} (a b c : ℕ) (out₃ : Bool) → Read top₁ x a out₁ → Read top₂ y b out₂ → Read top₃ z c out₃
      → fault_of (add_said plan (with_number x (λ a. with_number y (λ b. with_number z (λ c. Ok (record { word = word; first = a; second = b; third = c }))))))
      ≡ first (row 21 out₁ ∷ row 21 out₂ ∷ row 21 out₃ ∷ rest a b c)
  unfolding first
  by_read a b c out₃ (no_number _) _ _ = refl
  by_read a b c out₃ (a_number _) (no_number _) _ = second 21 (ltb top₁ a) (row 21 out₃ ∷ rest a b c)
  by_read a b c out₃ (a_number _) (a_number _) (no_number _) = third 21 (ltb top₁ a) (ltb top₂ b) (rest a b c)
  by_read a b c out₃ (a_number _) (a_number _) (a_number _) = known a b c

  pub numbers_fault : top₁ ≤ 18446744073709551615 → top₂ ≤ 18446744073709551615 → top₃ ≤ 18446744073709551615 → (a b c : List ℕ)
      → fault_of (add_said plan (says word a b c))
      ≡ first (row 21 (is_out a top₁) ∷ row 21 (is_out b top₂) ∷ row 21 (is_out c top₃) ∷ rest (value a) (value b) (value c))
  numbers_fault h₁ h₂ h₃ a b c = by_read (value a) (value b) (value c) (is_out c top₃) (read a top₁ h₁) (read b top₂ h₂) (read c top₃ h₃)

-- the same of a line of two numbers, where the third is 0
zero_read : number (48 ∷ []) ≡ Some 0
unfolding all_digits value_on
zero_read = refl

module _ (plan : Plan) (word : Word) (top₁ top₂ : ℕ) (rest : ℕ → ℕ → List Row)
    (known : (a b : ℕ) → fault_of (add_by word plan a b 0) ≡ first (row 21 (ltb top₁ a) ∷ row 21 (ltb top₂ b) ∷ rest a b)) where
  by_read_two : {x y : Option ℕ} {out₁ : Bool} (z : Option ℕ) (a b : ℕ) (out₂ : Bool) → z ≡ Some 0 → Read top₁ x a out₁ → Read top₂ y b out₂
      → fault_of (add_said plan (with_number x (λ a. with_number y (λ b. with_number z (λ c. Ok (record { word = word; first = a; second = b; third = c }))))))
      ≡ first (row 21 out₁ ∷ row 21 out₂ ∷ rest a b)
  unfolding first
  by_read_two z a b out₂ e (no_number _) _ = refl
  by_read_two z a b out₂ e (a_number _) (no_number _) = second 21 (ltb top₁ a) (rest a b)
  by_read_two z a b out₂ e (a_number _) (a_number _) =
      ap (λ (z : Option ℕ). fault_of (add_said plan (with_number z (λ c. Ok (record { word = word; first = a; second = b; third = c }))))) e
      ∙ known a b

  pub two_numbers_fault : top₁ ≤ 18446744073709551615 → top₂ ≤ 18446744073709551615 → (a b : List ℕ)
      → fault_of (add_said plan (says word a b (48 ∷ []))) ≡ first (row 21 (is_out a top₁) ∷ row 21 (is_out b top₂) ∷ rest (value a) (value b))
  two_numbers_fault h₁ h₂ a b = by_read_two (number (48 ∷ [])) (value a) (value b) (is_out b top₂) zero_read (read a top₁ h₁) (read b top₂ h₂)
