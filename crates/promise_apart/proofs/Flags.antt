-- A flag of a destination that is set or cleared: it is what it was set to, one that is set stays set, and every other flag is as it was.
-- Assumes nothing.
use mathlib.Core.Path.{◌≡◌, refl, sym, ◌∙◌}
use mathlib.Core.Bool.{Bool, true, false, ◌&&◌, and-eq-true_iff}
use mathlib.Core.List.{List}
use Prim.Native.Nat.{ℕ, ◌+◌, ◌*◌, ◌<◌}
use native.Mathlib.Omega.{arith}
use lib.Dec.{ltb}
use lib.ListN.{length, get_or, set, get_or-eq_default, length-set}
use lib.Seq.{get_or-set_same, get_or-set_other}
use borrow.Author.Tests.{ltb-true, lt-ltb}
use borrow.Table.Steps.{cases}
use Rattle.plan.proofs.Split.{split, alike}
use Rattle.area_flags.specs.Flags.{word, flag_at, with_flag}

-- where a flag's word stands
abbrev at : ℕ → ℕ → ℕ
at destination flag = 8 * destination + flag

-- a word says what was written
word_back : (on : Bool) → ltb 0 (word on) ≡ on
word_back true = refl
word_back false = refl

module _ (marks : List ℕ) (destination flag : ℕ) where
  -- a flag that is set has a word that isn't 0
  flag_word : flag_at marks destination flag ≡ true → (destination < 64) × ((flag < 8) × (0 < get_or marks (at destination flag) 0))
  flag_word e =
      let word-there : Bool = ltb 0 (get_or marks (at destination flag) 0) in
      let all = (and-eq-true_iff (ltb destination 64) (ltb flag 8 && word-there)).0 e in
      let rest = (and-eq-true_iff (ltb flag 8) word-there).0 all.1 in
      (ltb-true destination 64 all.0, (ltb-true flag 8 rest.0, ltb-true 0 (get_or marks (at destination flag) 0) rest.1))

  -- a word that is set to 0 is 0, in an area of any length
  zero_there : get_or (set marks (at destination flag) 0) (at destination flag) 0 ≡ 0
  zero_there =
      split (at destination flag) (length marks) (get_or-set_same marks (at destination flag) 0 0)
      (λ past. get_or-eq_default (set marks (at destination flag) 0) 0 (omega (arith, length-set marks (at destination flag) 0)))

  -- a flag that is cleared
  pub flag_cleared : flag_at (with_flag marks destination flag false) destination flag ≡ false
  flag_cleared =
      cases (ltb destination 64)
      (λ d. cases (ltb flag 8) (λ f. simp (d, f, zero_there)) (λ f. simp (d, f)))
      (λ d. simp d)

  -- in an area of 64 destinations a flag is what it is set to
  pub flag_is : length marks ≡ 512 → destination < 64 → flag < 8 → (on : Bool)
      → flag_at (with_flag marks destination flag on) destination flag ≡ on
  flag_is long d f on =
      simp (lt-ltb destination 64 d, lt-ltb flag 8 f, get_or-set_same marks (at destination flag) (word on) 0 (omega (arith, long)))
      (word_back on)

  -- another flag
  pub flag_other : (on : Bool) (other place : ℕ) → (place ≡ flag → other ≡ destination → ⊥)
      → flag_at (with_flag marks destination flag on) other place ≡ flag_at marks other place
  flag_other on other place apart =
      cases (ltb destination 64 && ltb flag 8)
      (λ there.
      cases (ltb place 8)
      (λ p.
      let inside = (and-eq-true_iff (ltb destination 64) (ltb flag 8)).0 there in
      let few : flag < 8 = ltb-true flag 8 inside.1 in
      let less : place < 8 = ltb-true place 8 p in
      let differs : at other place ≡ at destination flag → ⊥ = λ same. apart (omega arith) (omega arith) in
      simp (there, get_or-set_other marks (at destination flag) (at other place) (word on) 0 differs))
      (λ p. simp (there, p)))
      (λ past. simp past)

  -- a flag that was set, and is set, is set
  set_again : flag_at marks destination flag ≡ true → flag_at (with_flag marks destination flag true) destination flag ≡ true
  set_again e =
      let old = flag_word e in
      let within : at destination flag < length marks =
      split (at destination flag) (length marks) (λ h. h)
      (λ past. absurd (omega (arith, old.1.1, get_or-eq_default marks 0 past)))
      in
      simp (lt-ltb destination 64 old.0, lt-ltb flag 8 old.1.0, get_or-set_same marks (at destination flag) 1 0 within)

  -- one that is set stays set where one is set
  pub flag_stays : (other place : ℕ) → flag_at marks other place ≡ true → flag_at (with_flag marks destination flag true) other place ≡ true
  flag_stays other place e =
      alike other destination
      (λ d.
      alike place flag
      (λ p. rw (d, p) (set_again (rw (sym d, sym p) e)))
      (λ p. flag_other true other place (λ q r. p q) ∙ e))
      (λ d. flag_other true other place (λ q r. d r) ∙ e)
