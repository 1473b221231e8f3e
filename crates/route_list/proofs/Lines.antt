-- Facts on the route list's rows and lines: one word or line after another, and that all of it has room. Assumes nothing.
use mathlib.Core.Path.{◌≡◌, refl, sym, ap}
use mathlib.Core.Bool.{true}
use mathlib.Core.List.{List, [], ◌∷◌, ◌++◌}
use Prim.Native.Nat.{ℕ, zero, suc, min, ◌+◌, ◌-◌, ◌*◌, ◌/◌, ◌%◌, ◌^◌, ◌≤◌, ◌<◌}
use native.Mathlib.Numerals.{add-one}
use native.Mathlib.Omega.{arith}
use lib.Dec.{ltb}
use lib.ListN.{length, length-append}
use borrow.Author.Tests.{lt-ltb, ltb-true}
use Rattle.text_decimals.specs.Decimal.{digits_on, decimal_of}
use Rattle.text.specs.Part.{tab, lf}
use borrow.Table.Steps.{cases}
use Rattle.plan.specs.declared.data.Plan.{Plan}
use Rattle.route_list.specs.RouteList.{in_row, header_line, link_word, link_of, word_of, listed_code, line_of, lines_from, list_of}

one_less : (k n : ℕ) → k < n → n - k ≡ suc (n - (k + 1))
one_less k n h = omega arith

-- a number below a power of ten has no more digits than the power
digits_few : (most k n : ℕ) (rest : List ℕ) → n < 10 ^ suc k → length (digits_on most n rest) ≤ suc k + length rest
unfolding digits_on
digits_few zero k n rest h = omega arith
digits_few (suc most) zero n rest h =
    let one : ltb n 10 ≡ true = lt-ltb n 10 (omega arith) in
    simp one (omega arith)
digits_few (suc most) (suc k) n rest h =
    cases (ltb n 10)
    (λ e. simp e (omega arith))
    (λ e. simp e (omega (arith, digits_few most k (n / 10) ((48 + n % 10) ∷ rest) (omega arith))))

pub word_few : (link : ℕ) → length (link_word link) ≤ 2
word_few link =
    cases (ltb link 32)
    (λ e.
    let small : link < 32 = ltb-true link 32 e in
    simp e (digits_few 20 1 link [] (omega arith)))
    (λ e. simp e (omega arith))

pub code_few : (code : ℕ) → code < 65536 → length (decimal_of code) ≤ 5
code_few code h = digits_few 20 4 code [] (omega arith)

module _ (word : ℕ → List ℕ) where
  -- the next word of a row
  pub row_next : (sls : ℕ) → sls < 16 → in_row word sls (16 - sls) ≡ (tab ∷ word sls) ++ in_row word (sls + 1) (16 - (sls + 1))
  unfolding in_row
  row_next sls h =
      simp (one_less sls 16 h)
      (ap (λ (next : ℕ). tab ∷ (word sls ++ in_row word next (16 - (sls + 1)))) (sym (add-one sls)))

  -- its end
  pub row_end : (sls : ℕ) → 16 ≤ sls → in_row word sls (16 - sls) ≡ lf ∷ []
  unfolding in_row
  row_end sls h = let none : 16 - sls ≡ 0 = omega arith in simp none

  pub row_few : ((sls : ℕ) → length (word sls) ≤ 2) → (sls more : ℕ) → length (in_row word sls more) ≤ 3 * more + 1
  unfolding in_row
  row_few few sls zero = omega arith
  row_few few sls (suc more) = simp length-append (omega (arith, few sls, row_few few (suc sls) more))

pub header_length : length header_line ≡ 43
unfolding in_row digits_on
header_length = refl

module _ (links marks : List ℕ) (plan : Plan) where
  -- the next line
  pub lines_next : (destination count : ℕ) → destination < count
      → lines_from links marks plan destination (count - destination)
      ≡ line_of links marks plan destination ++ lines_from links marks plan (destination + 1) (count - (destination + 1))
  unfolding lines_from
  lines_next destination count h =
      simp (one_less destination count h)
      (ap
      (λ (next : ℕ). line_of links marks plan destination ++ lines_from links marks plan next (count - (destination + 1)))
      (sym (add-one destination)))

  pub lines_end : (destination count : ℕ) → count ≤ destination
      → lines_from links marks plan destination (count - destination) ≡ []
  unfolding lines_from
  lines_end destination count h = let none : count - destination ≡ 0 = omega arith in simp none

  -- the code of a destination and a row of sixteen links: at most 5 + 49 octets
  pub line_few : (destination : ℕ) → listed_code plan destination < 65536 → length (line_of links marks plan destination) ≤ 54
  line_few destination small =
      simp length-append
      (omega (
        arith,
        code_few (listed_code plan destination) small,
        row_few
            (word_of links marks plan destination)
            (λ sls. word_few (link_of links marks plan destination sls))
            0
            16,
      ))

  -- all has room: at most 43 + 64 × 54 octets
  module _ (small : (destination : ℕ) → listed_code plan destination < 65536) where
    lines_few : (more destination : ℕ) → length (lines_from links marks plan destination more) ≤ 54 * more
    unfolding lines_from
    lines_few zero destination = omega arith
    lines_few (suc more) destination =
        let line : List ℕ = line_of links marks plan destination in
        let rest : List ℕ = lines_from links marks plan (suc destination) more in
        omega (arith, length-append line rest, line_few destination (small destination), lines_few more (suc destination))

    pub list_has_room : length (list_of links marks plan) ≤ 3499
    list_has_room = simp length-append (omega (arith, header_length, lines_few (min plan.count 64) 0))
