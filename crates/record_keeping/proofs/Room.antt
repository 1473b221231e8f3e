-- The room that a line asks for, and that it stands on a page that has it.
-- Assumes nothing.
use mathlib.Core.Path.{◌≡◌, refl, sym, ap, ◌∙◌}
use mathlib.Core.List.{List, [], ◌∷◌, ◌++◌, append_assoc}
use Prim.Native.Nat.{ℕ, zero, suc, ◌+◌, ◌*◌, ◌/◌, ◌%◌, ◌^◌, ◌≤◌, ◌<◌}
use native.Mathlib.Omega.{arith}
use lib.Dec.{ltb}
use lib.ListN.{length, take, drop, length-append, length-take}
use lib.Seq.{slice, take_at, drop_at}
use borrow.Author.Tests.{le-leb, lt-ltb}
use borrow.Table.Steps.{cases}
use Rattle.text_decimals.specs.Decimal.{digits_on, decimal_of}
use Rattle.text_hex.proofs.Octets.{hex_length}
use Rattle.node.specs.declared.call.Event.{Event}
use Rattle.node.specs.declared.call.Event.TheVariants.{IntoService, Failure, Send, Acknowledgement, Received, FromHost, T1, T2, T3, T4, T6, T8, T10}
use Rattle.node.specs.View.{view_of}
use Rattle.node.specs.declared.ask.Question.TheVariants.{RouteList}
use Rattle.text.specs.Put.{written}
use Rattle.text_pages.specs.Page.{Page, page, puts, joined, ended}
use Rattle.text_pages.proofs.Pages.{puts_joined}
use Rattle.record_keeping.specs.Recorder.{Saying, calls, asks, fields_of, as_line, line_of, text_of, carried, octets_of, Fits, FitsIn}
use Rattle.record_keeping.proofs.Fields.{line_joined}

-- a number below a power of ten has no more digits
few_digits : (k most n : ℕ) (rest : List ℕ) → most ≤ k → n < 10 ^ suc most → length (digits_on (suc k) n rest) ≤ suc most + length rest
unfolding digits_on
few_digits k zero n rest h few = simp (lt-ltb n 10 (omega arith)) (omega arith)
few_digits zero (suc most) n rest h few = absurd (omega arith)
few_digits (suc k) (suc most) n rest h few =
    cases (ltb n 10)
    (λ e. simp e (omega arith))
    (λ e. simp e (omega (arith, few_digits k most (n / 10) ((48 + n % 10) ∷ rest) (omega arith) (omega arith))))

-- a link, a number or a set has at most three, a code at most five
module _ (n : ℕ) where
  octet_short : n < 256 → length (decimal_of n) ≤ 3
  octet_short h = few_digits 19 2 n [] (omega arith) (omega arith)

  code_short : n < 65536 → length (decimal_of n) ≤ 5
  code_short h = few_digits 19 4 n [] (omega arith) (omega arith)

-- a line has at most eighteen octets and two for each that the call carries
call_length :
    (event : Event) (message : List ℕ) → Fits event → length (joined (line_of (calls event message))) ≤ 18 + 2 * length (carried (view_of event) message)
unfolding joined as_line
call_length (IntoService link) message fits = simp length-append (omega (arith, octet_short link fits))
call_length (Failure link) message fits = simp length-append (omega (arith, octet_short link fits))
call_length (Send link) message fits = simp length-append (omega (arith, octet_short link fits))
call_length (Acknowledgement link b) message fits = simp length-append (omega (arith, octet_short link fits.0, octet_short b fits.1))
call_length (Received link fsn) message fits =
    simp length-append (omega (arith, octet_short link fits.0, octet_short fsn fits.1, hex_length message))
call_length FromHost message fits = simp length-append (omega (arith, hex_length message))
call_length (T1 link) message fits = simp length-append (omega (arith, octet_short link fits))
call_length (T2 link) message fits = simp length-append (omega (arith, octet_short link fits))
call_length (T3 link) message fits = simp length-append (omega (arith, octet_short link fits))
call_length (T4 link) message fits = simp length-append (omega (arith, octet_short link fits))
call_length (T6 destination) message fits = simp length-append (omega (arith, code_short destination fits))
call_length (T8 destination) message fits = simp length-append (omega (arith, code_short destination fits))
call_length (T10 destination set) message fits = simp length-append (omega (arith, code_short destination fits.0, octet_short set fits.1))

pub line_length : (saying : Saying) → FitsIn saying → length (joined (line_of saying)) ≤ 18 + 2 * length (octets_of saying)
unfolding joined as_line
line_length (calls event message) fits = call_length event message fits
line_length (asks RouteList) fits = omega arith

-- what stands between the start and the end of what was written is what was written
cut_out : (start text end : List ℕ) (at to : ℕ) → length start ≡ at → at + length text ≡ to → slice at to (start ++ (text ++ end)) ≡ text
cut_out start text end at to e f =
    ap (drop at) (ap (take to) (sym (append_assoc start text end)) ∙ take_at (start ++ text) end to (length-append start text ∙ omega arith))
    ∙ drop_at start text at e

-- where a page has that room, the line stands at its place, and the place past it is behind its LF
pub line_stands :
    (out : List ℕ) (at : ℕ) (saying : Saying) →
    FitsIn saying → at + (18 + 2 * length (octets_of saying)) ≤ length out →
    ((puts (page out at) (line_of saying)).at ≡ at + length (text_of saying) + 1) ×
    (slice at (at + length (text_of saying)) (puts (page out at) (line_of saying)).area ≡ text_of saying)
line_stands out at saying fits room =
    let all = joined (line_of saying) in
    let text = text_of saying in
    let ends : all ≡ text ++ ended = line_joined (fields_of saying) in
    let long : length all ≡ length text + 1 = ap length ends ∙ length-append text ended in
    let short : at + length all ≤ length out = omega (arith, line_length saying fits) in
    let put-at = puts_joined out at (line_of saying) short in
    let there : written out at all ≡ take at out ++ (text ++ (ended ++ drop (at + length all) out)) =
    simp (le-leb (at + length all) (length out) short)
    (ap (λ (l : List ℕ). take at out ++ (l ++ drop (at + length all) out)) ends
    ∙ ap (λ (l : List ℕ). take at out ++ l) (append_assoc text ended (drop (at + length all) out)))
    in (
      ap (λ (p : Page). p.at) put-at ∙ omega arith,
      ap (λ (p : Page). slice at (at + length text) p.area) put-at
          ∙ ap (slice at (at + length text)) there
          ∙ cut_out (take at out) text (ended ++ drop (at + length all) out) at (at + length text) (omega (arith, length-take at out)) refl,
    )
