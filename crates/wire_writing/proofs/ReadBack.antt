-- What is written reads back as itself, and two different messages never have the same octets.
-- Assumes nothing.
use mathlib.Core.Path.{◌≡◌, refl, sym, ap, ◌∙◌}
use Prim.Native.Nat.{ℕ, ◌+◌, ◌*◌, ◌/◌, ◌%◌, ◌≤◌, ◌<◌}
use native.Mathlib.Omega.{arith}
use lib.ListN.{length}
use borrow.Author.Tests.{le-leb}
use Rattle.wire.specs.declared.header.Label.{Label}
use Rattle.wire.specs.declared.header.Header.{Header}
use Rattle.std.specs.Prelude.{Some}
use Rattle.wire_messages.specs.declared.management.Message.{Message}
use Rattle.wire_messages.specs.declared.management.Message.TheVariants.{COO, COA, CBD, CBA, ECO, ECA, TFP, TFA, RST}
use Rattle.wire.specs.Header.{sio_of, si_of, ni_of, label_word, label_of, read_header, InRange}
use Rattle.wire_writing.specs.Writing.{octets_of, FieldInRange}
use Rattle.wire_messages.specs.Management.{read_message}
use Rattle.wire.proofs.Labels.{from_low_first, word_below, label_back}
use Rattle.wire_writing.proofs.Written.{eight}

pub si_back : (ni : ℕ) → si_of (sio_of 0 ni) ≡ 0
si_back ni = omega arith

pub ni_back : (ni : ℕ) → ni < 4 → ni_of (sio_of 0 ni) ≡ ni
ni_back ni h = omega arith

fsn_back : (fsn : ℕ) → fsn < 128 → fsn % 128 % 256 % 128 ≡ fsn
fsn_back fsn h = omega arith

code_back : (code : ℕ) → code < 256 → code % 256 % 256 ≡ code
code_back code h = omega arith

destination_back : (destination : ℕ) → destination < 16384 → (destination % 16384 % 256 + 256 * (destination % 16384 / 256 % 256)) % 16384 ≡ destination
destination_back destination h = omega arith

-- what is written of a message in range reads back as that message
pub message_back : (ni : ℕ) (label : Label) (message : Message) → FieldInRange message → read_message (octets_of ni label message) ≡ Some message
message_back ni label (COO fsn) h = ap (λ (x : ℕ). Some (COO x)) (fsn_back fsn h)
message_back ni label (COA fsn) h = ap (λ (x : ℕ). Some (COA x)) (fsn_back fsn h)
message_back ni label (CBD code) h = ap (λ (x : ℕ). Some (CBD x)) (code_back code h)
message_back ni label (CBA code) h = ap (λ (x : ℕ). Some (CBA x)) (code_back code h)
message_back ni label ECO h = refl
message_back ni label ECA h = refl
message_back ni label (TFP destination) h = ap (λ (x : ℕ). Some (TFP x)) (destination_back destination h)
message_back ni label (TFA destination) h = ap (λ (x : ℕ). Some (TFA x)) (destination_back destination h)
message_back ni label (RST destination) h = ap (λ (x : ℕ). Some (RST x)) (destination_back destination h)

-- and its SIO and label as SI 0, that NI and that label
pub header_back : (ni : ℕ) (label : Label) (message : Message) → ni < 4 → InRange label → read_header (octets_of ni label message) ≡ Some (record { si = 0; ni = ni; label = label })
header_back ni label message h range =
    let total = (eight ni label message).total in
    let least : 5 ≤ length (octets_of ni label message) = omega arith in
    let most : length (octets_of ni label message) ≤ 273 = omega (arith, (eight ni label message).most) in
    let word = from_low_first 4 (label_word label) (word_below label) in
    simp (le-leb _ _ least, le-leb _ _ most)
    (λ i. Some (record { si = si_back ni i; ni = ni_back ni h i; label = (ap label_of word ∙ label_back label range) i }))

-- two messages in range with the same octets are one: NI, label and message
pub record Same (ni ni' : ℕ) (label label' : Label) (message message' : Message) : Type 0 where
  pub same_ni : ni ≡ ni'
  pub same_label : label ≡ label'
  pub same_message : message ≡ message'

pub never_the_same :
    (ni ni' : ℕ) (label label' : Label) (message message' : Message) →
    ni < 4 → ni' < 4 → InRange label → InRange label' → FieldInRange message → FieldInRange message' →
    octets_of ni label message ≡ octets_of ni' label' message' → Same ni ni' label label' message message'
never_the_same ni ni' label label' message message' h h' range range' field field' e =
    let header = sym (header_back ni label message h range) ∙ ap read_header e ∙ header_back ni' label' message' h' range' in
    let read = sym (message_back ni label message field) ∙ ap read_message e ∙ message_back ni' label' message' field' in
    let one : ◌≡◌ {A = Header} (record { si = 0; ni = ni; label = label }) (record { si = 0; ni = ni'; label = label' }) = cc in
    record {
      same_ni = ap (λ (x : Header). x.ni) one;
      same_label = ap (λ (x : Header). x.label) one;
      same_message = cc;
    }
