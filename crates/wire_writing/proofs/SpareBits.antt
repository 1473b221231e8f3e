-- What reads as a message differs from its written form only in spare bits.
-- Assumes nothing.
use mathlib.Core.Path.{◌≡◌, refl, sym, ap, ap₂, subst, ◌∙◌}
use mathlib.Core.Bool.{Bool, true, false, cond}
use mathlib.Core.List.{List, [], ◌∷◌, ◌++◌}
use Prim.Native.Nat.{ℕ, zero, suc, ◌+◌, ◌-◌, ◌*◌, ◌/◌, ◌%◌, ◌^◌, ◌≤◌, ◌<◌}
use native.Mathlib.Nat.{mod-lt, mod-mod}
use native.Mathlib.Omega.{arith}
use lib.Dec.{eqb, lit<}
use lib.ListN.{length, get_or, take, drop, length-drop}
use lib.Seq.{length-take-le, take_all, take-suc, get_or-drop}
use borrow.Author.Tests.{eqb-true}
use Rattle.wire_messages.specs.declared.management.Message.{Message}
use Rattle.std.specs.Prelude.{Option, Some, None}
use Rattle.wire.specs.Header.{si_of, ni_of, low_first, from_low, label_word, header_of, Octets}
use Rattle.wire_writing.specs.Writing.{octets_of, FieldInRange, OnlySpare}
use Rattle.wire_messages.specs.Management.{heading_of, total_of, field_of, values_of, nine, headed, listed, exactly, read_message}
use Rattle.wire.proofs.Labels.{octets_part, from_low_first, from_low_below, low_first_from, word_back}
use Rattle.wire.proofs.Places.{places, part_places}
use Rattle.wire_writing.proofs.ReadBack.{si_back, ni_back}
use Rattle.wire_writing.proofs.Written.{Eight, eight, values_some}

-- a total that is right leaves what is listed
exact : (total : ℕ) (listed : Option Message) (message : Message) → exactly total listed ≡ Some message → (listed ≡ Some message) × (total ≡ total_of message)
exact total (Some listed) message e = go (eqb total (total_of listed)) refl e
  where
    go : (t : Bool) → eqb total (total_of listed) ≡ t → cond t (Some listed) None ≡ Some message → (Some listed ≡ Some message) × (total ≡ total_of message)
    go true same e =
        let one : listed ≡ message = cc in
        (e, eqb-true _ _ same ∙ ap total_of one)
    go false same e = let never : ◌≡◌ {A = ℕ} 0 1 = cc in absurd (omega arith)
exact total None message e = let never : ◌≡◌ {A = ℕ} 0 1 = cc in absurd (omega arith)

-- something holds of each of some messages
data Each (P : Message → Type 0) : List Message → Type 0 where
  none : Each P []
  more : {message : Message} {rest : List Message} → P message → Each P rest → Each P (message ∷ rest)

-- what holds of each holds of the one that has the heading
found : (P : Message → Type 0) (heading : ℕ) (messages : List Message) (message : Message) → Each P messages → headed heading messages ≡ Some message → (heading ≡ heading_of message) × P message
found P heading [] message all e = let never : ◌≡◌ {A = ℕ} 0 1 = cc in absurd (omega arith)
found P heading (first ∷ rest) message (more p all) e = go (eqb heading (heading_of first)) refl (found P heading rest message all) e
  where
    go : (t : Bool) → eqb heading (heading_of first) ≡ t → (headed heading rest ≡ Some message → (heading ≡ heading_of message) × P message) → cond t (Some first) (headed heading rest) ≡ Some message → (heading ≡ heading_of message) × P message
    go true same later e =
        let one : first ≡ message = cc in
        (eqb-true _ _ same ∙ ap heading_of one, subst P one p)
    go false same later e = later e

-- a message's field is what the octets behind the heading say, less spare bits
abbrev Field : ℕ → ℕ → Message → Type 0
Field low high message = field_of message ≡ from_low (take (total_of message - 6) (low ∷ high ∷ [])) % values_of message

each_field : (low high : ℕ) → low < 256 → Each (Field low high) (nine low high)
each_field low high h =
    let fsn : low % 128 ≡ (low + 0) % 128 = omega arith in
    let code : low ≡ (low + 0) % 256 = omega arith in
    let destination : (low + 256 * high) % 16384 ≡ (low + 256 * (high + 0)) % 16384 = omega arith in
    more fsn (more fsn (more code (more code (more refl (more refl (more destination (more destination (more destination none))))))))

-- at most two octets stand behind the heading
two_places : (s : List ℕ) (n : ℕ) → n ≤ 2 → places s 6 n ≡ take n (get_or s 6 0 ∷ get_or s 7 0 ∷ [])
two_places s zero h = refl
two_places s (suc zero) h = refl
two_places s (suc (suc zero)) h = refl
two_places s (suc (suc (suc n))) h = absurd (omega arith)

-- what reads as a message differs from its written form only in spare bits
module _ (s : List ℕ) (message : Message) (octets : Octets s) (read : read_message s ≡ Some message) where
  total : length s ≡ total_of message
  total = (exact (length s) (listed (get_or s 5 0) (get_or s 6 0) (get_or s 7 0)) message read).1

  known : (get_or s 5 0 ≡ heading_of message) × Field (get_or s 6 0) (get_or s 7 0) message
  known =
      found (Field (get_or s 6 0) (get_or s 7 0)) (get_or s 5 0) (nine (get_or s 6 0) (get_or s 7 0)) message
      (each_field (get_or s 6 0) (get_or s 7 0) (octets 6))
      (exact (length s) (listed (get_or s 5 0) (get_or s 6 0) (get_or s 7 0)) message read).0

  facts : Eight (header_of s).ni (header_of s).label message
  facts = eight (header_of s).ni (header_of s).label message

  label_octets : take 4 (drop 1 s) ≡ low_first 4 (label_word (header_of s).label)
  label_octets =
      let four = take 4 (drop 1 s) in
      let enough : 4 ≤ length (drop 1 s) = simp length-drop (omega (arith, total, facts.least)) in
      let count = length-take-le 4 (drop 1 s) enough in
      let below : from_low four < 256 ^ 4 = rw count at (from_low_below four (octets_part 4 1 s octets)) in
      sym
      (ap (low_first 4) (word_back (from_low four) below)
      ∙ ap (λ (n : ℕ). low_first n (from_low four)) (sym count)
      ∙ low_first_from four (octets_part 4 1 s octets))

  field_octets : drop 6 s ≡ take (total_of message - 6) (get_or s 6 0 ∷ get_or s 7 0 ∷ [])
  field_octets =
      let n = total_of message - 6 in
      sym (take_all n (drop 6 s) (simp length-drop (omega (arith, total))))
      ∙ part_places s 6 n (omega (arith, total, facts.least))
      ∙ two_places s n (omega (arith, facts.most))

  -- the field is in range, since its spare bits were left out
  field_in_range : field_of message % values_of message ≡ field_of message
  field_in_range = ap (λ (x : ℕ). x % values_of message) known.1 ∙ mod-mod _ (values_of message) ∙ sym known.1

  -- what is read is in range
  pub read_in_range : FieldInRange message
  read_in_range = omega (arith, mod-lt (field_of message) (values_some message), field_in_range)

  module _ (management : si_of (get_or s 0 0) ≡ 0) where
    pub only_spare_bits : OnlySpare message s (octets_of (header_of s).ni (header_of s).label message)
    only_spare_bits =
        let low = mod-lt (field_of message) (values_some message) in
        let small : field_of message % values_of message < 256 ^ (total_of message - 6) = omega (arith, low, facts.room) in
        record {
          si_same = management ∙ sym (si_back (ni_of (get_or s 0 0)));
          ni_same = sym (ni_back (ni_of (get_or s 0 0)) (mod-lt (get_or s 0 0 / 64) (lit< tt)));
          label_and_heading_same =
              take-suc (drop 1 s) 4 0 (simp length-drop (omega (arith, total, facts.least)))
              ∙ ap₂ (λ (label : List ℕ) (heading : ℕ). label ++ (heading ∷ [])) label_octets (get_or-drop 1 s 4 0 ∙ known.0);
          field_same =
              ap (λ (x : List ℕ). from_low x % values_of message) field_octets
              ∙ sym known.1
              ∙ sym field_in_range
              ∙ sym (from_low_first (total_of message - 6) (field_of message % values_of message) small);
          total_same = total ∙ sym facts.total;
        }
