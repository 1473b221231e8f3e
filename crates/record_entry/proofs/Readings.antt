-- What a line says goes by its first four fields as they are found, and by what is read of each.
-- Assumes nothing.
use mathlib.Core.Path.{◌≡◌, refl, sym, ap, subst, ◌∙◌}
use mathlib.Core.Bool.{Bool, cond}
use mathlib.Core.List.{List, []}
use Prim.Native.Nat.{ℕ, ◌≤◌}
use lib.Dec.{ltb, lit≤}
use lib.ListN.{get_or}
use borrow.Author.Tests.{eq-eqb, ne_eqb}
use Rattle.text_hex.specs.Hex.{count_of, filled}
use Rattle.text_fields.proofs.Listed.{ByFour}
use Rattle.record_kinds.specs.declared.Kind.{Kind}
use Rattle.record_kinds.specs.declared.Form.{Form}
use Rattle.record_kinds.specs.declared.Form.TheVariants.{Bare, OneNumber, TwoNumbers, Message, TwoNumbersAndMessage}
use Rattle.record_kinds.specs.Kind.{form_of, fields_of}
use Rattle.record_words.specs.KindWords.{kind_of}
use Rattle.record_entry.specs.declared.Said.{Said}
use Rattle.std.specs.Prelude.{Option, Some, None}
use Rattle.record_entry.specs.Entry.{number_in, octets_in, says_by, kept_with, read_by, kept_by, read_as, kept_as, kind_in}

-- what two numbers and octets say, read as the kind's form has them
pub by_form :
    (area : List ℕ) (kind : Kind) (one two three : List ℕ) (form : Form) → form ≡ form_of kind →
    (first second : Option ℕ) (field : List ℕ) (octets : Option ℕ) (after : List ℕ) →
    first ≡ number_in form 0 one → second ≡ number_in form 1 two → field ≡ octets_in form one three →
    octets ≡ count_of field area → after ≡ filled field area →
    (says_by kind first second octets ≡ read_by area kind one two three) × (kept_with first second after area ≡ kept_by area kind one two three)
by_form area kind one two three form e first second field octets after e₁ e₂ e₃ e₄ e₅ =
    let first·is = e₁ ∙ ap (λ (f : Form). number_in f 0 one) e in
    let second·is = e₂ ∙ ap (λ (f : Form). number_in f 1 two) e in
    let field·is = e₃ ∙ ap (λ (f : Form). octets_in f one three) e in
    let count·is = e₄ ∙ ap (λ (t : List ℕ). count_of t area) field·is in
    let after·is = e₅ ∙ ap (λ (t : List ℕ). filled t area) field·is in
    (λ i. says_by kind (first·is i) (second·is i) (count·is i), λ i. kept_with (first·is i) (second·is i) (after·is i) area)

-- no form has more than four fields
within : (form : Form) → fields_of form ≤ 4
within Bare = lit≤ tt
within OneNumber = lit≤ tt
within TwoNumbers = lit≤ tt
within Message = lit≤ tt
within TwoNumbersAndMessage = lit≤ tt

-- the fields that a form's numbers and octets stand in are among those that its line has
record Has (form : Form) (one two three : List ℕ) : Type 0 where
  first : number_in form 0 (cond (ltb 1 (fields_of form)) one []) ≡ number_in form 0 one
  second : number_in form 1 (cond (ltb 2 (fields_of form)) two []) ≡ number_in form 1 two
  octets : octets_in form (cond (ltb 1 (fields_of form)) one []) (cond (ltb 3 (fields_of form)) three []) ≡ octets_in form one three

has : (form : Form) (one two three : List ℕ) → Has form one two three
has Bare one two three = search
has OneNumber one two three = search
has TwoNumbers one two three = search
has Message one two three = search
has TwoNumbersAndMessage one two three = search

-- a line whose first field is no kind's word can't be read
pub unnamed : (area : List ℕ) (all : List (List ℕ)) (field : List ℕ) → field ≡ get_or all 0 [] → None ≡ kind_of field
    → (None ≡ read_as (kind_in all) area all) × (area ≡ kept_as (kind_in all) area all)
unnamed area all field cut named =
    let other = named ∙ ap kind_of cut in
    (ap (λ (k : Option Kind). read_as k area all) other, ap (λ (k : Option Kind). kept_as k area all) other)

module _
    (area : List ℕ)
    (all : List (List ℕ))
    (count : ℕ)
    (word one two three : List ℕ)
    (four : ByFour all count word one two three)
    (field : List ℕ)
    (cut : field ≡ word)
    (kind : Kind)
    (named : Some kind ≡ kind_of field)
  where
    same_kind : Some kind ≡ kind_in all
    same_kind = named ∙ ap kind_of (cut ∙ sym (four.first []))

    -- a line with another number of fields can't be read
    pub unfit :
        (count ≡ fields_of (form_of kind) → ⊥) →
        (None ≡ read_as (kind_in all) area all) × (area ≡ kept_as (kind_in all) area all)
    unfit h =
        let no = sym (four.counts _ (within (form_of kind)) ∙ ne_eqb count (fields_of (form_of kind)) h) in (
          ap (λ (b : Bool). cond b (read_by area kind (get_or all 1 []) (get_or all 2 []) (get_or all 3 [])) None) no
              ∙ ap (λ (k : Option Kind). read_as k area all) same_kind,
          ap (λ (b : Bool). cond b (kept_by area kind (get_or all 1 []) (get_or all 2 []) (get_or all 3 [])) area) no
              ∙ ap (λ (k : Option Kind). kept_as k area all) same_kind,
        )

    -- one with the kind's number of fields says what is read of them
    pub fit :
        count ≡ fields_of (form_of kind) → (a b c : List ℕ) → a ≡ one → b ≡ two → c ≡ three →
        (r : Option Said) (after : List ℕ) → r ≡ read_by area kind a b c → after ≡ kept_by area kind a b c →
        (r ≡ read_as (kind_in all) area all) × (after ≡ kept_as (kind_in all) area all)
    fit h a b c e₁ e₂ e₃ r after reads keeps =
        let form = form_of kind in
        let yes = sym (four.counts _ (within form) ∙ eq-eqb count (fields_of form) h) in
        let of = subst (λ (n : ℕ). ByFour all n word one two three) h four in
        let All-there = has form one two three in
        let same =
        by_form area kind (get_or all 1 []) (get_or all 2 []) (get_or all 3 []) form refl
        (number_in form 0 one) (number_in form 1 two) (octets_in form one three) _ _
        (sym (ap (number_in form 0) (of.second []) ∙ All-there.first))
        (sym (ap (number_in form 1) (of.third []) ∙ All-there.second))
        (sym ((λ i. octets_in form (of.second [] i) (of.fourth [] i)) ∙ All-there.octets))
        refl refl in (
          reads
              ∙ (λ i. read_by area kind (e₁ i) (e₂ i) (e₃ i))
              ∙ same.0
              ∙ ap (λ (b : Bool). cond b (read_by area kind (get_or all 1 []) (get_or all 2 []) (get_or all 3 [])) None) yes
              ∙ ap (λ (k : Option Kind). read_as k area all) same_kind,
          keeps
              ∙ (λ i. kept_by area kind (e₁ i) (e₂ i) (e₃ i))
              ∙ same.1
              ∙ ap (λ (b : Bool). cond b (kept_by area kind (get_or all 1 []) (get_or all 2 []) (get_or all 3 [])) area) yes
              ∙ ap (λ (k : Option Kind). kept_as k area all) same_kind,
        )
