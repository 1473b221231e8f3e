-- "fields parted by one tab" (docs/FORMATS.md): the first four of a line, found one after the other. No line of ours has more.
use Rattle.std.specs.Prelude.{ℕ, Bool, cond, List, Option}
use Rattle.text.specs.Part.{field_at}
use Rattle.text.specs.declared.part.Part.{Part}
use Rattle.text_decimals.specs.Decimal.{number_of}
use Rattle.text_fields.specs.declared.Found.{Found}

-- how many fields there are, by which of the first four a tab closes; 5 for more than four
abbrev pub counted : Bool → Bool → Bool → Bool → ℕ
counted zero one two three = cond zero (cond one (cond two (cond three 5 4) 3) 2) 1

-- the first four fields of a line, by where each ends
abbrev pub fields_by : Part → Part → Part → Part → Found
fields_by zero one two three =
    record {
      count = counted zero.closed one.closed two.closed three.closed;
      zero = zero;
      one = one;
      two = two;
      three = three;
    }

-- the fields of the line between two places of a text
abbrev pub fields_at : List ℕ → ℕ → ℕ → Found
fields_at text at to =
    let zero = field_at text at to in
    let one = field_at text zero.next to in
    let two = field_at text one.next to in
    fields_by zero one two (field_at text two.next to)

-- "any plain decimal of 64 bits" (decision 17): the number that a field says
abbrev pub number : List ℕ → Option ℕ
number field = number_of field 18446744073709551615
