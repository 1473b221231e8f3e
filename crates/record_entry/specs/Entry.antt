-- A line of a record (docs/FORMATS.md): a kind and its fields, or that it can't be read, for its kind, its number of fields or one of its fields.
use Rattle.std.specs.Prelude.{ℕ, Bool, cond, List, [], Option, Some, None, length, get_or, eqb, ltb}
use Rattle.text.specs.Part.{split, tab}
use Rattle.text_hex.specs.Hex as Hex
use Rattle.text_fields.specs.Fields.{number}
use Rattle.record_kinds.specs.declared.Kind.{Kind}
use Rattle.record_kinds.specs.declared.Form.{Form}
use Rattle.record_kinds.specs.declared.Form.TheVariants.{Bare, OneNumber, TwoNumbers, Message, TwoNumbersAndMessage}
use Rattle.record_kinds.specs.Kind.{form_of, fields_of}
use Rattle.record_words.specs.KindWords.{kind_of}
use Rattle.record_entry.specs.declared.Said.{Said}

-- how many numbers a line of a form has
abbrev pub numbers_of : Form → ℕ
numbers_of Bare = 0
numbers_of OneNumber = 1
numbers_of TwoNumbers = 2
numbers_of Message = 0
numbers_of TwoNumbersAndMessage = 2

-- the number that a field says, of a form that has more than so many; else 0
abbrev pub number_in : Form → ℕ → List ℕ → Option ℕ
number_in form before field = cond (ltb before (numbers_of form)) (number field) (Some 0)

-- the field of the octets; none where the form has none
abbrev pub octets_in : Form → List ℕ → List ℕ → List ℕ
octets_in Bare one three = []
octets_in OneNumber one three = []
octets_in TwoNumbers one three = []
octets_in Message one three = one
octets_in TwoNumbersAndMessage one three = three

-- a kind with its numbers and octets, where each of them can be read
abbrev pub says_by : Kind → Option ℕ → Option ℕ → Option ℕ → Option Said
says_by kind (Some first) (Some second) (Some octets) = Some (record { kind = kind; first = first; second = second; octets = octets })
says_by kind (Some first) (Some second) None = None
says_by kind (Some first) None octets = None
says_by kind None second octets = None

-- an area with octets put into it where both numbers can be read, else as it was
abbrev pub kept_with : Option ℕ → Option ℕ → List ℕ → List ℕ → List ℕ
kept_with (Some first) (Some second) after area = after
kept_with (Some first) None after area = area
kept_with None second after area = area

-- what the fields behind a kind say, for octets that the area has room for
abbrev pub read_by : List ℕ → Kind → List ℕ → List ℕ → List ℕ → Option Said
read_by area kind one two three =
    let form = form_of kind in
    says_by kind (number_in form 0 one) (number_in form 1 two) (Hex.count_of (octets_in form one three) area)

-- the area with the octets at its start; as it was, where a field can't be read
abbrev pub kept_by : List ℕ → Kind → List ℕ → List ℕ → List ℕ → List ℕ
kept_by area kind one two three =
    let form = form_of kind in
    kept_with (number_in form 0 one) (number_in form 1 two) (Hex.filled (octets_in form one three) area) area

-- whether a line has as many fields as its kind asks for
abbrev pub fitting : Kind → List (List ℕ) → Bool
fitting kind fields = eqb (length fields) (fields_of (form_of kind))

-- a line of a kind, by its fields
abbrev pub read_as : Option Kind → List ℕ → List (List ℕ) → Option Said
read_as None area fields = None
read_as (Some kind) area fields = cond (fitting kind fields) (read_by area kind (get_or fields 1 []) (get_or fields 2 []) (get_or fields 3 [])) None

abbrev pub kept_as : Option Kind → List ℕ → List (List ℕ) → List ℕ
kept_as None area fields = area
kept_as (Some kind) area fields = cond (fitting kind fields) (kept_by area kind (get_or fields 1 []) (get_or fields 2 []) (get_or fields 3 [])) area

-- "A line is a kind and its fields" (docs/FORMATS.md): the kind stands first
abbrev pub kind_in : List (List ℕ) → Option Kind
kind_in fields = kind_of (get_or fields 0 [])

-- "fields parted by one tab" (docs/FORMATS.md): what a line says, its octets put into an area (R223)
abbrev pub read_entry : List ℕ → List ℕ → Option Said
read_entry area line = read_as (kind_in (split tab line)) area (split tab line)

abbrev pub area_after : List ℕ → List ℕ → List ℕ
area_after area line = kept_as (kind_in (split tab line)) area (split tab line)
