-- A record of calls (docs/FORMATS.md): the line of a call, and of a question, as it is written.
use Rattle.std.specs.Prelude.{ℕ, ◌<◌, List, [], ◌∷◌, ◌++◌, length}
use Rattle.text.specs.Part.{tab}
use Rattle.text_decimals.specs.Decimal.{decimal_of}
use Rattle.text_hex.specs.Hex.{hex_of}
use Rattle.text_pages.specs.Page.{ended, parted, joined}
use Rattle.node.specs.declared.call.Event.{Event}
use Rattle.node.specs.declared.call.Event.TheVariants.{IntoService, Failure, Send, Acknowledgement, Received, FromHost, T1, T2, T3, T4, T6, T8, T10}
use Rattle.node.specs.View.{View, Comes, Fails, Sends, Acknowledges, Arrives, HandedOver, Overdue, Expires, view_of}
use Rattle.node.specs.declared.ask.Question.{Question}
use Rattle.node.specs.declared.ask.Question.TheVariants.{RouteList}
use Rattle.record_reading.specs.declared.Reading.{Reading}
use Rattle.record_reading.specs.declared.Reading.TheVariants.{Asks}
use Rattle.record_reading.specs.Record.{says}

-- "A line is a kind and its fields" (docs/FORMATS.md): the word of the call's kind, its numbers, and the octets of a kind that has them (R223)
abbrev pub fields_of_call : Event → List ℕ → List (List ℕ)
fields_of_call (IntoService link) message = (115 ∷ 101 ∷ 114 ∷ 118 ∷ 105 ∷ 99 ∷ 101 ∷ []) ∷ decimal_of link ∷ []
fields_of_call (Failure link) message = (102 ∷ 97 ∷ 105 ∷ 108 ∷ 117 ∷ 114 ∷ 101 ∷ []) ∷ decimal_of link ∷ []
fields_of_call (Send link) message = (115 ∷ 101 ∷ 110 ∷ 100 ∷ []) ∷ decimal_of link ∷ []
fields_of_call (Acknowledgement link b) message = (97 ∷ 99 ∷ 107 ∷ []) ∷ decimal_of link ∷ decimal_of b ∷ []
fields_of_call (Received link fsn) message = (114 ∷ 101 ∷ 99 ∷ 101 ∷ 105 ∷ 118 ∷ 101 ∷ 100 ∷ []) ∷ decimal_of link ∷ decimal_of fsn ∷ hex_of message ∷ []
fields_of_call FromHost message = (104 ∷ 111 ∷ 115 ∷ 116 ∷ []) ∷ hex_of message ∷ []
fields_of_call (T1 link) message = (116 ∷ 49 ∷ []) ∷ decimal_of link ∷ []
fields_of_call (T2 link) message = (116 ∷ 50 ∷ []) ∷ decimal_of link ∷ []
fields_of_call (T3 link) message = (116 ∷ 51 ∷ []) ∷ decimal_of link ∷ []
fields_of_call (T4 link) message = (116 ∷ 52 ∷ []) ∷ decimal_of link ∷ []
fields_of_call (T6 destination) message = (116 ∷ 54 ∷ []) ∷ decimal_of destination ∷ []
fields_of_call (T8 destination) message = (116 ∷ 56 ∷ []) ∷ decimal_of destination ∷ []
fields_of_call (T10 destination set) message = (116 ∷ 49 ∷ 48 ∷ []) ∷ decimal_of destination ∷ decimal_of set ∷ []

-- and of a question
abbrev pub fields_of_question : Question → List (List ℕ)
fields_of_question RouteList = (114 ∷ 111 ∷ 117 ∷ 116 ∷ 101 ∷ 115 ∷ []) ∷ []

-- what a line says: a call, with the message received or handed over, or a question
pub data Saying : Type 0 where
  calls : Event → List ℕ → Saying
  asks : Question → Saying

-- the fields of either
abbrev pub fields_of : Saying → List (List ℕ)
fields_of (calls event message) = fields_of_call event message
fields_of (asks question) = fields_of_question question

-- "Lines are ended by LF, fields parted by one tab" (docs/FORMATS.md): the pieces of a line of some fields
unfoldable pub as_line : List (List ℕ) → List (List ℕ)
as_line [] = ended ∷ []
as_line (field ∷ []) = field ∷ ended ∷ []
as_line (field ∷ next ∷ more) = field ∷ parted ∷ as_line (next ∷ more)

-- the pieces of the line of what is said
abbrev pub line_of : Saying → List (List ℕ)
line_of saying = as_line (fields_of saying)

-- the octets of such a line before its LF
unfoldable pub tabbed : List (List ℕ) → List ℕ
tabbed [] = []
tabbed (field ∷ []) = field
tabbed (field ∷ next ∷ more) = field ++ (tab ∷ tabbed (next ∷ more))

-- the octets of that line before its LF
abbrev pub text_of : Saying → List ℕ
text_of saying = tabbed (fields_of saying)

-- the octets that a call carries: those of a message that came in or was handed over
abbrev pub carried : View → List ℕ → List ℕ
carried (Arrives link fsn) message = message
carried HandedOver message = message
carried (Comes link) message = []
carried (Fails link) message = []
carried (Sends link) message = []
carried (Acknowledges link b) message = []
carried (Overdue link timer) message = []
carried Expires message = []

-- a question carries none
abbrev pub octets_of : Saying → List ℕ
octets_of (calls event message) = carried (view_of event) message
octets_of (asks question) = []

-- what the line reads as
abbrev pub reading_of : Saying → Reading
reading_of (calls event message) = says event (length (carried (view_of event) message))
reading_of (asks question) = Asks question

-- a record of calls and questions: their lines, one behind the other
unfoldable pub record_of : List Saying → List ℕ
record_of [] = []
record_of (saying ∷ more) = joined (line_of saying) ++ record_of more

-- numbers that a call can have: links, numbers of messages and sets of 8 bits, codes of 16
abbrev pub Fits : Event → Type 0
Fits (IntoService link) = link < 256
Fits (Failure link) = link < 256
Fits (Send link) = link < 256
Fits (Acknowledgement link b) = (link < 256) × (b < 256)
Fits (Received link fsn) = (link < 256) × (fsn < 256)
Fits FromHost = Unit
Fits (T1 link) = link < 256
Fits (T2 link) = link < 256
Fits (T3 link) = link < 256
Fits (T4 link) = link < 256
Fits (T6 destination) = destination < 65536
Fits (T8 destination) = destination < 65536
Fits (T10 destination set) = (destination < 65536) × (set < 256)

-- a question has none
abbrev pub FitsIn : Saying → Type 0
FitsIn (calls event message) = Fits event
FitsIn (asks question) = Unit
