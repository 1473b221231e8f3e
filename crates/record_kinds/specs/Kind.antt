-- "A line is a kind and its fields" (docs/FORMATS.md): what stands behind each kind.
use Rattle.std.specs.Prelude.{ℕ, Option, Some, None}
use Rattle.record_kinds.specs.declared.Kind.{Kind}
use Rattle.record_kinds.specs.declared.Kind.TheVariants.{Service, Failure, Send, Acknowledged, Received, Host, Routes, T1, T2, T3, T4, T6, T8, T10}
use Rattle.record_kinds.specs.declared.Form.{Form}
use Rattle.record_kinds.specs.declared.Form.TheVariants.{Bare, OneNumber, TwoNumbers, Message, TwoNumbersAndMessage}

-- LINK; LINK NUMBER; LINK FSN OCTETS; OCTETS; DESTINATION; DESTINATION SET; nothing (R223)
abbrev pub form_of : Kind → Form
form_of Service = OneNumber
form_of Failure = OneNumber
form_of Send = OneNumber
form_of Acknowledged = TwoNumbers
form_of Received = TwoNumbersAndMessage
form_of Host = Message
form_of Routes = Bare
form_of T1 = OneNumber
form_of T2 = OneNumber
form_of T3 = OneNumber
form_of T4 = OneNumber
form_of T6 = OneNumber
form_of T8 = OneNumber
form_of T10 = TwoNumbers

-- how many fields such a line has, its kind among them
abbrev pub fields_of : Form → ℕ
fields_of Bare = 1
fields_of OneNumber = 2
fields_of TwoNumbers = 3
fields_of Message = 2
fields_of TwoNumbersAndMessage = 4

-- the same by the kind that a word names; no line begins with a word that names none
abbrev pub fields_in : Option Kind → ℕ
fields_in (Some kind) = fields_of (form_of kind)
fields_in None = 0
