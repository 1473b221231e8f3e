-- A line of a record, read as a call or as a question (docs/FORMATS.md).
use Rattle.std.specs.Prelude.{ℕ, min, List, Option, Some, None}
use Rattle.node.specs.declared.call.Event.{Event}
use Rattle.node.specs.declared.call.Event.TheVariants as Event·
use Rattle.node.specs.declared.ask.Question.TheVariants.{RouteList}
use Rattle.record_kinds.specs.declared.Kind.{Kind}
use Rattle.record_kinds.specs.declared.Kind.TheVariants.{Service, Failure, Send, Acknowledged, Received, Host, Routes, T1, T2, T3, T4, T6, T8, T10}
use Rattle.record_entry.specs.declared.Said.{Said}
use Rattle.record_entry.specs.Entry.{read_entry, area_after}
use Rattle.record_reading.specs.declared.Reading.{Reading}
use Rattle.record_reading.specs.declared.Reading.TheVariants.{Call, Asks, Unreadable}

-- a call, and how many octets its message has
abbrev pub says : Event → ℕ → Reading
says event octets = Call (record { event = event; octets = octets })

-- "A number that is readable but out of the call's range is read" (docs/FORMATS.md): one above 255 is out of the range of links, numbers and sets
abbrev pub octet : ℕ → ℕ
octet number = min number 255

-- and one above 65535 out of that of codes
abbrev pub code : ℕ → ℕ
code number = min number 65535

-- each kind with its call or question
abbrev pub call_of : Kind → ℕ → ℕ → ℕ → ℕ → Reading
call_of Service link number destination octets = says (Event·.IntoService link) octets
call_of Failure link number destination octets = says (Event·.Failure link) octets
call_of Send link number destination octets = says (Event·.Send link) octets
call_of Acknowledged link number destination octets = says (Event·.Acknowledgement link number) octets
call_of Received link number destination octets = says (Event·.Received link number) octets
call_of Host link number destination octets = says Event·.FromHost octets
call_of Routes link number destination octets = Asks RouteList
call_of T1 link number destination octets = says (Event·.T1 link) octets
call_of T2 link number destination octets = says (Event·.T2 link) octets
call_of T3 link number destination octets = says (Event·.T3 link) octets
call_of T4 link number destination octets = says (Event·.T4 link) octets
call_of T6 link number destination octets = says (Event·.T6 destination) octets
call_of T8 link number destination octets = says (Event·.T8 destination) octets
call_of T10 link number destination octets = says (Event·.T10 destination number) octets

-- "a line that can't be read stops the replay there" (R227)
abbrev pub call_by : Option Said → Reading
call_by (Some said) = call_of said.kind (octet said.first) (octet said.second) (code said.first) said.octets
call_by None = Unreadable

-- what a line says, its octets put into an area
abbrev pub read_line : List ℕ → List ℕ → Reading
read_line area line = call_by (read_entry area line)

-- the area with those octets at its start; as it was, where the line can't be read
abbrev pub message_after : List ℕ → List ℕ → List ℕ
message_after area line = area_after area line
