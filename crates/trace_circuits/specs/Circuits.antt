-- Which messages are about a circuit, and which circuit that is: docs/FORMATS.md, "What a trace writes".
use Rattle.std.specs.Prelude.{ℕ, ◌+◌, ◌*◌, ◌%◌, Bool, ◌&&◌, cond, eqb, leb, get_or, Option, Some, None, is_none}
use Rattle.trace_circuits.specs.declared.message.Message.{Message}

-- "a message with SI 5 that has at least three octets behind its label"; one that the node made has a name
abbrev pub has_circuit : Message → Bool
has_circuit message = is_none message.name && (eqb message.si 5 && leb 3 message.length)

-- "the first of these octets and 256 times the low four bits of the second"
abbrev pub circuit_in : Message → ℕ
circuit_in message = get_or message.octets 0 0 + 256 * (get_or message.octets 1 0 % 16)

-- the circuit that a message is about
abbrev pub circuit_of : Message → Option ℕ
circuit_of message = cond (has_circuit message) (Some (circuit_in message)) None
