-- Discrimination: what a message is to this node. Rows 3 and 4 of the paper's table, in this order.
use Rattle.std.specs.Prelude.{ℕ, cond, not, ◌||◌, List, eqb, Option, Some, None}
use Rattle.plan.specs.declared.data.Plan.{Plan}
use Rattle.wire.specs.declared.header.Header.{Header}
use Rattle.wire_messages.specs.declared.management.Message.{Message}
use Rattle.wire.specs.Header.{read_header}
use Rattle.wire_messages.specs.Management.{read_message}
use Rattle.discrimination.specs.declared.Came.{Came}
use Rattle.discrimination.specs.declared.Came.TheVariants.{Malformed, Foreign, Delivered, Managed, Passed}

-- row 4, "NI isn't ours" (R50), comes behind row 3
abbrev pub of_ours : Plan → Header → Came → Came
of_ours plan header came = cond (eqb header.ni plan.ni) came Foreign

-- a message for our own management: "SI 0 with a heading not listed or a wrong total" (R66) is malformed (R30)
unfoldable pub managed : Plan → Header → Option Message → Came
managed plan header None = Malformed
managed plan header (Some message) =
    of_ours plan header (Managed (record { point = header.label.opc; slc = header.label.sls; message = message }))

-- a message for our code: "A message with another SI and our code is delivered" (R39)
unfoldable pub ours : Plan → Header → List ℕ → Came
ours plan header message =
    cond (eqb header.si 0) (managed plan header (read_message message)) (of_ours plan header Delivered)

-- a message from a link, by its header: "SI 0 for another DPC is a user message." (R67)
unfoldable pub from_link_by : Plan → List ℕ → Option Header → Came
from_link_by plan message None = Malformed
from_link_by plan message (Some header) =
    cond (eqb header.label.dpc plan.code)
    (ours plan header message)
    (of_ours plan header (Passed header.label))

-- a message from a link (R1)
abbrev pub from_link : Plan → List ℕ → Came
from_link plan message = from_link_by plan message (read_header message)

-- a message from the host, by its header: malformed is "from the host also SI 0 or an OPC not ours" (R64, R65)
unfoldable pub from_host_by : Plan → Option Header → Came
from_host_by plan None = Malformed
from_host_by plan (Some header) =
    cond (eqb header.si 0 || not (eqb header.label.opc plan.code))
    Malformed
    (of_ours plan header (Passed header.label))

-- a message from the host
abbrev pub from_host : Plan → List ℕ → Came
from_host plan message = from_host_by plan (read_header message)
