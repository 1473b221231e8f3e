-- "Behind the link of a message that the node made stands its name" (docs/FORMATS.md): the name that is told by a heading is that of the message with that
-- heading in the paper's table. Assumes nothing.
use mathlib.Core.Path.{◌≡◌, refl}
use Rattle.wire_messages.specs.declared.management.Message.{Message}
use Rattle.wire_messages.specs.declared.management.Message.TheVariants.{COO, COA, CBD, CBA, ECO, ECA, TFP, TFA, RST}
use Rattle.wire_messages.specs.Management.{heading_of}
use Rattle.fate_lines.specs.Lines.{name_of}
use Rattle.promise_fates.specs.Names.{named}

pub named_by_heading : (message : Message) → name_of (heading_of message) ≡ named message
named_by_heading (COO fsn) = refl
named_by_heading (COA fsn) = refl
named_by_heading (CBD code) = refl
named_by_heading (CBA code) = refl
named_by_heading ECO = refl
named_by_heading ECA = refl
named_by_heading (TFP destination) = refl
named_by_heading (TFA destination) = refl
named_by_heading (RST destination) = refl
