-- A management message that lies in a slot's row, as its heading octet and its field, reads back as itself, and leaves as exactly its octets.
-- Assumes nothing.
use mathlib.Core.Path.{◌≡◌, refl, ap, ◌∙◌}
use mathlib.Core.List.{List, ◌∷◌, ◌++◌}
use Prim.Native.Nat.{ℕ, ◌+◌, ◌*◌, ◌/◌, ◌%◌, ◌<◌}
use native.Mathlib.Omega.{arith}
use lib.ListN.{length}
use Rattle.std.specs.Prelude.{Some}
use Rattle.plan.specs.declared.data.Plan.{Plan}
use Rattle.area_slots.specs.declared.Slot.{Slot}
use Rattle.area_slots.specs.SlotRows.{slot_at}
use Rattle.queue_slots.specs.Message.{management_row, management_rows}
use Rattle.queue_slots.proofs.ReadBack.{management_read}
use Rattle.wire.specs.declared.header.Label.{Label}
use Rattle.wire.specs.Header.{sio_of, low_first, label_word}
use Rattle.wire_messages.specs.declared.management.Message.{Message}
use Rattle.wire_messages.specs.declared.management.Message.TheVariants.{COO, COA, CBD, CBA, ECO, ECA, TFP, TFA, RST}
use Rattle.wire_messages.specs.Management.{heading_of, field_of}
use Rattle.wire_writing.specs.Writing.{part_of, octets_of, FieldInRange}
use Rattle.sending.specs.Send.{held_message, held_label}

fsn_back : (fsn : ℕ) → fsn < 128 → fsn % 256 % 128 ≡ fsn
fsn_back fsn h = omega arith

code_back : (code : ℕ) → code < 256 → code % 256 ≡ code
code_back code h = omega arith

destination_back : (x : ℕ) → x < 16384 → (x % 256 + 256 * (x / 256 % 256)) % 16384 ≡ x
destination_back x h = omega arith

-- what a row reads as
abbrev pub held_as : Message → Message
held_as (COO fsn) = COO (fsn % 256 % 128)
held_as (COA fsn) = COA (fsn % 256 % 128)
held_as (CBD code) = CBD (code % 256)
held_as (CBA code) = CBA (code % 256)
held_as ECO = ECO
held_as ECA = ECA
held_as (TFP x) = TFP ((x % 256 + 256 * (x / 256 % 256)) % 16384)
held_as (TFA x) = TFA ((x % 256 + 256 * (x / 256 % 256)) % 16384)
held_as (RST x) = RST ((x % 256 + 256 * (x / 256 % 256)) % 16384)

-- a message in range reads as itself
pub held_as_itself : (message : Message) → FieldInRange message → held_as message ≡ message
held_as_itself (COO fsn) h = ap COO (fsn_back fsn h)
held_as_itself (COA fsn) h = ap COA (fsn_back fsn h)
held_as_itself (CBD code) h = ap CBD (code_back code h)
held_as_itself (CBA code) h = ap CBA (code_back code h)
held_as_itself ECO h = refl
held_as_itself ECA h = refl
held_as_itself (TFP x) h = ap TFP (destination_back x h)
held_as_itself (TFA x) h = ap TFA (destination_back x h)
held_as_itself (RST x) h = ap RST (destination_back x h)

-- octets of a message by its field
module _ (ni : ℕ) (label : Label) where
  abbrev spelt : ℕ → ℕ → ℕ → List ℕ
  spelt heading many field = sio_of 0 ni ∷ (low_first 4 (label_word label) ++ (heading ∷ low_first many field))

  fsn_octets : (heading fsn : ℕ) → spelt heading 1 (fsn % 256 % 128 % 128) ≡ spelt heading 1 (fsn % 128)
  fsn_octets heading fsn = let same : fsn % 256 % 128 % 128 ≡ fsn % 128 = omega arith in ap (spelt heading 1) same

  code_octets : (heading code : ℕ) → spelt heading 1 (code % 256 % 256) ≡ spelt heading 1 (code % 256)
  code_octets heading code = let same : code % 256 % 256 ≡ code % 256 = omega arith in ap (spelt heading 1) same

  destination_octets : (heading x : ℕ)
      → spelt heading 2 ((x % 256 + 256 * (x / 256 % 256)) % 16384 % 16384) ≡ spelt heading 2 (x % 16384)
  destination_octets heading x =
      let same : (x % 256 + 256 * (x / 256 % 256)) % 16384 % 16384 ≡ x % 16384 = omega arith in ap (spelt heading 2) same

  -- what a row reads as has the octets of the message, of which spare bits are written 0
  held_as_octets : (message : Message) → octets_of ni label (held_as message) ≡ octets_of ni label message
  held_as_octets (COO fsn) = fsn_octets 0x11 fsn
  held_as_octets (COA fsn) = fsn_octets 0x21 fsn
  held_as_octets (CBD code) = code_octets 0x51 code
  held_as_octets (CBA code) = code_octets 0x61 code
  held_as_octets ECO = refl
  held_as_octets ECA = refl
  held_as_octets (TFP x) = destination_octets 0x14 x
  held_as_octets (TFA x) = destination_octets 0x54 x
  held_as_octets (RST x) = destination_octets 0x15 x

-- the row that holds a message for a point, with an SLC
module _ (arrival point slc : ℕ) where
  abbrev pub row_of : Message → Slot
  row_of message = management_row arrival (heading_of message) point slc (field_of message)

  -- it reads as a message
  pub row_reads : (message : Message) → held_message (row_of message) ≡ Some (held_as message)
  row_reads (COO fsn) = refl
  row_reads (COA fsn) = refl
  row_reads (CBD code) = refl
  row_reads (CBA code) = refl
  row_reads ECO = refl
  row_reads ECA = refl
  row_reads (TFP x) = refl
  row_reads (TFA x) = refl
  row_reads (RST x) = refl

  -- a message in range reads back as itself
  pub row_back : (message : Message) → FieldInRange message → held_message (row_of message) ≡ Some message
  row_back message h = row_reads message ∙ ap Some (held_as_itself message h)

  -- and so it does out of the rows that it was written into
  pub held_back : (rows : List ℕ) (slot : ℕ) → length rows ≡ 2048 → slot < 256 → (message : Message) → FieldInRange message
      → held_message (slot_at (management_rows rows slot arrival (heading_of message) point slc (field_of message)) slot) ≡ Some message
  held_back rows slot long there message h =
      ap held_message (management_read rows slot arrival (heading_of message) point slc (field_of message) long there) ∙ row_back message h

  -- its label has the point for DPC, our code for OPC and the SLC for SLS, in as many bits as each has
  label_held : (plan : Plan) (message : Message)
      → label_word (held_label plan (row_of message)) ≡ label_word (record { dpc = point; opc = plan.code; sls = slc })
  label_held plan message = omega arith

  -- what leaves of it are the octets of the message with that label
  pub octets_held : (plan : Plan) (message : Message)
      → octets_of plan.ni (held_label plan (row_of message)) (held_as message)
      ≡ octets_of plan.ni (record { dpc = point; opc = plan.code; sls = slc }) message
  octets_held plan message =
      held_as_octets plan.ni (held_label plan (row_of message)) message
      ∙ ap (λ (word : ℕ). sio_of 0 plan.ni ∷ (low_first 4 word ++ part_of message)) (label_held plan message)
