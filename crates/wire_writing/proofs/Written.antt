-- What is written of a management message, case by case: its total, and how its octets lie in the eight that are made first.
-- Assumes nothing.
use mathlib.Core.Path.{◌≡◌, refl, ◌∙◌}
use mathlib.Core.List.{List, ◌++◌}
use Prim.Native.Nat.{ℕ, ◌-◌, ◌^◌, ◌≤◌, ◌<◌}
use lib.Dec.{lit<, lit≤}
use lib.ListN.{length, take, drop}
use lib.Seq.{take-length}
use borrow.Author.Tests.{le-ltb}
use Rattle.wire.specs.declared.header.Label.{Label}
use Rattle.wire_messages.specs.declared.management.Message.{Message}
use Rattle.wire_messages.specs.declared.management.Message.TheVariants.{COO, COA, CBD, CBA, ECO, ECA, TFP, TFA, RST}
use Rattle.wire_writing.specs.Writing.{octets_of, eight_of, written_count, written_into}
use Rattle.wire_messages.specs.Management.{total_of, values_of}

-- a field has at least one value
pub values_some : (message : Message) → 0 < values_of message
values_some (COO fsn) = lit< tt
values_some (COA fsn) = lit< tt
values_some (CBD code) = lit< tt
values_some (CBA code) = lit< tt
values_some ECO = lit< tt
values_some ECA = lit< tt
values_some (TFP destination) = lit< tt
values_some (TFA destination) = lit< tt
values_some (RST destination) = lit< tt

-- a message's total, and room for its field in it; of the eight octets the message has its total
pub record Eight (ni : ℕ) (label : Label) (message : Message) : Type 0 where
  pub total : length (octets_of ni label message) ≡ total_of message
  pub least : 6 ≤ total_of message
  pub most : total_of message ≤ 8
  pub room : values_of message ≤ 256 ^ (total_of message - 6)
  pub first : take (total_of message) (eight_of ni label message) ≡ octets_of ni label message

pub eight : (ni : ℕ) (label : Label) (message : Message) → Eight ni label message
eight ni label (COO fsn) = record { total = refl; least = lit≤ tt; most = lit≤ tt; room = lit≤ tt; first = refl }
eight ni label (COA fsn) = record { total = refl; least = lit≤ tt; most = lit≤ tt; room = lit≤ tt; first = refl }
eight ni label (CBD code) = record { total = refl; least = lit≤ tt; most = lit≤ tt; room = lit≤ tt; first = refl }
eight ni label (CBA code) = record { total = refl; least = lit≤ tt; most = lit≤ tt; room = lit≤ tt; first = refl }
eight ni label ECO = record { total = refl; least = lit≤ tt; most = lit≤ tt; room = lit≤ tt; first = refl }
eight ni label ECA = record { total = refl; least = lit≤ tt; most = lit≤ tt; room = lit≤ tt; first = refl }
eight ni label (TFP destination) = record { total = refl; least = lit≤ tt; most = lit≤ tt; room = lit≤ tt; first = refl }
eight ni label (TFA destination) = record { total = refl; least = lit≤ tt; most = lit≤ tt; room = lit≤ tt; first = refl }
eight ni label (RST destination) = record { total = refl; least = lit≤ tt; most = lit≤ tt; room = lit≤ tt; first = refl }

-- a message copied to the start of an output of 273 octets or more is written into it
module _ (out part : List ℕ) {octets : List ℕ} (same : part ≡ octets) (enough : 273 ≤ length out) where
  pub copied_count : {count : ℕ} → count ≡ length part → count ≡ written_count out octets
  copied_count e = e ∙ simp (le-ltb _ _ enough, same)

  pub copied_into : {last : List ℕ} → last ≡ take (length part) part ++ drop (length part) out → last ≡ written_into out octets
  copied_into e = e ∙ simp (le-ltb _ _ enough, take-length, same)
