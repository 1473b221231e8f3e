-- A message from the host: it is malformed, of another network or one for a point, and its reply is the first of its rows that
-- applies. Assumes nothing.
use Prim.Native.Nat.{ℕ}
use mathlib.Core.Bool.{Bool, true, false, cond, not, ◌||◌}
use mathlib.Core.List.{List, ◌∷◌}
use mathlib.Core.Path.{◌≡◌, refl, ◌∙◌}
use lib.Dec.{eqb}
use lib.ListN.{length}
use Rattle.std.specs.Prelude.{Option, Some, None}
use Rattle.plan.specs.declared.data.Plan.{Plan}
use Rattle.wire.specs.declared.header.Label.{Label}
use Rattle.wire.specs.declared.header.Header.{Header}
use Rattle.wire.specs.Header.{read_header}
use Rattle.replies.specs.Reply.{Row, row, first}
use Rattle.replies.specs.Areas.{Areas, Outcome, refused}
use Rattle.queue_joining.specs.Queue.{user_refusals, user_reply}
use Rattle.discrimination.specs.declared.Came.{Came}
use Rattle.discrimination.specs.declared.Came.TheVariants.{Malformed, Foreign, Passed}
use Rattle.discrimination.specs.Discrimination.{from_host}
use Rattle.discrimination.specs.Discrimination as Discrimination
use Rattle.passing_passage.specs.Passage.{place_reply}
use Rattle.passing_offering.specs.Host.{refuses, offered, from_host_by, sent}
use Rattle.promise_table.specs.Received.{is_malformed, is_foreign}
use Rattle.promise_table.specs.Table.{is_refused, from_host_rows}
use Rattle.promise_table.proofs.Either.{either}
use Rattle.promise_table.proofs.Judged.{judged_done}

-- the kinds that a message from the host can be
module _ (P : Came → Type 0) (malformed : P Malformed) (foreign : P Foreign) (other : (label : Label) → P (Passed label)) where
  by_header : (plan : Plan) (read : Option Header) → P (Discrimination.from_host_by plan read)
  unfolding Discrimination.from_host_by
  by_header plan None = malformed
  by_header plan (Some header) =
      either P (eqb header.si 0 || not (eqb header.label.opc plan.code)) Malformed _ malformed
      (either P (eqb header.ni plan.ni) (Passed header.label) Foreign (other header.label) foreign)

  host_kinds : (plan : Plan) (message : List ℕ) → P (from_host plan message)
  host_kinds plan message = by_header plan (read_header message)

-- a row more before those of an outcome
module _ (a : Areas) (o : Outcome) (later : List Row) (is : o.answer.reply ≡ first later) where
  row_before : (n : ℕ) (t : Bool) → (cond t (refused n a) o).answer.reply ≡ first (row n t ∷ later)
  unfolding first
  row_before n true = refl
  row_before n false = is

  row_unless : (n : ℕ) (t : Bool) → (cond t o (refused n a)).answer.reply ≡ first (row n (not t) ∷ later)
  unfolding first
  row_unless n true = is
  row_unless n false = refl

-- a message that needs a user place
pub places : (a : Areas) → place_reply a ≡ first (user_refusals a.spans a.arrivals)
unfolding user_reply
places a = refl

module _ (plan : Plan) (message : List ℕ) (a : Areas) where
  -- the rows after the first, by what the message is
  abbrev later : Came → List Row
  later came =
      row 3 (is_malformed came)
      ∷ row 4 (is_foreign came)
      ∷ row 9 (is_refused plan a came)
      ∷ user_refusals a.spans a.arrivals

  abbrev Replies : Came → Type 0
  Replies came = (from_host_by plan came (length message) a).answer.reply ≡ first (later came)

  offered_reply : (label : Label) → Replies (Passed label)
  unfolding from_host_by offered is_refused first
  offered_reply label =
      row_before a _ (user_refusals a.spans a.arrivals)
      (judged_done (place_reply a) _ a refl ∙ places a)
      9
      (refuses plan a label)

  malformed_reply : Replies Malformed
  unfolding from_host_by first
  malformed_reply = refl

  foreign_reply : Replies Foreign
  unfolding from_host_by first
  foreign_reply = refl

  pub from_host_lem : (sent plan message a).answer.reply ≡ first (from_host_rows plan (from_host plan message) a)
  unfolding sent
  from_host_lem =
      row_unless a (from_host_by plan (from_host plan message) (length message) a) (later (from_host plan message))
      (host_kinds Replies malformed_reply foreign_reply offered_reply plan message)
      2
      plan.given
