-- What is written reads back: the line of a call says that call and its octets, that of a question that question, and each ends at its LF.
-- Assumes nothing.
use mathlib.Core.Path.{◌≡◌, refl, ap, ap₂, ◌∙◌}
use mathlib.Core.Bool.{true}
use mathlib.Core.List.{List, [], ◌∷◌, ◌++◌, map, append_assoc}
use Prim.Native.Nat.{ℕ, ◌≤◌, ◌<◌}
use native.Mathlib.Omega.{arith}
use lib.Dec.{lit<}
use lib.ListN.{length, drop, get_or}
use lib.Seq.{slice, take_at}
use borrow.Author.Tests.{le-leb}
use Rattle.std.specs.Prelude.{Option, Some}
use Rattle.text.specs.Part.{lf, tab, split, same_text}
use Rattle.text_decimals.specs.Decimal.{decimal_of}
use Rattle.text_decimals.proofs.Decimals.{decimal_read_back}
use Rattle.text_hex.specs.Hex.{hex_of, count_of, filled}
use Rattle.text_hex.proofs.Octets.{hex_read_back}
use Rattle.text_fields.specs.Fields.{number}
use Rattle.record_kinds.specs.declared.Kind.{Kind}
use Rattle.record_kinds.specs.declared.Kind.TheVariants as Kind·
use Rattle.record_words.specs.KindWords.{timer_of}
use Rattle.record_entry.specs.Entry.{says_by, kept_with, kind_in, read_as, kept_as}
use Rattle.record_reading.specs.declared.Reading.{Reading}
use Rattle.record_reading.specs.declared.Reading.TheVariants.{Asks}
use Rattle.record_reading.specs.Record.{says, octet, code, call_of, call_by, read_line, message_after}
use Rattle.node.specs.declared.call.Event.{Event}
use Rattle.node.specs.declared.call.Event.TheVariants.{IntoService, Failure, Send, Acknowledgement, Received, FromHost, T1, T2, T3, T4, T6, T8, T10}
use Rattle.node.specs.View.{view_of}
use Rattle.node.specs.declared.ask.Question.{Question}
use Rattle.node.specs.declared.ask.Question.TheVariants.{RouteList}
use Rattle.text_pages.specs.Page.{ended, joined}
use Rattle.record_keeping.specs.Recorder.{fields_of_call, fields_of_question, Saying, calls, asks, fields_of, line_of, text_of, carried, octets_of, reading_of, Fits, FitsIn, record_of}
use Rattle.record_keeping.proofs.Fields.{all_free_lem, spelled, all_spelled, all_free, decimal_spelled, hex_spelled, fields_apart, line_free, line_joined, split_on}

-- a number of 16 bits that is written is read back
number_back : (n : ℕ) → n < 65536 → number (decimal_of n) ≡ Some n
number_back n h = decimal_read_back n 18446744073709551615 (omega arith) (omega arith)

-- a number in its range stays as it is
octet_is : (n : ℕ) → n < 256 → octet n ≡ n
octet_is n h = omega arith

code_is : (n : ℕ) → n < 65536 → code n ≡ n
code_is n h = omega arith

-- octets that are written are read back into an area that has room for them
octets_back :
    (area octets : List ℕ) → ((i : ℕ) → get_or octets i 0 < 256) → length octets ≤ length area →
    (count_of (hex_of octets) area ≡ Some (length octets)) × (filled (hex_of octets) area ≡ octets ++ drop (length octets) area)
octets_back area octets small room =
    let back = hex_read_back octets small in
    let fits = le-leb (length octets) (length area) room in
    (simp (back.0, back.1, fits), simp (back.0, back.1, fits))

-- what some fields say, and what they leave in the area
abbrev Say : List ℕ → List (List ℕ) → Reading → List ℕ → Type 0
Say area fields reading octets =
    (call_by (read_as (kind_in fields) area fields) ≡ reading) ×
    (kept_as (kind_in fields) area fields ≡ octets ++ drop (length octets) area)

-- numbers and octets that can be read make the call of the kind
made :
    (area : List ℕ) (kind : Kind) {first second count : ℕ} {a b c : Option ℕ} {after kept : List ℕ} {reading : Reading} →
    a ≡ Some first → b ≡ Some second → (c ≡ Some count) × (after ≡ kept) →
    call_of kind (octet first) (octet second) (code first) count ≡ reading →
    (call_by (says_by kind a b c) ≡ reading) × (kept_with a b after area ≡ kept)
made area kind e₁ e₂ e₃ same =
    ((λ i. call_by (says_by kind (e₁ i) (e₂ i) (e₃.0 i))) ∙ same, (λ i. kept_with (e₁ i) (e₂ i) (e₃.1 i) area))

-- the fields of a call say that call
by_fields :
    (area : List ℕ) (event : Event) (message : List ℕ) →
    Fits event → ((i : ℕ) → get_or (carried (view_of event) message) i 0 < 256) → length (carried (view_of event) message) ≤ length area →
    Say area (fields_of_call event message) (says event (length (carried (view_of event) message))) (carried (view_of event) message)
unfolding same_text timer_of hex_of
by_fields area (IntoService link) message fits small room =
    made area Kind·.Service (number_back link (omega arith)) refl (octets_back area [] small room) (ap (λ (n : ℕ). says (IntoService n) 0) (octet_is link fits))
by_fields area (Failure link) message fits small room =
    made area Kind·.Failure (number_back link (omega arith)) refl (octets_back area [] small room) (ap (λ (n : ℕ). says (Failure n) 0) (octet_is link fits))
by_fields area (Send link) message fits small room =
    made area Kind·.Send (number_back link (omega arith)) refl (octets_back area [] small room) (ap (λ (n : ℕ). says (Send n) 0) (octet_is link fits))
by_fields area (Acknowledgement link b) message fits small room =
    made area Kind·.Acknowledged (number_back link (omega arith)) (number_back b (omega arith)) (octets_back area [] small room)
    (ap₂ (λ (n m : ℕ). says (Acknowledgement n m) 0) (octet_is link fits.0) (octet_is b fits.1))
by_fields area (Received link fsn) message fits small room =
    made area Kind·.Received (number_back link (omega arith)) (number_back fsn (omega arith)) (octets_back area message small room)
    (ap₂ (λ (n m : ℕ). says (Received n m) (length message)) (octet_is link fits.0) (octet_is fsn fits.1))
by_fields area FromHost message fits small room =
    made area Kind·.Host {first = 0} {second = 0} refl refl (octets_back area message small room) refl
by_fields area (T1 link) message fits small room =
    made area Kind·.T1 (number_back link (omega arith)) refl (octets_back area [] small room) (ap (λ (n : ℕ). says (T1 n) 0) (octet_is link fits))
by_fields area (T2 link) message fits small room =
    made area Kind·.T2 (number_back link (omega arith)) refl (octets_back area [] small room) (ap (λ (n : ℕ). says (T2 n) 0) (octet_is link fits))
by_fields area (T3 link) message fits small room =
    made area Kind·.T3 (number_back link (omega arith)) refl (octets_back area [] small room) (ap (λ (n : ℕ). says (T3 n) 0) (octet_is link fits))
by_fields area (T4 link) message fits small room =
    made area Kind·.T4 (number_back link (omega arith)) refl (octets_back area [] small room) (ap (λ (n : ℕ). says (T4 n) 0) (octet_is link fits))
by_fields area (T6 destination) message fits small room =
    made area Kind·.T6 (number_back destination (omega arith)) refl (octets_back area [] small room) (ap (λ (n : ℕ). says (T6 n) 0) (code_is destination fits))
by_fields area (T8 destination) message fits small room =
    made area Kind·.T8 (number_back destination (omega arith)) refl (octets_back area [] small room) (ap (λ (n : ℕ). says (T8 n) 0) (code_is destination fits))
by_fields area (T10 destination set) message fits small room =
    made area Kind·.T10 (number_back destination (omega arith)) (number_back set (omega arith)) (octets_back area [] small room)
    (ap₂ (λ (n m : ℕ). says (T10 n m) 0) (code_is destination fits.0) (octet_is set fits.1))

-- those of a question say that question
by_question : (area : List ℕ) (question : Question) → Say area (fields_of_question question) (Asks question) []
unfolding same_text timer_of hex_of
by_question area RouteList =
    made area Kind·.Routes {first = 0} {second = 0} refl refl (octets_back area [] (λ i. omega arith) (omega arith)) refl

-- whichever it is
by_saying :
    (area : List ℕ) (saying : Saying) →
    FitsIn saying → ((i : ℕ) → get_or (octets_of saying) i 0 < 256) → length (octets_of saying) ≤ length area →
    Say area (fields_of saying) (reading_of saying) (octets_of saying)
by_saying area (calls event message) fits small room = by_fields area event message fits small room
by_saying area (asks question) fits small room = by_question area question

-- they are one or more, each a word, a decimal or octets in hex
call_spelled :
    (event : Event) (message : List ℕ) →
    (0 < length (fields_of_call event message)) × (all_spelled (fields_of_call event message) ≡ true)
unfolding all_spelled spelled
call_spelled (IntoService link) message = (lit< tt, simp decimal_spelled)
call_spelled (Failure link) message = (lit< tt, simp decimal_spelled)
call_spelled (Send link) message = (lit< tt, simp decimal_spelled)
call_spelled (Acknowledgement link b) message = (lit< tt, simp decimal_spelled)
call_spelled (Received link fsn) message = (lit< tt, simp (decimal_spelled, hex_spelled))
call_spelled FromHost message = (lit< tt, simp hex_spelled)
call_spelled (T1 link) message = (lit< tt, simp decimal_spelled)
call_spelled (T2 link) message = (lit< tt, simp decimal_spelled)
call_spelled (T3 link) message = (lit< tt, simp decimal_spelled)
call_spelled (T4 link) message = (lit< tt, simp decimal_spelled)
call_spelled (T6 destination) message = (lit< tt, simp decimal_spelled)
call_spelled (T8 destination) message = (lit< tt, simp decimal_spelled)
call_spelled (T10 destination set) message = (lit< tt, simp decimal_spelled)

said_spelled : (saying : Saying) → (0 < length (fields_of saying)) × (all_spelled (fields_of saying) ≡ true)
unfolding all_spelled spelled
said_spelled (calls event message) = call_spelled event message
said_spelled (asks RouteList) = (lit< tt, refl)

-- what a line that is written comes to
pub record ReadBack (area : List ℕ) (saying : Saying) : Type 0 where
  pub ends : joined (line_of saying) ≡ text_of saying ++ ended
  pub apart : (behind : List ℕ) → split lf (joined (line_of saying) ++ behind) ≡ text_of saying ∷ split lf behind
  pub reads : read_line area (text_of saying) ≡ reading_of saying
  pub keeps : message_after area (text_of saying) ≡ octets_of saying ++ drop (length (octets_of saying)) area
  pub carries : slice 0 (length (octets_of saying)) (message_after area (text_of saying)) ≡ octets_of saying

module _ (saying : Saying) where
  no_mark : (mark : ℕ) → mark < 48 → all_free_lem mark (fields_of saying) ≡ true
  no_mark mark low = all_free mark (fields_of saying) low (said_spelled saying).1

  -- the line falls apart into its fields
  fields_back : split tab (text_of saying) ≡ fields_of saying
  fields_back = fields_apart (fields_of saying) (said_spelled saying).0 (no_mark tab (omega arith))

  -- it is the octets up to its LF
  line_ends : joined (line_of saying) ≡ text_of saying ++ ended
  line_ends = line_joined (fields_of saying)

  -- which is the first that stands in it
  pub line_apart : (behind : List ℕ) → split lf (joined (line_of saying) ++ behind) ≡ text_of saying ∷ split lf behind
  line_apart behind =
      ap (λ (l : List ℕ). split lf (l ++ behind)) line_ends
      ∙ ap (split lf) (append_assoc (text_of saying) ended behind)
      ∙ split_on lf (text_of saying) behind (line_free lf (fields_of saying) refl (no_mark lf (omega arith)))

-- what is written reads back as the same call, with the octets that it carries, or as the same question
pub reads_back :
    (area : List ℕ) (saying : Saying) →
    FitsIn saying → ((i : ℕ) → get_or (octets_of saying) i 0 < 256) → length (octets_of saying) ≤ length area →
    ReadBack area saying
reads_back area saying fits small room =
    let said = by_saying area saying fits small room in
    let back = fields_back saying in
    let kept = ap (λ (fields : List (List ℕ)). kept_as (kind_in fields) area fields) back ∙ said.1 in
    let octets = octets_of saying in
    record {
      ends = line_ends saying;
      apart = line_apart saying;
      reads = ap (λ (fields : List (List ℕ)). call_by (read_as (kind_in fields) area fields)) back ∙ said.0;
      keeps = kept;
      carries = ap (slice 0 (length octets)) kept ∙ take_at octets (drop (length octets) area) (length octets) refl;
    }

-- a record falls apart into its lines, and nothing stands behind the last
pub record_apart : (sayings : List Saying) → split lf (record_of sayings) ≡ map text_of sayings ++ ([] ∷ [])
unfolding record_of split
record_apart [] = refl
record_apart (saying ∷ more) =
    line_apart saying (record_of more) ∙ ap (λ (lines : List (List ℕ)). text_of saying ∷ lines) (record_apart more)
