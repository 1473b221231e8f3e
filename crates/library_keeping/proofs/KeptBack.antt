-- A call or a question that C keeps stands whole in its area and reads back as itself: whatever its numbers, they fit. Assumes nothing.
use mathlib.Core.Path.{◌≡◌, sym, ap, ap₂, ◌∙◌}
use mathlib.Core.Bool.{Bool, true, false, cond, ◌&&◌, false≢true}
use mathlib.Core.List.{List}
use Prim.Native.Nat.{ℕ, ◌+◌, ◌*◌, ◌≤◌, ◌<◌, min}
use native.Mathlib.Nat.{zero-add}
use native.Mathlib.Omega.{arith}
use lib.Dec.{eqb, leb}
use lib.ListN.{length, get_or}
use lib.Seq.{slice}
use borrow.Author.Tests.{leb-true}
use Rattle.node.specs.declared.call.Event.{Event}
use Rattle.node.specs.declared.call.Event.TheVariants.{IntoService, Failure, Send, Acknowledgement, Received, FromHost, T1, T2, T3, T4, T6, T8, T10}
use Rattle.node.specs.View.{View, Comes, Fails, Sends, Acknowledges, Arrives, HandedOver, Overdue, Expires, view_of}
use Rattle.node.specs.declared.ask.Question.TheVariants.{RouteList}
use Rattle.text_pages.specs.Page.{Page, page, puts}
use Rattle.record_keeping.specs.Recorder.{calls, asks, line_of, text_of, carried, octets_of, Fits, FitsIn}
use Rattle.library_keeping.specs.Kept.{event_of, saying_of, keeps, kept}
use Rattle.record_keeping.proofs.ReadsBack.{ReadBack, reads_back}
use Rattle.record_keeping.proofs.Room.{line_stands}

second_of : (a b : Bool) → (a && b) ≡ true → b ≡ true
second_of true b e = e
second_of false b e = absurd (false≢true e)

either : (t : Bool) (one other : Event) → Fits one → Fits other → Fits (cond t one other)
either true one other fits else = fits
either false one other fits else = else

module _ (kind first second : ℕ) (code : first < 65536) (small : second < 256) where
  event_fits : Fits (event_of kind first second)
  event_fits =
      let n = min first 255 in
      let link : n < 256 = omega arith in
      either (eqb kind 0) (IntoService n) _ link
      (either (eqb kind 1) (Failure n) _ link
      (either (eqb kind 2) (Send n) _ link
      (either (eqb kind 3) (Acknowledgement n second) _ (link, small)
      (either (eqb kind 4) (Received n second) _ (link, small)
      (either (eqb kind 5) FromHost _ tt
      (either (eqb kind 6) (T1 n) _ link
      (either (eqb kind 7) (T2 n) _ link
      (either (eqb kind 8) (T3 n) _ link
      (either (eqb kind 9) (T4 n) _ link
      (either (eqb kind 10) (T6 first) _ code
      (either (eqb kind 11) (T8 first) (T10 first second) code (code, small))))))))))))

  asked_fits : (t : Bool) (event : Event) (message : List ℕ) → Fits event → FitsIn (cond t (asks RouteList) (calls event message))
  asked_fits true event message fits = tt
  asked_fits false event message fits = fits

  saying_fits : (message : List ℕ) → FitsIn (saying_of kind first second message)
  saying_fits message = asked_fits (eqb kind 13) (event_of kind first second) message event_fits

  pub kept_reads_back : (area message : List ℕ) → ((i : ℕ) → get_or (octets_of (saying_of kind first second message)) i 0 < 256)
      → length (octets_of (saying_of kind first second message)) ≤ length area → ReadBack area (saying_of kind first second message)
  kept_reads_back area message octets room =
      reads_back area (saying_of kind first second message) (saying_fits message) octets room

  -- a kind that carries no octets carries none of the message's
  short : (message : List ℕ) (view : View) → length (carried view message) ≤ length message
  short message (Arrives link fsn) = omega arith
  short message HandedOver = omega arith
  short message (Comes link) = omega arith
  short message (Fails link) = omega arith
  short message (Sends link) = omega arith
  short message (Acknowledges link b) = omega arith
  short message (Overdue link timer) = omega arith
  short message Expires = omega arith

  asked_short : (t : Bool) (event : Event) (message : List ℕ) → length (octets_of (cond t (asks RouteList) (calls event message))) ≤ length message
  asked_short true event message = omega arith
  asked_short false event message = short message (view_of event)

  -- what is kept is the whole line, LF and all, and its length is what is said
  pub kept_stands : (out message : List ℕ) → keeps (length out) kind (length message) ≡ true →
      let text = text_of (saying_of kind first second message) in
      ((kept out kind first second message).at ≡ length text + 1) × (slice 0 (length text) (kept out kind first second message).area ≡ text)
  kept_stands out message e =
      let saying = saying_of kind first second message in
      let room : 18 + 2 * length message ≤ length out = leb-true (18 + 2 * length message) (length out) (second_of (leb (length message) 1024) _ (second_of (leb kind 13) _ e)) in
      let line = puts (page out 0) (line_of saying) in
      let is : kept out kind first second message ≡ line = ap (λ (t : Bool). cond t line (page out 0)) e in
      let stands = line_stands out 0 saying (saying_fits message) (omega (arith, asked_short (eqb kind 13) (event_of kind first second) message, room)) in (
        ap (λ (p : Page). p.at) is ∙ stands.0 ∙ omega arith,
        ap₂ (λ (p : Page) (n : ℕ). slice 0 n p.area) is (sym (zero-add (length (text_of saying)))) ∙ stands.1,
      )
