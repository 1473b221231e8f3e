-- The loop over the lines: what is left to run leads where the whole run leads, and the page holds the text. Assumes nothing.
use Rattle.std.proofs.Common.{◌≡◌, ℕ, ◌+◌, ◌-◌, ◌<◌, ◌≤◌, Bool, true, false, ◌&&◌, eqb, leb, List, [], ◌++◌, length, take, drop, sym, refl, ap, ◌∙◌, ap₂, append-nil, arith, length-append, take-append-drop, length-take, length-take-le, take_all, drop-drop, eqb-true, leb-false, leb-true}
use mathlib.Core.Bool.{false≢true}
use lib.Seq.{slice, drop-length}
use borrow.Author.Tests.{lt-leb}
use borrow.Table.Steps.{cases}
use Rattle.plan.specs.declared.data.Plan.{Plan}
use Rattle.node.specs.Memory.{Memory}
use Rattle.record_reading.specs.declared.Reading.{Reading}
use Rattle.record_reading.specs.declared.Reading.TheVariants.{Call, Asks, Unreadable}
use Rattle.record_reading.specs.Record.{read_line, message_after}
use Rattle.text.specs.declared.part.Part.{Part}
use Rattle.text.specs.Part.{line_at}
use Rattle.replay_shift.specs.declared.run.Place.{Place}
use Rattle.replay_answers.specs.declared.view.View.{View}
use Rattle.replay_shift.specs.Shift.{Desk, desk_at, place_at, page_with, ran_lines, ran_line, run_by, goes_on, lines_from}
use Rattle.replay_shift.proofs.Lines.{goes, stops_open, stops_desk}

pub first_of : (a b : Bool) → (a && b) ≡ true → a ≡ true
first_of true b e = refl
first_of false b e = e

second_of : (a b : Bool) → (a && b) ≡ true → b ≡ true
second_of true b e = e
second_of false b e = absurd (false≢true e)

never : (a : Bool) → (a && false) ≡ false
never true = refl
never false = refl

-- the areas that a run needs
pub record Sizes (message sent reports out : ℕ) : Type 0 where
  pub message_is : message ≡ 1024
  pub sent_is : sent ≡ 4096
  pub reports_is : reports ≡ 1024
  pub out_is : out ≡ 262144

pub sizes_of : (message sent reports out : ℕ) → (eqb message 1024 && (eqb sent 4096 && (eqb reports 1024 && eqb out 262144))) ≡ true
    → Sizes message sent reports out
sizes_of message sent reports out e =
    let e₂ = second_of (eqb message 1024) _ e in
    let e₃ = second_of (eqb sent 4096) _ e₂ in
    record {
      message_is = eqb-true _ _ (first_of (eqb message 1024) _ e);
      sent_is = eqb-true _ _ (first_of (eqb sent 4096) _ e₂);
      reports_is = eqb-true _ _ (first_of (eqb reports 1024) _ e₃);
      out_is = eqb-true _ _ (second_of (eqb reports 1024) _ e₃);
    }

-- a run that goes on has a line, and room for its answer
pub line_of : (closed readable : Bool) (pending : ℕ) → (closed && (readable && leb pending 65536)) ≡ true → closed ≡ true
line_of closed readable pending e = first_of closed _ e

pub room_of : (closed readable : Bool) (pending : ℕ) → (closed && (readable && leb pending 65536)) ≡ true → pending ≤ 65536
room_of closed readable pending e = leb-true _ _ (second_of readable _ (second_of closed _ e))

-- behind a line the record goes on where it is said to
pub by_next : (reading : Reading) (plan : Plan) (view : View) (area : List ℕ) (next : ℕ) (d : Desk) → (run_by reading plan view area next d).at ≡ next
by_next (Call said) plan view area next d = refl
by_next (Asks question) plan view area next d = refl
by_next Unreadable plan view area next d = refl

-- so that a line run leads to the next
pub next_at : (plan : Plan) (view : View) (line : List ℕ) (next : ℕ) (d : Desk) (m : Memory) (message out : List ℕ) (place : Place)
    → desk_at m message out place ≡ ran_line plan view line next d → place.at ≡ next
next_at plan view line next d m message out place left =
    ap (λ (e : Desk). e.at) left ∙ by_next (read_line d.message line) plan view (message_after d.message line) next d

-- and the text has grown
by_grown : (reading : Reading) (plan : Plan) (view : View) (area : List ℕ) (next : ℕ) (d : Desk)
    → length d.text ≤ length (run_by reading plan view area next d).text
by_grown (Call said) plan view area next d = simp length-append (omega arith)
by_grown (Asks question) plan view area next d = simp length-append (omega arith)
by_grown Unreadable plan view area next d = simp length-append (omega arith)

-- where a page keeps what stands behind a place, it is the text up to there and what stood behind it
page_is : (out before : List ℕ) (p : ℕ) → length out ≡ length before → drop p out ≡ drop p before
    → out ≡ take p out ++ drop (length (take p out)) before
page_is out before p long kept =
    cases (leb p (length out))
    (λ e.
    let short : length (take p out) ≡ p = length-take-le p out (leb-true _ _ e) in
    sym (take-append-drop p out) ∙ ap (λ (s : List ℕ). take p out ++ s) (kept ∙ ap (λ (n : ℕ). drop n before) (sym short)))
    (λ e.
    let past : length out < p = leb-false _ _ e in
    let all : take p out ≡ out = take_all p out (omega arith) in
    let none : drop (length (take p out)) before ≡ [] =
    ap (λ (s : List ℕ). drop (length s) before) all ∙ ap (λ (n : ℕ). drop n before) long ∙ drop-length before
    in
    sym (ap₂ (λ (s t : List ℕ). s ++ t) all none ∙ append-nil out))

-- a place further on keeps what one before it keeps
kept_on : (out before : List ℕ) (p q : ℕ) → p ≤ q → drop p out ≡ drop p before → drop q out ≡ drop q before
kept_on out before p q h kept =
    let way : p + (q - p) ≡ q = omega arith in
    ap (λ (n : ℕ). drop n out) (sym way)
    ∙ sym (drop-drop (q - p) p out)
    ∙ ap (drop (q - p)) kept
    ∙ drop-drop (q - p) p before
    ∙ ap (λ (n : ℕ). drop n before) way

module _ (plan : Plan) (view : View) (text : List ℕ) (from : Place) (m₀ : Memory) (message₀ out₀ : List ℕ) where
  -- where a run stands that began at a place
  pub record Going (m : Memory) (message out : List ℕ) (place : Place) : Type 0 where
    pub same : ran_lines plan view (lines_from text place.at) (desk_at m message out place) ≡ ran_lines plan view (lines_from text from.at) (desk_at m₀ message₀ out₀ from)
    pub pending_is : place.pending ≡ from.pending + (length (take place.pending out) - length (take from.pending out₀))
    pub rest_is : drop place.pending out ≡ drop place.pending out₀

  pub begins : Going m₀ message₀ out₀ from
  begins = record { same = refl; pending_is = omega arith; rest_is = refl }

  module _ (page-long : length out₀ ≡ 262144) (m : Memory) (message out : List ℕ) (place : Place) (long : length out ≡ length out₀) (going : Going m message out place)
      (part : Part) (here : part ≡ line_at text place.at) where
    abbrev d : Desk
    d = desk_at m message out place

    abbrev test : Bool
    test = part.closed && (place.readable && leb place.pending 65536)

    -- one line more
    module _ (on : test ≡ true) (m' : Memory) (message' out' : List ℕ) (place' : Place) (long' : length out' ≡ length out₀)
        (left : desk_at m' message' out' place' ≡ ran_line plan view (slice place.at part.end text) part.next d)
        (within : place'.pending ≤ 262144) (kept : drop place'.pending out' ≡ drop place'.pending out) where
      closed_is : part.closed ≡ true
      closed_is = line_of part.closed place.readable place.pending on

      some_room : place.pending ≤ 65536
      some_room = room_of part.closed place.readable place.pending on

      goes_is : goes_on d ≡ true
      goes_is =
          let short : length (take place.pending out) ≡ place.pending = length-take-le place.pending out (omega (arith, some_room, long, page-long)) in
          ap (λ (n : ℕ). place.readable && leb n 65536) short ∙ second_of part.closed _ on

      pub goes_further : Going m' message' out' place'
      goes_further =
          let line = slice place.at part.end text in
          let reading = read_line message line in
          let at_next = next_at plan view line part.next d m' message' out' place' left in
          let grown : length (take place.pending out) ≤ length (take place'.pending out') =
          omega (arith, by_grown reading plan view (message_after message line) part.next d, ap (λ (e : Desk). length e.text) left)
          in
          let short : length (take place.pending out) ≡ place.pending = length-take-le place.pending out (omega (arith, some_room, long, page-long)) in
          let short' : length (take place'.pending out') ≡ place'.pending = length-take-le place'.pending out' (omega (arith, within, long', page-long)) in
          record {
            same =
                ap₂ (λ (n : ℕ) (e : Desk). ran_lines plan view (lines_from text n) e) at_next left
                ∙ sym (goes text place.at part here plan view d refl closed_is goes_is)
                ∙ going.same;
            pending_is = omega (arith, going.pending_is, grown, short, short', some_room, length-take from.pending out₀, page-long);
            rest_is = kept ∙ kept_on out out₀ place.pending place'.pending (omega (arith, grown, short, short')) going.rest_is;
          }

    -- with a line to run, it is the desk that stops
    still : part.closed ≡ true → test ≡ false → goes_on d ≡ false
    still e off =
        let not_on : (place.readable && leb place.pending 65536) ≡ false = sym (ap (λ (t : Bool). t && (place.readable && leb place.pending 65536)) e) ∙ off in
        cases (leb place.pending 262144)
        (λ h.
        let short : length (take place.pending out) ≡ place.pending = length-take-le place.pending out (omega (arith, leb-true place.pending 262144 h, long, page-long)) in
        ap (λ (n : ℕ). place.readable && leb n 65536) short ∙ not_on)
        (λ h.
        let full : leb (length (take place.pending out)) 65536 ≡ false =
        lt-leb (length (take place.pending out)) 65536 (omega (arith, leb-false place.pending 262144 h, length-take place.pending out, long, page-long))
        in
        ap (λ (t : Bool). place.readable && t) full ∙ never place.readable)

    -- no line more
    pub stops : test ≡ false → desk_at m message out place ≡ ran_lines plan view (lines_from text from.at) (desk_at m₀ message₀ out₀ from)
    stops off =
        let rest = ran_lines plan view (lines_from text place.at) d in
        let ends : rest ≡ d =
        cases part.closed
        (λ e. stops_desk text place.at part here plan view d (lines_from text place.at) (still e off))
        (λ e. stops_open text place.at part here plan view d e)
        in
        sym ends ∙ going.same

  -- where a run ends
  module _ (m : Memory) (message out : List ℕ) (place : Place) (expected : Desk) (is : desk_at m message out place ≡ expected)
      (pending_is : place.pending ≡ from.pending + (length (take place.pending out) - length (take from.pending out₀)))
      (rest_is : drop place.pending out ≡ drop place.pending out₀) (long : length out ≡ length out₀) where
    pub ended : (place ≡ place_at from out₀ expected) × ((out ≡ page_with expected out₀) × ((m ≡ expected.memory) × (message ≡ expected.message)))
    ended =
        let there : place ≡ place_at from out₀ (desk_at m message out place) =
        λ i. record { at = place.at; number = place.number; pending = pending_is i; readable = place.readable }
        in
        let page = page_is out out₀ place.pending long rest_is in (
          there ∙ ap (place_at from out₀) is,
          (page ∙ ap (λ (e : Desk). page_with e out₀) is, (ap (λ (e : Desk). e.memory) is, ap (λ (e : Desk). e.message) is)),
        )
