-- A call or a question as C names it: the number of its kind, in the order of the formats' table, and its numbers.
use Rattle.std.specs.Prelude.{ℕ, ◌+◌, ◌*◌, min, Bool, cond, ◌&&◌, List, length, eqb, leb}
use Rattle.node.specs.declared.call.Event.{Event}
use Rattle.node.specs.declared.call.Event.TheVariants.{IntoService, Failure, Send, Acknowledgement, Received, FromHost, T1, T2, T3, T4, T6, T8, T10}
use Rattle.node.specs.declared.ask.Question.TheVariants.{RouteList}
use Rattle.text_pages.specs.Page.{Page, page, puts}
use Rattle.record_keeping.specs.Recorder.{Saying, calls, asks, line_of}

-- the event of a kind of events; a link above 255 is out of range as 255 is
abbrev pub event_of : ℕ → ℕ → ℕ → Event
event_of kind first second =
    let link = min first 255 in
    cond (eqb kind 0) (IntoService link)
    (cond (eqb kind 1) (Failure link)
    (cond (eqb kind 2) (Send link)
    (cond (eqb kind 3) (Acknowledgement link second)
    (cond (eqb kind 4) (Received link second)
    (cond (eqb kind 5) FromHost
    (cond (eqb kind 6) (T1 link)
    (cond (eqb kind 7) (T2 link)
    (cond (eqb kind 8) (T3 link)
    (cond (eqb kind 9) (T4 link)
    (cond (eqb kind 10) (T6 first)
    (cond (eqb kind 11) (T8 first)
    (T10 first second))))))))))))

-- the kinds of events, and behind them that of the question
abbrev pub saying_of : ℕ → ℕ → ℕ → List ℕ → Saying
saying_of kind first second message = cond (eqb kind 13) (asks RouteList) (calls (event_of kind first second) message)

-- a kind of the table, a message that a line can carry, and room for the line
abbrev pub keeps : ℕ → ℕ → ℕ → Bool
keeps room kind octets = leb kind 13 && (leb octets 1024 && leb (18 + 2 * octets) room)

-- the line at the start of an area; with another kind, a longer message or too little room nothing
abbrev pub kept : List ℕ → ℕ → ℕ → ℕ → List ℕ → Page
kept out kind first second message =
    cond (keeps (length out) kind (length message)) (puts (page out 0) (line_of (saying_of kind first second message))) (page out 0)
