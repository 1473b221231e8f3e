-- A shift run again: "The reports must be those of the same calls made one at a time, and a line that can't be read stops the replay
-- there, with the state of the lines before it." (R226, R227)
use Rattle.std.specs.Prelude.{ℕ, ◌+◌, ◌-◌, ◌%◌, ◌^◌, Bool, true, false, cond, ◌&&◌, List, [], ◌∷◌, ◌++◌, length, take, drop, replicate, ◌==◌, nat_le}
use Rattle.std.proofs.Math.Seq.{slice}
use Rattle.plan.specs.declared.data.Plan.{Plan}
use Rattle.plan_configuration.specs.Configure.{configured}
use Rattle.node.specs.declared.ask.Question.{Question}
use Rattle.replies.specs.Areas.{areas}
use Rattle.start.specs.Start.{fresh_links, fresh_marks, fresh_spans, fresh_rings, fresh_arrivals}
use Rattle.node.specs.Memory.{Memory, memory}
use Rattle.node.specs.Call.{call_of}
use Rattle.node.specs.Ask.{ask_of}
use Rattle.text.specs.Part.{split, is_empty, lf}
use Rattle.record_reading.specs.declared.Line.{Line}
use Rattle.record_reading.specs.declared.Reading.{Reading}
use Rattle.record_reading.specs.declared.Reading.TheVariants.{Call, Asks, Unreadable}
use Rattle.record_reading.specs.Record.{read_line, message_after}
use Rattle.text_pages.specs.Page.{joined}
use Rattle.replay_refusals.specs.Refused.{unreadable, refused_by}
use Rattle.replay_answers.specs.Answers.{shows_for}
use Rattle.replay_shift.specs.declared.run.Place.{Place}
use Rattle.replay_answers.specs.declared.view.View.{View}
use Rattle.replay_answers.specs.Shown.{shown}
use Rattle.replay_calls.specs.Called.{called_lines}

-- "counted from 1" (docs/FORMATS.md): the number of the line after, of 64 bits
abbrev pub onward : ℕ → ℕ
onward number = (number + 1) % 2 ^ 64

-- where a run stands: the node, the area of messages, the text written and not written out, the place of the next line in the record and
-- its number, and whether every line so far could be read
pub record Desk : Type 0 where
  pub memory : Memory
  pub message : List ℕ
  pub text : List ℕ
  pub at : ℕ
  pub number : ℕ
  pub readable : Bool

abbrev pub desk : Memory → List ℕ → List ℕ → ℕ → ℕ → Bool → Desk
desk memory message text at number readable =
    record { memory = memory; message = message; text = text; at = at; number = number; readable = readable }

-- "the same calls made one at a time" (R226): a line's call is made, and what it answers is written
abbrev pub called_on : Plan → View → Line → List ℕ → ℕ → Desk → Desk
called_on plan view said area next d =
    let message = slice 0 said.octets area in
    let made = call_of plan said.event message d.memory in
    let lines = called_lines plan view d.number said.event message d.memory in
    desk made.after area (d.text ++ joined lines) next (onward d.number) true

-- a line's question is answered, on a node that stays as it was
abbrev pub asked : Plan → View → Question → List ℕ → ℕ → Desk → Desk
asked plan view question area next d =
    let told = ask_of plan question d.memory in
    let lines = shown view d.number (shows_for question) told.answer [] told.after.out [] told.after.areas.reports in
    desk told.after area (d.text ++ joined lines) next (onward d.number) true

-- "Refusals: 30 with the line number, before any node check" (R228, R229): nothing else changes
abbrev pub refused : List ℕ → ℕ → Desk → Desk
refused area next d = desk d.memory area (d.text ++ joined (unreadable d.number)) next d.number false

abbrev pub run_by : Reading → Plan → View → List ℕ → ℕ → Desk → Desk
run_by (Call said) plan view area next d = called_on plan view said area next d
run_by (Asks question) plan view area next d = asked plan view question area next d
run_by Unreadable plan view area next d = refused area next d

-- one line, behind which the record goes on at a place
abbrev pub ran_line : Plan → View → List ℕ → ℕ → Desk → Desk
ran_line plan view line next d = run_by (read_line d.message line) plan view (message_after d.message line) next d

-- a run goes on until a line can't be read, or a page of text is to be written out
abbrev pub goes_on : Desk → Bool
goes_on d = d.readable && nat_le (length d.text) 65536

-- the lines of a text that LF ends, in order
unfoldable pub ran_lines : Plan → View → List (List ℕ) → Desk → Desk
ran_lines plan view [] d = d
ran_lines plan view (last ∷ []) d = d
ran_lines plan view (line ∷ next ∷ more) d =
    cond (goes_on d) (ran_lines plan view (next ∷ more) (ran_line plan view line (d.at + length line + 1) d)) d

-- the areas that a run needs: for the longest field of octets, for a route list, for 512 records, and a page with room behind its fill for
-- the longest answer
abbrev pub sized : Desk → List ℕ → Bool
sized d out =
    (length d.message == 1024) && (length d.memory.out == 4096 && (length d.memory.areas.reports == 1024 && length out == 262144))

abbrev pub ran_all : Plan → View → List (List ℕ) → List ℕ → Desk → Desk
ran_all plan view lines out d = cond (sized d out) (ran_lines plan view lines d) d

-- the lines of a text from a place on
abbrev pub lines_from : List ℕ → ℕ → List (List ℕ)
lines_from text at = split lf (slice at (length text) text)

-- a desk by a place, and what stands on the page up to it
abbrev pub desk_at : Memory → List ℕ → List ℕ → Place → Desk
desk_at memory message out place =
    desk memory message (take place.pending out) place.at place.number place.readable

-- all lines of a lent text from a place on, run on a memory, with the message area and the page as they are lent
abbrev pub ran_from : Plan → View → List ℕ → Place → Memory → List ℕ → List ℕ → Desk
ran_from plan view text from m message out =
    ran_all plan view (lines_from text from.at) out
    (desk_at m message out from)

-- the place of a desk that began at another
abbrev pub place_at : Place → List ℕ → Desk → Place
place_at from out d =
    record { at = d.at; number = d.number; pending = from.pending + (length d.text - length (take from.pending out)); readable = d.readable }

-- the page with a desk's text at its start, and what stood behind it
abbrev pub page_with : Desk → List ℕ → List ℕ
page_with d out = d.text ++ drop (length d.text) out

-- a whole record: the answers of its lines, in order; what stands behind its last LF can't be read
unfoldable pub answers_of : Plan → View → Memory → List ℕ → ℕ → List (List ℕ) → List ℕ
answers_of plan view memory message number [] = []
answers_of plan view memory message number (last ∷ []) = cond (is_empty last) [] (joined (unreadable number))
answers_of plan view memory message number (line ∷ next ∷ more) =
    let d = ran_line plan view line 0 (desk memory message [] 0 number true) in
    d.text ++ cond d.readable (answers_of plan view d.memory d.message d.number (next ∷ more)) []

-- what is still to be written at a desk, of the lines that are left: nothing behind one that can't be read
abbrev pub to_write : Plan → View → Desk → List (List ℕ) → List ℕ
to_write plan view d lines = cond d.readable (answers_of plan view d.memory d.message d.number lines) []

-- a fresh node, and a desk before the first line of a record
abbrev pub fresh_memory : Memory
fresh_memory =
    memory
    (areas (fresh_links (replicate 256 0)) (fresh_marks (replicate 512 0)) (fresh_spans (replicate 70 0)) (fresh_rings (replicate 8960 0)) (replicate 2048 0) (fresh_arrivals (replicate 1 0)) (replicate 1024 0))
    (replicate 52416 0)
    (replicate 4096 0)

abbrev pub first_desk : Desk
first_desk = desk fresh_memory (replicate 1024 0) [] 0 1 true

-- "reads such a record after a configuration and replays it" (R224): what the run writes, on the node that the configuration makes
abbrev pub replay_of : View → List ℕ → List ℕ → List ℕ
replay_of view configuration text =
    let made = configured configuration in
    cond (made.fault == 0) (to_write made.plan view first_desk (split lf text)) (joined (refused_by made.line made.fault))
