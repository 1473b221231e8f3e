-- What is written of a call: what is shown of its answer, and what became of messages (docs/FORMATS.md).
use Rattle.std.specs.Prelude.{ℕ, cond, List, []}
use Rattle.plan.specs.declared.data.Plan.{Plan}
use Rattle.node.specs.declared.call.Event.{Event}
use Rattle.node.specs.Memory.{Memory, Result}
use Rattle.node.specs.Call.{call_of}
use Rattle.node.specs.View.{view_of}
use Rattle.queue_joining.specs.Queue.{next_of}
use Rattle.fate_places.specs.Places.{Held, held}
use Rattle.fate_lines.specs.Lines.{fate_lines}
use Rattle.replay_fates.specs.Fates.{fates_of}
use Rattle.replay_answers.specs.Answers.{answered, shows_of, told_of}
use Rattle.replay_answers.specs.declared.view.View.{View}
use Rattle.replay_answers.specs.Shown.{shown}

-- the queues of a node
abbrev pub held_in : Memory → Held
held_in m = held m.areas.spans m.areas.rings m.areas.rows

-- what became of messages by a call: by the memory before it, and its result
abbrev pub call_fates : ℕ → Event → Memory → Result → List (List ℕ)
call_fates number event m made =
    fate_lines number
    (fates_of (told_of (view_of event) made.answer (next_of m.areas.arrivals)) made.after.areas.links (held_in m) (held_in made.after)
    made.after.areas.reports)

-- all that is written of a call where its fates are shown
abbrev pub fated_lines : Plan → ℕ → Event → List ℕ → Memory → List (List ℕ)
fated_lines plan number event message m =
    let made = call_of plan event message m in
    answered number (shows_of (view_of event)) made.answer message made.after.out (call_fates number event m made) made.after.areas.reports

-- what is shown of a call; "with `--fates`" (docs/FORMATS.md) its fates too
abbrev pub called_lines : Plan → View → ℕ → Event → List ℕ → Memory → List (List ℕ)
called_lines plan view number event message m =
    let made = call_of plan event message m in
    shown view number (shows_of (view_of event)) made.answer message made.after.out
    (cond view.fates (call_fates number event m made) []) made.after.areas.reports
