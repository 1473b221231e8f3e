-- A call on the page: what was put by its answer and by the areas that it left is what the definition says. Assumes nothing.
use mathlib.Core.Path.{◌≡◌, ◌∙◌}
use mathlib.Core.Bool.{true, false}
use mathlib.Core.List.{List, []}
use Prim.Native.Nat.{ℕ}
use Rattle.plan.specs.declared.data.Plan.{Plan}
use Rattle.replies.specs.declared.Answer.{Answer}
use Rattle.replies.specs.Areas.{areas}
use Rattle.node.specs.declared.call.Event.{Event}
use Rattle.node.specs.Memory.{Memory, memory, Result, Gives}
use Rattle.node.specs.Call.{call_of}
use Rattle.node.specs.View.{view_of}
use Rattle.queue_joining.specs.Queue.{next_of}
use Rattle.fate_lines.specs.Lines.{fate_lines}
use Rattle.replay_fates.specs.declared.deciding.Told.{Told}
use Rattle.replay_fates.specs.Fates.{fates_of}
use Rattle.replay_showing.specs.declared.shows.Shows.{Shows}
use Rattle.replay_answers.specs.Answers.{answered, shows_of, told_of}
use Rattle.replay_answers.specs.declared.view.View.{View}
use Rattle.replay_answers.specs.Shown.{shown, tells}
use Rattle.replay_calls.specs.Called.{held_in, call_fates, fated_lines, called_lines}
use Rattle.replay_answers.proofs.Shown as Shown

-- the memory that a call gives is that of its result
pub given_memory : (expected : Result) (r : Answer) (m : Memory) → Gives expected r m → m ≡ expected.after
given_memory expected r m g i =
    memory
    (areas (g.in_links i) (g.in_marks i) (g.in_spans i) (g.in_rings i) (g.in_rows i) (g.in_arrivals i) (g.in_reports i))
    (g.in_octets i)
    (g.in_out i)

module _ (plan : Plan) (number : ℕ) (event : Event) (message : List ℕ) (m₀ m : Memory) (answer : Answer)
    (given : Gives (call_of plan event message m₀) answer m) (shows : Shows) (shows-is : shows ≡ shows_of (view_of event)) where
  abbrev made : Result
  made = call_of plan event message m₀

  abbrev after : m ≡ made.after
  after = given_memory made answer m given

  -- with its fates
  pub fated : (told : Told) → told ≡ told_of (view_of event) answer (next_of m₀.areas.arrivals)
      → answered number shows answer message m.out
      (fate_lines number (fates_of told m.areas.links (held_in m₀) (held_in m) m.areas.reports)) m.areas.reports
      ≡ fated_lines plan number event message m₀
  fated told told_is i =
      answered number (shows-is i) (given.answers i) message (after i).out
      (fate_lines number
      (fates_of ((told_is ∙ (λ j. told_of (view_of event) (given.answers j) (next_of m₀.areas.arrivals))) i) (after i).areas.links (held_in m₀)
      (held_in (after i)) (after i).areas.reports))
      (after i).areas.reports

  -- without them
  pub unfated : (view : View) → tells view number ≡ false
      → shown view number shows answer message m.out [] m.areas.reports ≡ called_lines plan view number event message m₀
  unfated view h =
      (λ i. shown view number (shows-is i) (given.answers i) message (after i).out [] (after i).areas.reports)
      ∙ Shown.untold view number (shows_of (view_of event)) made.answer message made.after.out (call_fates number event m₀ made) made.after.areas.reports h

-- fates that are shown
pub as_told : (plan : Plan) (view : View) (number : ℕ) (event : Event) (message : List ℕ) (m₀ : Memory) → tells view number ≡ true
    → fated_lines plan number event message m₀ ≡ called_lines plan view number event message m₀
as_told plan view number event message m₀ h =
    let made = call_of plan event message m₀ in
    Shown.told view number (shows_of (view_of event)) made.answer message made.after.out (call_fates number event m₀ made) made.after.areas.reports h
