-- One line run: what was read, called or asked, and put on the page is what the definition says. Assumes nothing.
use Rattle.std.proofs.Common.{◌≡◌, ℕ, ◌≤◌, true, false, List, [], ◌++◌, length, take, drop, sym, ap, ◌∙◌, arith}
use lib.Seq.{slice}
use Rattle.plan.specs.declared.data.Plan.{Plan}
use Rattle.node.specs.declared.ask.Question.{Question}
use Rattle.node.specs.Memory.{Memory, memory}
use Rattle.node.specs.Call.{call_of}
use Rattle.node.specs.Ask.{ask_of}
use Rattle.record_reading.specs.declared.Line.{Line}
use Rattle.record_reading.specs.declared.Reading.{Reading}
use Rattle.record_reading.specs.declared.Reading.TheVariants.{Call, Asks, Unreadable}
use Rattle.record_reading.specs.Record.{read_line, message_after}
use Rattle.text_pages.specs.Page.{page, puts, joined}
use Rattle.replay_refusals.specs.Refused.{unreadable}
use Rattle.replay_answers.specs.Answers.{shows_for}
use Rattle.replay_shift.specs.declared.run.Place.{Place}
use Rattle.replay_answers.specs.declared.view.View.{View}
use Rattle.replay_answers.specs.Shown.{shown}
use Rattle.replay_calls.specs.Called.{called_lines}
use Rattle.replay_shift.specs.Shift.{Desk, desk, desk_at, onward, ran_line, run_by}
use Rattle.replay_shift.proofs.OnPage.{stands}
use Rattle.replay_shift.proofs.Room.{asked_long, unreadable_long}
use Rattle.replay_shift.proofs.FatesRoom.{called_long}

-- what one line leaves: the desk, a page with room, and behind its text what stood there
pub record Leaves (expected : Desk) (m : Memory) (message before out : List ℕ) (place : Place) : Type 0 where
  pub desk_is : desk_at m message out place ≡ expected
  pub within : place.pending ≤ 262144
  pub rest_is : drop place.pending out ≡ drop place.pending before

module _ (plan : Plan) (view : View) (line : List ℕ) (next : ℕ) (m₀ : Memory) (area₀ out₀ : List ℕ) (place : Place)
    (page-long : length out₀ ≡ 262144) (some_room : place.pending ≤ 65536) where
  abbrev from : Desk
  from = desk_at m₀ area₀ out₀ place

  -- a line that says a call
  pub call_leaves :
      (said : Line) → Call said ≡ read_line area₀ line → (area : List ℕ) → area ≡ message_after area₀ line →
      (message : List ℕ) → message ≡ slice 0 said.octets area → (m : Memory) → m ≡ (call_of plan said.event message m₀).after →
      (out : List ℕ) (pending : ℕ) →
      page out pending ≡ puts (page out₀ place.pending) (called_lines plan view place.number said.event message m₀) →
      length message ≤ 1024 → length m.out ≡ 4096 → length m.areas.reports ≡ 1024 →
      (number : ℕ) → number ≡ onward place.number →
      Leaves (ran_line plan view line next from) m area out₀ out (record { at = next; number = number; pending = pending; readable = true })
  call_leaves said reads area area-is message message_is m after out pending put short out-long reports_long number number_is =
      let pieces = called_lines plan view place.number said.event message m₀ in
      let long =
      called_long plan view place.number said.event message m₀ short
      (ap (λ (n : Memory). length n.out) (sym after) ∙ out-long) (ap (λ (n : Memory). length n.areas.reports) (sym after) ∙ reports_long)
      in
      let there = stands out₀ place.pending pieces out pending put (omega (arith, long, page-long, some_room)) in
      let told : message ≡ slice 0 said.octets (message_after area₀ line) = message_is ∙ ap (slice 0 said.octets) area-is in
      let lines = ap (λ (s : List ℕ). called_lines plan view place.number said.event s m₀) told in
      let text = there.text_is ∙ ap (λ (p : List (List ℕ)). take place.pending out₀ ++ joined p) lines in
      let left = after ∙ ap (λ (s : List ℕ). (call_of plan said.event s m₀).after) told in
      record {
        desk_is =
            (λ i. desk (left i) (area-is i) (text i) next (number_is i) true)
            ∙ ap (λ (reading : Reading). run_by reading plan view (message_after area₀ line) next from) reads;
        within = omega (arith, there.pending_is, long, some_room);
        rest_is = there.rest_is;
      }

  -- a line that asks a question
  pub question_leaves :
      (question : Question) → Asks question ≡ read_line area₀ line → (area : List ℕ) → area ≡ message_after area₀ line →
      let told = ask_of plan question m₀ in
      (sent : List ℕ) → sent ≡ told.after.out → (out : List ℕ) (pending : ℕ) →
      page out pending ≡ puts (page out₀ place.pending) (shown view place.number (shows_for question) told.answer [] told.after.out [] m₀.areas.reports) →
      length sent ≡ 4096 → length m₀.areas.reports ≡ 1024 →
      (number : ℕ) → number ≡ onward place.number →
      Leaves (ran_line plan view line next from) (memory m₀.areas m₀.octets sent) area out₀ out (record { at = next; number = number; pending = pending; readable = true })
  question_leaves question reads area area-is sent sent_is out pending put sent_long reports_long number number_is =
      let told = ask_of plan question m₀ in
      let pieces = shown view place.number (shows_for question) told.answer [] told.after.out [] m₀.areas.reports in
      let long = asked_long place.number told.answer [] told.after.out m₀.areas.reports (omega arith) (ap length (sym sent_is) ∙ sent_long) reports_long view (shows_for question) in
      let there = stands out₀ place.pending pieces out pending put (omega (arith, long, page-long, some_room)) in
      record {
        desk_is =
            (λ i. desk (memory m₀.areas m₀.octets (sent_is i)) (area-is i) (there.text_is i) next (number_is i) true)
            ∙ ap (λ (reading : Reading). run_by reading plan view (message_after area₀ line) next from) reads;
        within = omega (arith, there.pending_is, long, some_room);
        rest_is = there.rest_is;
      }

  -- a line that can't be read
  pub refusal_leaves :
      Unreadable ≡ read_line area₀ line → (area : List ℕ) → area ≡ message_after area₀ line → (out : List ℕ) (pending : ℕ) →
      page out pending ≡ puts (page out₀ place.pending) (unreadable place.number) →
      Leaves (ran_line plan view line next from) m₀ area out₀ out (record { at = next; number = place.number; pending = pending; readable = false })
  refusal_leaves reads area area-is out pending put =
      let long = unreadable_long place.number in
      let there = stands out₀ place.pending (unreadable place.number) out pending put (omega (arith, long, page-long, some_room)) in
      record {
        desk_is =
            (λ i. desk m₀ (area-is i) (there.text_is i) next place.number false)
            ∙ ap (λ (reading : Reading). run_by reading plan view (message_after area₀ line) next from) reads;
        within = omega (arith, there.pending_is, long, some_room);
        rest_is = there.rest_is;
      }
