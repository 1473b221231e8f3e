-- A record read piece by piece is answered as a whole: what a turn over a piece writes, and then what is left, is what was left before it.
-- And a line that can't be read stops the run there. Assumes nothing.
use Rattle.std.proofs.Common.{◌≡◌, ℕ, ◌+◌, Bool, true, false, cond, eqb, List, [], ◌∷◌, ◌++◌, length, sym, refl, ap, ◌∙◌, subst, append_assoc}
use mathlib.Core.Bool.{false≢true}
use lib.Seq.{slice, take-length}
use borrow.Table.Steps.{cases}
use Rattle.plan.specs.declared.data.Plan.{Plan}
use Rattle.node.specs.declared.ask.Question.{Question}
use Rattle.node.specs.Memory.{Memory}
use Rattle.record_reading.specs.declared.Reading.{Reading}
use Rattle.record_reading.specs.declared.Reading.TheVariants.{Call, Asks, Unreadable}
use Rattle.record_reading.specs.Record.{read_line, message_after}
use Rattle.text.specs.Part.{split, marked, on_first, is_empty, lf, line_at}
use Rattle.text.proofs.Parts.{split_last}
use Rattle.text_pages.specs.Page.{joined}
use Rattle.plan_configuration.specs.Configure.{configured}
use Rattle.replay_refusals.specs.Refused.{unreadable, refused_by}
use Rattle.replay_answers.specs.declared.view.View.{View}
use Rattle.replay_shift.specs.Shift.{Desk, desk, ran_lines, ran_line, run_by, refused, goes_on, lines_from, answers_of, to_write, first_desk, replay_of}
use Rattle.replay_shift.proofs.Lines.{lines_are, past_line}
use Rattle.replay_shift.proofs.Going.{first_of, by_next}

-- parts with others behind them: the last of the first and the first of the others are one
unfoldable glue : List (List ℕ) → List (List ℕ) → List (List ℕ)
glue [] others = others
glue (last ∷ []) [] = last ∷ []
glue (last ∷ []) (first ∷ others) = (last ++ first) ∷ others
glue (line ∷ next ∷ more) others = line ∷ glue (next ∷ more) others

glue_first : (x : ℕ) (parts others : List (List ℕ)) → on_first x (glue parts others) ≡ glue (on_first x parts) others
unfolding glue
glue_first x [] [] = refl
glue_first x [] (first ∷ others) = refl
glue_first x (last ∷ []) [] = refl
glue_first x (last ∷ []) (first ∷ others) = refl
glue_first x (line ∷ next ∷ more) others = refl

-- a text is one part at least
record Some (parts : List (List ℕ)) : Type 0 where
  first : List ℕ
  rest : List (List ℕ)
  is : parts ≡ first ∷ rest

some_part : (mark : ℕ) (text : List ℕ) → Some (split mark text)
unfolding split
some_part mark [] = record { first = []; rest = []; is = refl }
some_part mark (x ∷ text) =
    cases (eqb x mark)
    (λ e. record { first = []; rest = split mark text; is = simp e })
    (λ e.
    let behind = some_part mark text in
    record { first = x ∷ behind.first; rest = behind.rest; is = simp e (ap (on_first x) behind.is) })

glue_closed : (line : List ℕ) (parts others : List (List ℕ)) → Some parts → glue (line ∷ parts) others ≡ line ∷ glue parts others
unfolding glue
glue_closed line parts others some =
    subst (λ (p : List (List ℕ)). glue (line ∷ p) others ≡ line ∷ glue p others) (sym some.is) refl

glue_none : (others : List (List ℕ)) → Some others → glue ([] ∷ []) others ≡ others
unfolding glue
glue_none others some = subst (λ (p : List (List ℕ)). glue ([] ∷ []) p ≡ p) (sym some.is) refl

-- two texts one behind the other
glued : (mark : ℕ) (a b : List ℕ) → split mark (a ++ b) ≡ glue (split mark a) (split mark b)
unfolding split
glued mark [] b = sym (glue_none (split mark b) (some_part mark b))
glued mark (x ∷ a) b =
    let behind = glued mark a b in
    cases (eqb x mark)
    (λ e. simp e (ap (λ (p : List (List ℕ)). [] ∷ p) behind ∙ sym (glue_closed [] (split mark a) (split mark b) (some_part mark a))))
    (λ e. simp e (ap (on_first x) behind ∙ glue_first x (split mark a) (split mark b)))

-- a desk that can't go on for a line that couldn't be read
stopped_stays : (plan : Plan) (view : View) (d : Desk) (lines : List (List ℕ)) → d.readable ≡ false → ran_lines plan view lines d ≡ d
unfolding ran_lines
stopped_stays plan view d [] e = refl
stopped_stays plan view d (last ∷ []) e = refl
stopped_stays plan view d (line ∷ next ∷ more) e = simp e

module _ (plan : Plan) (view : View) where
  abbrev left : Desk → List (List ℕ) → List ℕ
  left d lines = to_write plan view d lines

  -- the lines that a turn leaves
  unfoldable left_of : List (List ℕ) → Desk → List (List ℕ)
  left_of [] d = []
  left_of (last ∷ []) d = last ∷ []
  left_of (line ∷ next ∷ more) d =
      cond (goes_on d) (left_of (next ∷ more) (ran_line plan view line (d.at + length line + 1) d)) (line ∷ next ∷ more)

  -- a line writes the same wherever it stands and whatever was written before it
  by_text : (reading : Reading) (area : List ℕ) (next : ℕ) (d : Desk) (others : List (List ℕ)) →
      let alone = run_by reading plan view area 0 (desk d.memory d.message [] 0 d.number true) in
      let here = run_by reading plan view area next d in
      d.text ++ (alone.text ++ left alone others) ≡ here.text ++ left here others
  by_text (Call said) area next d others = sym (append_assoc d.text _ _)
  by_text (Asks question) area next d others = sym (append_assoc d.text _ _)
  by_text Unreadable area next d others = sym (append_assoc d.text _ _)

  line_answer : (memory : Memory) (message : List ℕ) (number : ℕ) (line : List ℕ) (others : List (List ℕ)) → Some others →
      let alone = ran_line plan view line 0 (desk memory message [] 0 number true) in
      answers_of plan view memory message number (line ∷ others) ≡ alone.text ++ left alone others
  unfolding answers_of
  line_answer memory message number line others some =
      subst
      (λ (p : List (List ℕ)). let alone = ran_line plan view line 0 (desk memory message [] 0 number true) in answers_of plan view memory message number (line ∷ p) ≡ alone.text ++ left alone p)
      (sym some.is)
      refl

  -- one line run is one line less to write
  line_onward : (line : List ℕ) (next : ℕ) (d : Desk) (others : List (List ℕ)) → Some others → d.readable ≡ true
      → d.text ++ left d (line ∷ others) ≡ (ran_line plan view line next d).text ++ left (ran_line plan view line next d) others
  line_onward line next d others some e =
      ap (λ (t : Bool). d.text ++ cond t (answers_of plan view d.memory d.message d.number (line ∷ others)) []) e
      ∙ ap (λ (s : List ℕ). d.text ++ s) (line_answer d.memory d.message d.number line others some)
      ∙ by_text (read_line d.message line) (message_after d.message line) next d others

  some_glue : (next : List ℕ) (more others : List (List ℕ)) → Some others → Some (glue (next ∷ more) others)
  unfolding glue
  some_glue next [] others some =
      record { first = next ++ some.first; rest = some.rest; is = ap (glue (next ∷ [])) some.is }
  some_glue next (second ∷ more) others some = record { first = next; rest = glue (second ∷ more) others; is = refl }

  -- a turn over some lines, and what it leaves of them
  onward : (parts : List (List ℕ)) (d : Desk) (others : List (List ℕ)) → Some others
      → d.text ++ left d (glue parts others) ≡ (ran_lines plan view parts d).text ++ left (ran_lines plan view parts d) (glue (left_of parts d) others)
  unfolding ran_lines left_of glue
  onward [] d others some = refl
  onward (last ∷ []) d others some = refl
  onward (line ∷ next ∷ more) d others some =
      let there = ran_line plan view line (d.at + length line + 1) d in
      let further = ran_lines plan view (next ∷ more) there in
      let rest = left_of (next ∷ more) there in
      let written : Bool → List ℕ =
      λ t. (cond t further d).text ++ left (cond t further d) (glue (cond t rest (line ∷ next ∷ more)) others)
      in
      cases (goes_on d)
      (λ on.
      line_onward line (d.at + length line + 1) d (glue (next ∷ more) others) (some_glue next more others some) (first_of d.readable _ on)
      ∙ onward (next ∷ more) there others some
      ∙ ap written (sym on))
      (λ off. ap written (sym off))

  abbrev none : List (List ℕ) → Bool
  none [] = true
  none (part ∷ parts) = false

  abbrev first_part : List (List ℕ) → List ℕ
  first_part [] = []
  first_part (part ∷ parts) = part

  abbrev rest_parts : List (List ℕ) → List (List ℕ)
  rest_parts [] = []
  rest_parts (part ∷ parts) = parts

  -- and they are the lines from the new place on
  lines_left : (text : List ℕ) (parts : List (List ℕ)) (d : Desk) → parts ≡ lines_from text d.at
      → left_of parts d ≡ lines_from text (ran_lines plan view parts d).at
  unfolding ran_lines left_of
  lines_left text [] d is = is
  lines_left text (last ∷ []) d is = is
  lines_left text (line ∷ next ∷ more) d is =
      let part = line_at text d.at in
      let behind = lines_from text part.next in
      let all = is ∙ lines_are text d.at part refl in
      let line-is : line ≡ slice d.at part.end text = ap first_part all in
      let more-is : next ∷ more ≡ cond part.closed behind [] = ap rest_parts all in
      let closed : part.closed ≡ true =
      cases part.closed (λ e. e) (λ e. absurd (false≢true (ap none (more-is ∙ ap (λ (t : Bool). cond t behind []) e))))
      in
      let there = ran_line plan view line (d.at + length line + 1) d in
      let place : there.at ≡ part.next =
      by_next (read_line d.message line) plan view (message_after d.message line) (d.at + length line + 1) d
      ∙ ap (λ (l : List ℕ). d.at + length l + 1) line-is
      ∙ past_line text d.at part refl closed
      in
      let next_is : next ∷ more ≡ lines_from text there.at =
      more-is ∙ ap (λ (t : Bool). cond t behind []) closed ∙ ap (lines_from text) (sym place)
      in
      let told : Bool → Type 0 =
      λ t. cond t (left_of (next ∷ more) there) (line ∷ next ∷ more) ≡ lines_from text (cond t (ran_lines plan view (next ∷ more) there) d).at
      in
      cases (goes_on d)
      (λ on. subst told (sym on) (lines_left text (next ∷ more) there next_is))
      (λ off. subst told (sym off) is)

  -- a turn over a piece of a record, of which more is unread: what it writes, and then what is left, is what was left before it
  pub turn_onward : (piece unread : List ℕ) (d : Desk) →
      let after = ran_lines plan view (lines_from piece d.at) d in
      d.text ++ to_write plan view d (split lf (slice d.at (length piece) piece ++ unread))
      ≡ after.text ++ to_write plan view after (split lf (slice after.at (length piece) piece ++ unread))
  turn_onward piece unread d =
      let after = ran_lines plan view (lines_from piece d.at) d in
      ap (λ (lines : List (List ℕ)). d.text ++ left d lines) (glued lf (slice d.at (length piece) piece) unread)
      ∙ onward (lines_from piece d.at) d (split lf unread) (some_part lf unread)
      ∙ ap (λ (lines : List (List ℕ)). after.text ++ left after (glue lines (split lf unread))) (lines_left piece (lines_from piece d.at) d refl)
      ∙ ap (λ (lines : List (List ℕ)). after.text ++ left after lines) (sym (glued lf (slice after.at (length piece) piece) unread))

  -- what is left when nothing is unread: what stands behind the last LF is no line
  pub ends_there : (d : Desk) (rest : List ℕ) → marked lf rest ≡ false → d.readable ≡ true
      → to_write plan view d (split lf rest) ≡ cond (is_empty rest) [] (joined (unreadable d.number))
  unfolding answers_of
  ends_there d rest none_there e =
      ap (λ (t : Bool). cond t (answers_of plan view d.memory d.message d.number (split lf rest)) []) e
      ∙ ap (answers_of plan view d.memory d.message d.number) (split_last lf rest none_there)

  -- "a line that can't be read stops the replay there, with the state of the lines before it": 30 and its number are written, the node is as it
  -- was, and no line behind it is run
  pub stops_there : (line : List ℕ) (next : ℕ) (d : Desk) (lines : List (List ℕ)) → Unreadable ≡ read_line d.message line →
      let stopped = refused (message_after d.message line) next d in
      (ran_line plan view line next d ≡ stopped) × (ran_lines plan view lines (ran_line plan view line next d) ≡ stopped)
  stops_there line next d lines reads =
      let here = sym (ap (λ (reading : Reading). run_by reading plan view (message_after d.message line) next d) reads) in
      (here, ap (ran_lines plan view lines) here ∙ stopped_stays plan view (refused (message_after d.message line) next d) lines refl)

  -- a line that asks leaves the node as it was: every area and the octets of its messages; what is written stands in the lent output
  pub asking_changes_nothing : (line : List ℕ) (next : ℕ) (d : Desk) (question : Question) → Asks question ≡ read_line d.message line →
      let after = (ran_line plan view line next d).memory in
      (after.areas ≡ d.memory.areas) × (after.octets ≡ d.memory.octets)
  asking_changes_nothing line next d question reads =
      let here = sym (ap (λ (reading : Reading). (run_by reading plan view (message_after d.message line) next d).memory) reads) in
      (ap (λ (m : Memory). m.areas) here, ap (λ (m : Memory). m.octets) here)

-- the first turn of a run on the node that a configuration makes: with the theorem above, turn by turn, all that is written is the whole replay
pub first_turn : (view : View) (configuration piece unread : List ℕ) → (configured configuration).fault ≡ 0 →
    let plan = (configured configuration).plan in
    let after = ran_lines plan view (lines_from piece 0) first_desk in
    replay_of view configuration (piece ++ unread)
    ≡ after.text ++ to_write plan view after (split lf (slice after.at (length piece) piece ++ unread))
first_turn view configuration piece unread e =
    let made = configured configuration in
    ap (λ (n : ℕ). cond (eqb n 0) (to_write made.plan view first_desk (split lf (piece ++ unread))) (joined (refused_by made.line made.fault))) e
    ∙ ap (λ (s : List ℕ). to_write made.plan view first_desk (split lf (s ++ unread))) (sym (take-length piece))
    ∙ turn_onward made.plan view piece unread first_desk

-- and a configuration that is refused is all that is told
pub refused_whole : (view : View) (configuration text : List ℕ) → eqb (configured configuration).fault 0 ≡ false
    → replay_of view configuration text ≡ joined (refused_by (configured configuration).line (configured configuration).fault)
refused_whole view configuration text e = simp e
