-- The fates of a call have room where a list would stand: a line has at most 100 octets, and each of three parts at most 256 lines. Assumes nothing.
use Rattle.std.proofs.Common.{◌≡◌, ℕ, zero, suc, ◌+◌, ◌-◌, ◌*◌, ◌≤◌, min, Bool, true, false, cond, eqb, List, [], ◌∷◌, ◌++◌, length, refl, ap, arith}
use borrow.Table.Steps.{cases}
use Rattle.text_decimals.specs.Decimal.{decimal_of}
use Rattle.text_pages.specs.Page.{joined, ended, parted}
use Rattle.plan.specs.declared.data.Plan.{Plan}
use Rattle.fate_places.specs.Places.{Held, places}
use Rattle.fate_lines.specs.declared.Fate.{Fate}
use Rattle.fate_lines.specs.declared.Fate.TheVariants.{Unchanged, Queued, Sent, Acknowledged, Retired, Moved}
use Rattle.fate_lines.specs.Lines.{queued_word, sent_word, acknowledged_word, retired_word, moved_word, placed, name_of, queued_at, fate_line, fate_lines}
use Rattle.replay_fates.specs.declared.deciding.Part.{Part}
use Rattle.replay_fates.specs.declared.deciding.Part.TheVariants.{Arriving, Moving}
use Rattle.replay_fates.specs.declared.deciding.Told.{Told}
use Rattle.replay_fates.specs.Fates.{fate_at, fates_at, fates_from, fates_in, sent_fate, leaving_part, fates_of}
use Rattle.replay_fates.proofs.Walking.{lines_append, four_parts}
use Rattle.node.specs.declared.call.Event.{Event}
use Rattle.node.specs.View as Node
use Rattle.node.specs.View.{view_of, Comes, Fails, Sends, Acknowledges, Arrives, HandedOver, Overdue, Expires}
use Rattle.node.specs.Memory.{Memory}
use Rattle.node.specs.Call.{call_of}
use Rattle.queue_joining.specs.Queue.{next_of}
use Rattle.replay_answers.specs.Answers.{shows_of, told_of, list_lines}
use Rattle.replay_answers.specs.declared.view.View.{View}
use Rattle.replay_calls.specs.Called.{held_in, call_fates, called_lines}
use Rattle.replay_shift.proofs.Room.{both_long, decimal_long, piece_long, shown_long}

three : (test : Bool) (one other : List ℕ) → length one ≤ 3 → length other ≤ 3 → length (cond test one other) ≤ 3
three true one other h k = h
three false one other h k = k

name_long : (heading : ℕ) → length (name_of heading) ≤ 3
name_long heading =
    three (eqb heading 0x11) _ _ (omega arith) (three (eqb heading 0x21) _ _ (omega arith) (three (eqb heading 0x51) _ _ (omega arith) (three (eqb heading 0x61) _ _ (omega arith) (three (eqb heading 0x12) _ _ (omega arith) (three (eqb heading 0x22) _ _ (omega arith) (three (eqb heading 0x14) _ _ (omega arith) (three (eqb heading 0x54) _ _ (omega arith) (three (eqb heading 0x15) _ _ (omega arith) (omega arith)))))))))

placed_long : (queue : ℕ) → length (placed queue) ≤ 20
placed_long queue = cases (eqb queue 32) (λ e. simp e (omega arith)) (λ e. simp e (decimal_long queue))

queued_long : (queue heading : ℕ) → length (joined (queued_at queue heading)) ≤ 25
unfolding joined
queued_long queue heading =
    let p = placed_long queue in
    let n = name_long heading in
    cases (eqb heading 0)
    (λ e. simp e (omega (arith, p, piece_long (placed queue) (ended ∷ []))))
    (λ e. simp e (omega (arith, p, n, piece_long (placed queue) (parted ∷ name_of heading ∷ ended ∷ []), piece_long (name_of heading) (ended ∷ []))))

-- how each line begins
start_long : (number arrival : ℕ) (word : List ℕ) (more : List (List ℕ)) → length word ≤ 14
    → length (joined (decimal_of number ∷ word ∷ decimal_of arrival ∷ parted ∷ more)) ≤ 55 + length (joined more)
start_long number arrival word more short =
    omega (
      arith,
      short,
      decimal_long number,
      decimal_long arrival,
      piece_long (decimal_of number) (word ∷ decimal_of arrival ∷ parted ∷ more),
      piece_long word (decimal_of arrival ∷ parted ∷ more),
      piece_long (decimal_of arrival) (parted ∷ more),
      piece_long parted more,
    )

-- one link and the end of the line, and two
one_long : (queue : ℕ) → length (joined (placed queue ∷ ended ∷ [])) ≤ 21
unfolding joined
one_long queue = omega (arith, placed_long queue, piece_long (placed queue) (ended ∷ []))

two_long : (queue : ℕ) (last : List ℕ) → length last ≤ 20 → length (joined (placed queue ∷ parted ∷ last ∷ ended ∷ [])) ≤ 42
unfolding joined
two_long queue last short =
    omega (arith, short, placed_long queue, piece_long (placed queue) (parted ∷ last ∷ ended ∷ []), piece_long last (ended ∷ []))

-- the line of a fate
fate_long : (number : ℕ) (fate : Fate) → length (joined (fate_line number fate)) ≤ 100
unfolding joined
fate_long number Unchanged = omega arith
fate_long number (Queued arrival queue heading) =
    omega (arith, start_long number arrival queued_word (queued_at queue heading) (omega arith), queued_long queue heading)
fate_long number (Sent arrival link fsn) =
    omega (arith, start_long number arrival sent_word (placed link ∷ parted ∷ decimal_of fsn ∷ ended ∷ []) (omega arith), two_long link (decimal_of fsn) (decimal_long fsn))
fate_long number (Acknowledged arrival link) =
    omega (arith, start_long number arrival acknowledged_word (placed link ∷ ended ∷ []) (omega arith), one_long link)
fate_long number (Retired arrival link) =
    omega (arith, start_long number arrival retired_word (placed link ∷ ended ∷ []) (omega arith), one_long link)
fate_long number (Moved arrival from to) =
    omega (arith, start_long number arrival moved_word (placed from ∷ parted ∷ placed to ∷ ended ∷ []) (omega arith), two_long from (placed to) (placed_long to))

module _ (number : ℕ) (part : Part) (walked after : Held) (reports : List ℕ) (count : ℕ) where
  at_long : (queue place more : ℕ) → length (joined (fate_lines number (fates_at part walked after reports count queue place more))) ≤ 100 * more
  unfolding fates_at fate_lines joined
  at_long queue place zero = omega arith
  at_long queue place (suc more) =
      let fate = fate_at part walked after reports count queue place in
      omega (
        arith,
        both_long (fate_line number fate) (fate_lines number (fates_at part walked after reports count queue (place + 1) more)),
        fate_long number fate,
        at_long queue (place + 1) more,
      )

  from_long : (queue more left : ℕ) → length (joined (fate_lines number (fates_from part walked after reports count queue more left))) ≤ 100 * left
  unfolding fates_from fate_lines joined
  from_long queue zero left = omega arith
  from_long queue (suc more) left =
      let many : ℕ = min (places walked queue) left in
      let one = fates_at part walked after reports count queue 0 many in
      let other = fates_from part walked after reports count (queue + 1) more (left - many) in
      omega (
        arith,
        ap (λ (l : List (List ℕ)). length (joined l)) (lines_append number one other),
        both_long (fate_lines number one) (fate_lines number other),
        at_long queue 0 many,
        from_long (queue + 1) more (left - many),
      )

  part_long : length (joined (fate_lines number (fates_in part walked after reports count))) ≤ 25600
  unfolding fates_in
  part_long = from_long 0 33 256

-- all fates of a call
fates_long : (number : ℕ) (told : Told) (links : List ℕ) (before after : Held) (reports : List ℕ)
    → length (joined (fate_lines number (fates_of told links before after reports))) ≤ 76900
unfolding fates_of
fates_long number told links before after reports =
    let new = fates_in (Arriving told.next) after after reports told.reports in
    let sent = sent_fate told links after in
    let left = fates_in (leaving_part told) before after reports told.reports in
    let moved = fates_in Moving before after reports told.reports in
    omega (
      arith,
      ap (λ (l : List (List ℕ)). length (joined l)) (four_parts number new sent left moved),
      both_long (fate_lines number new) (fate_line number sent ++ (fate_lines number left ++ fate_lines number moved)),
      both_long (fate_line number sent) (fate_lines number left ++ fate_lines number moved),
      both_long (fate_lines number left) (fate_lines number moved),
      part_long number (Arriving told.next) after after reports told.reports,
      fate_long number sent,
      part_long number (leaving_part told) before after reports told.reports,
      part_long number Moving before after reports told.reports,
    )

-- a call lists nothing
no_list : (view : Node.View) (number octets : ℕ) (out : List ℕ) → list_lines (shows_of view) number octets out ≡ []
no_list (Comes link) number octets out = refl
no_list (Fails link) number octets out = refl
no_list (Sends link) number octets out = refl
no_list (Acknowledges link b) number octets out = refl
no_list (Arrives link fsn) number octets out = refl
no_list HandedOver number octets out = refl
no_list (Overdue link timer) number octets out = refl
no_list Expires number octets out = refl

-- what is shown of a call
pub called_long : (plan : Plan) (view : View) (number : ℕ) (event : Event) (message : List ℕ) (m : Memory) →
    let made = call_of plan event message m in
    length message ≤ 1024 → length made.after.out ≡ 4096 → length made.after.areas.reports ≡ 1024
    → length (joined (called_lines plan view number event message m)) ≤ 163000
unfolding joined
called_long plan view number event message m short out-long reports_long =
    let made = call_of plan event message m in
    let fates = call_fates number event m made in
    let long : length (joined fates) ≤ 76900 =
    fates_long number (told_of (view_of event) made.answer (next_of m.areas.arrivals)) made.after.areas.links (held_in m) (held_in made.after) made.after.areas.reports
    in
    let few : length (joined (cond view.fates fates [])) ≤ 76900 = cases view.fates (λ e. simp e long) (λ e. simp e (omega arith)) in
    let none = ap (λ (l : List (List ℕ)). length (joined l)) (no_list (view_of event) number made.answer.octets made.after.out) in
    shown_long number made.answer message made.after.out made.after.areas.reports short out-long reports_long
    (shows_of (view_of event)) (cond view.fates fates []) (omega (arith, few, none)) view
