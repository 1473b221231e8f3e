-- The parts are put one behind the other. Assumes nothing.
use mathlib.Core.Path.{ap, ◌∙◌}
use Rattle.text_pages.specs.Page.{page, puts}
use Rattle.text_pages.proofs.Pages.{follow, last}
use Rattle.fate_places.specs.Places.{held_of}
use Rattle.fate_lines.specs.declared.Fate.{Fate}
use Rattle.fate_lines.specs.Lines.{fate_line, fate_lines}
use Rattle.replay_fates.specs.declared.deciding.Part.TheVariants.{Arriving}
use Rattle.replay_fates.specs.Fates.{fates_in, sent_fate, left_of, fates_of}
use Rattle.replay_fates.proofs.Walking.{three_parts}
use Rattle.replay_fates.proofs.telling.put_fates.Goals as goal

pub returns : goal.returns
unfolding fates_of
returns c =
    let a = c.args in
    let before = held_of a.before in
    let after = held_of a.after in
    let n = c.put_part-at in
    let s = c.put_fate-at in
    let new = fates_in (Arriving a.told.next) after after a.reports.now a.told.reports in
    let sent = sent_fate a.told a.links.now after in
    let left = left_of a.told before after a.reports.now in
    (follow a.out.now a.at (fate_lines a.number new) n.ensures
    (follow n.new.out n.result (fate_line a.number sent)
    (s.ensures ∙ ap (λ (f : Fate). puts (page n.new.out n.result) (fate_line a.number f)) c.sent_fate.ensures)
    (last c.put_left.ensures))).as_put
    ∙ ap (puts (page a.out.now a.at)) (three_parts a.number new sent left)
