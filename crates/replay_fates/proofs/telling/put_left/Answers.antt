-- Those taken out, and behind them those moved. Assumes nothing.
use mathlib.Core.Path.{sym, ap, ◌∙◌}
use Rattle.text_pages.specs.Page.{page, puts}
use Rattle.text_pages.proofs.Pages.{follow, last}
use Rattle.fate_places.specs.Places.{held_of}
use Rattle.fate_lines.specs.Lines.{fate_lines}
use Rattle.replay_fates.specs.declared.deciding.Part.{Part}
use Rattle.replay_fates.specs.declared.deciding.Part.TheVariants.{Moving}
use Rattle.replay_fates.specs.Fates.{fates_in, leaving_part}
use Rattle.replay_fates.proofs.Walking.{lines_append}
use Rattle.replay_fates.proofs.telling.put_left.Goals as goal

pub returns : goal.returns
returns c =
    let a = c.args in
    let before = held_of a.before in
    let after = held_of a.after in
    let count = a.told.reports in
    let l = c.put_part-at in
    let left = fates_in (leaving_part a.told) before after a.reports.now count in
    let moved = fates_in Moving before after a.reports.now count in
    (follow a.out.now a.at (fate_lines a.number left)
    (l.ensures
    ∙ ap (λ (p : Part). puts (page a.out.now a.at) (fate_lines a.number (fates_in p before after a.reports.now count))) c.leaving-part.ensures)
    (last c.put_part.ensures)).as_put
    ∙ ap (puts (page a.out.now a.at)) (sym (lines_append a.number left moved))
