-- Nothing is put of a line that isn't asked for.
-- Assumes nothing.
use mathlib.Core.Path.{sym, ap, ◌∙◌}
use mathlib.Core.List.{[]}
use Rattle.text_pages.specs.Page.{page, puts}
use Rattle.text_pages.proofs.Pages.{ends}
use Rattle.replay_answers.proofs.Shown.{early, late}
use Rattle.replay_answers.proofs.view.put_shown.Goals as goal

pub returns-then-number-view : goal.returns-then-number-view
returns-then-number-view c =
    let a = c.args in
    ends.as_put ∙ ap (puts (page a.out.now a.at)) (sym (early a.view a.number a.shows a.answer a.message.now a.sent.now [] a.reports.now c.if-number-view.true))

pub returns-then-view-number : goal.returns-then-view-number
returns-then-view-number c =
    let a = c.args in
    ends.as_put ∙ ap (puts (page a.out.now a.at)) (sym (late a.view a.number a.shows a.answer a.message.now a.sent.now [] a.reports.now c.if-number-view.false c.if-view-number.true))
