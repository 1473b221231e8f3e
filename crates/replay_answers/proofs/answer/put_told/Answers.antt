-- The reply's line is put, the fates, the reports, and the route list.
-- Assumes nothing.
use mathlib.Core.List.{[], ◌∷◌, ◌++◌}
use Rattle.text_pages.specs.Page.{ended}
use Rattle.text_pages.proofs.Pages.{follow, last}
use Rattle.fate_places.specs.Places.{held_of}
use Rattle.fate_lines.specs.Lines.{fate_lines}
use Rattle.replay_fates.specs.Fates.{fates_of}
use Rattle.replay_reports.specs.Reported.{all_reported}
use Rattle.replay_showing.specs.Reply.{replied, behind}
use Rattle.replay_answers.specs.Answers.{list_lines}
use Rattle.replay_answers.proofs.answer.put_told.Goals as goal

pub returns : goal.returns
returns c =
    let a = c.args in
    let r = c.put_reply-at in
    let f = c.put_fates-at in
    let l = c.put_reports-at in
    let line = replied a.number a.answer.reply ++ (behind a.shows a.answer a.message.now a.sent.now ++ (ended ∷ [])) in
    let before = held_of a.before in
    let after = held_of a.after in
    let fates = fate_lines a.number (fates_of a.told a.links.now before after a.reports.now) in
    let reports = all_reported a.number a.reports.now a.answer.reports in
    let list = list_lines a.shows a.number a.answer.octets a.sent.now in
    (follow a.out.now a.at line r.ensures
    (follow r.new.out r.result fates f.ensures
    (follow f.new.out f.result {more = list} reports l.ensures
    (last {pieces = list} c.put_listed.ensures)))
    ).as_put
