-- `plan_statement::read_statement` meets its contract: what a line says goes by its first four fields.
-- Assumes nothing.
use mathlib.Core.Path.{ap, ◌∙◌}
use Rattle.plan_statement.proofs.Walked.{by_reading}
use Rattle.plan_keywords.specs.StatementWords.{word_of}
use Rattle.plan_statement.proofs.read_statement.Goals as goal

pub returns : goal.returns
returns c =
    let a = c.args in
    let found = c.first_four-found in
    by_reading a.text.now a.at a.to found.result found.ensures _ _ _ _
    (c.read_word-word.ensures ∙ ap word_of c.between.ensures)
    c.between-first.ensures
    c.between-second.ensures
    c.between-third.ensures
    _
    c.says_counted.ensures
