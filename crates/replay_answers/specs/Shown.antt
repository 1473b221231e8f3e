-- What is shown of an answer, by the options of `replay`: docs/FORMATS.md.
use Rattle.std.specs.Prelude.{ℕ, Bool, cond, not, ◌&&◌, List, [], leb}
use Rattle.replies.specs.declared.Answer.{Answer}
use Rattle.replay_reports.specs.Reported.{all_reported}
use Rattle.replay_showing.specs.declared.shows.Shows.{Shows}
use Rattle.replay_answers.specs.Answers.{answered}
use Rattle.replay_answers.specs.declared.view.View.{View}

-- what is shown of an answer: its lines, or its reports alone; nothing where its line is outside those that are asked for
abbrev pub shown : View → ℕ → Shows → Answer → List ℕ → List ℕ → List (List ℕ) → List ℕ → List (List ℕ)
shown view number shows answer message out fates reports =
    cond (leb view.first number && leb number view.last)
    (cond view.only (all_reported number reports answer.reports) (answered number shows answer message out fates reports))
    []

-- whether fates are shown of a line
abbrev pub tells : View → ℕ → Bool
tells view number = (leb view.first number && leb number view.last) && (not view.only && view.fates)
