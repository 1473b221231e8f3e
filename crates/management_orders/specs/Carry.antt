-- How a step is carried out: the answer is queued, and then the link goes out. "COO is answered with COA, queued
-- before anything moves." (R123, R124)
use Rattle.std.specs.Prelude.{ℕ, cond}
use Rattle.plan.specs.declared.data.Plan.{Plan}
use Rattle.replies.specs.Reply.{plain, done}
use Rattle.replies.specs.Areas.{Areas, Outcome, outcome, judged}
use Rattle.management_making.specs.Make.{with_made, makes_reply}
use Rattle.changeover_ending.specs.End.{out_of_service}
use Rattle.management_steps.specs.declared.Step.{Step}

-- the reply to the making of the answer: 8 or 10 where it finds no place or number
unfoldable pub answer_reply : Plan → Step → Areas → ℕ
answer_reply plan step a = cond step.answers (makes_reply plan step.draft a) 0

-- the areas with the answer queued
unfoldable pub with_answer : Plan → Step → Areas → Areas
with_answer plan step a = cond step.answers (with_made plan step.draft a) a

-- the reply and the areas
abbrev pub answered : Plan → Step → Areas → Outcome
answered plan step a = outcome (plain (answer_reply plan step a)) (with_answer plan step a)

-- the link goes out, if one does
unfoldable pub ended_by : Plan → Step → Areas → Outcome
ended_by plan step a = cond step.ends (out_of_service plan a step.link step.parts) (outcome (done 0) a)

-- a step carried out: none with another reply than 0, nor where its answer finds no place or number (R131)
unfoldable pub carried : Plan → Step → Areas → Outcome
carried plan step a =
    judged step.reply (judged (answer_reply plan step a) (ended_by plan step (with_answer plan step a)) a) a
