-- A message from a link that is taken: "\"Taken\" moves that link's last received FSN on and changes nothing else" (R62).
use Rattle.std.specs.Prelude.{ℕ, cond}
use Rattle.replies.specs.Areas.{Areas, Outcome, outcome, with_links}
use Rattle.numbers.specs.Numbers.{is_taken, taken}

abbrev pub with_taken : ℕ → ℕ → Areas → Areas
with_taken arriving fsn a = with_links a (taken a.links arriving fsn)

-- what has become of a message, and then the message taken, by its reply
abbrev pub taken_by : ℕ → ℕ → Outcome → Outcome
taken_by arriving fsn o =
    outcome o.answer (cond (is_taken o.answer.reply) (with_taken arriving fsn o.after) o.after)
