-- What is asked of the node: a question is answered from the plan, the links and the marks, and nothing but the lent output changes.
use Rattle.std.specs.Prelude.{ℕ, List, length}
use Rattle.plan.specs.declared.data.Plan.{Plan}
use Rattle.replies.specs.declared.Answer.{Answer}
use Rattle.route_list.specs.RouteList.{list_answer, list_reply, list_written, laid}
use Rattle.node.specs.declared.ask.Question.{Question}
use Rattle.node.specs.declared.ask.Question.TheVariants.{RouteList}
use Rattle.node.specs.Memory.{Memory, Result, result}

-- what is answered, over links, marks and the output as it is lent
unfoldable pub answer_to : Plan → List ℕ → List ℕ → List ℕ → Question → Answer
answer_to plan links marks out RouteList = list_answer (list_reply out plan) (length (list_written out links marks plan))

-- the output with what is written into it
unfoldable pub written_for : Plan → List ℕ → List ℕ → List ℕ → Question → List ℕ
written_for plan links marks out RouteList = laid out 0 (list_written out links marks plan)

-- every question: the areas and the octets are as they were
abbrev pub ask_of : Plan → Question → Memory → Result
ask_of plan question m =
    let a = m.areas in
    result (answer_to plan a.links a.marks m.out question) a m.octets (written_for plan a.links a.marks m.out question)
