-- The rows of the table that can apply to each question, in the table's order.
use Rattle.std.specs.Prelude.{ℕ, not, List, [], ◌∷◌, ltb, length}
use Rattle.plan.specs.declared.data.Plan.{Plan}
use Rattle.replies.specs.Reply.{Row, row}
use Rattle.node.specs.declared.ask.Question.{Question}
use Rattle.node.specs.declared.ask.Question.TheVariants.{RouteList}

-- the route list: an output of 4,096 octets, and a node
abbrev pub route_list_rows : Plan → List ℕ → List Row
route_list_rows plan out = row 1 (ltb (length out) 4096) ∷ row 2 (not plan.given) ∷ []

-- every question
unfoldable pub asked_rows : Plan → List ℕ → Question → List Row
asked_rows plan out RouteList = route_list_rows plan out
