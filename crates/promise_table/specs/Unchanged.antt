-- The table's column "State and lent areas".
use Rattle.std.specs.Prelude.{ℕ, Bool, cond, ◌||◌, eqb}
use Rattle.plan.specs.declared.data.Plan.{Plan}
use Rattle.wire.specs.declared.header.Label.{Label}
use Rattle.replies.specs.Areas.{Areas, with_marks}
use Rattle.numbers.specs.Taken.{with_taken}
use Rattle.management_making.specs.Make.{held_in, with_held, made}
use Rattle.discrimination.specs.declared.Came.{Came}
use Rattle.discrimination.specs.Sorted.{of_passed}
use Rattle.passing_passage.specs.Passage.{prohibited_to, with_t8}
use Rattle.node.specs.Memory.{Memory, memory}
use Rattle.promise_table.specs.Received.{makes_tfp}

-- 1, 2, 5, 6, 7, 8, 10: "unchanged" (R48, D1)
abbrev pub leaves_all : ℕ → Bool
leaves_all reply =
    eqb reply 1
    || (eqb reply 2 || (eqb reply 5 || (eqb reply 6 || (eqb reply 7 || (eqb reply 8 || eqb reply 10)))))

-- 3, 4, 9, 11: from a link "taken, dropped", or "taken, no effect" (R52)
abbrev pub is_dropped : ℕ → Bool
is_dropped reply = eqb reply 3 || (eqb reply 4 || (eqb reply 9 || eqb reply 11))

-- reply 9: "TFP perhaps" (R55); "with a TFP made, T8 starts" (R72). Where none is made, all stays as it was
abbrev pub with_tfp : Plan → ℕ → ℕ → Areas → Areas
with_tfp plan link x a =
    let due = makes_tfp plan a link x in
    with_marks
    (with_held a (cond due (made plan a.links a.marks (prohibited_to plan link x) (held_in a)) (held_in a)))
    (cond due (with_t8 plan a.marks x) a.marks)

-- only a message for another point is replied 9
unfoldable pub with_tfp_of : Plan → ℕ → Came → Areas → Areas
with_tfp_of plan link came a = of_passed a (λ (label : Label). with_tfp plan link label.dpc a) came

-- what a message from a link leaves, by its reply other than 0: all "unchanged" (R48), or "\"Taken\" moves that link's last received FSN on
-- and changes nothing else, but for that TFP and its T8" (R62)
abbrev pub left_by : Plan → ℕ → ℕ → Came → Memory → ℕ → Memory
left_by plan link fsn came m reply =
    let a = m.areas in
    cond (leaves_all reply) m
    (memory (with_taken link fsn (cond (eqb reply 9) (with_tfp_of plan link came a) a)) m.octets m.out)
