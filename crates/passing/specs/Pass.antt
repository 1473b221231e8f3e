-- A message for another point that came over a link: queued on its link or held apart; or, where that can't be reached, reply 9, with a
-- TFP perhaps.
use Rattle.std.specs.Prelude.{ℕ, cond, List}
use Rattle.plan.specs.declared.data.Plan.{Plan}
use Rattle.wire.specs.declared.header.Label.{Label}
use Rattle.replies.specs.Reply.{plain, done}
use Rattle.replies.specs.Areas.{Areas, Outcome, outcome, judged, with_marks}
use Rattle.management_making.specs.Make.{is_made, with_made, makes_reply}
use Rattle.passing_passage.specs.Passage.{unreachable, place_reply, queued, octets_queued, prohibited_to, tells, with_t8}

-- "with a TFP made, T8 starts" (R72)
unfoldable pub marks_told : Plan → Areas → ℕ → ℕ → List ℕ
marks_told plan a arriving x =
    cond (is_made plan a.links a.marks a.spans a.arrivals (prohibited_to plan arriving x))
    (with_t8 plan a.marks x)
    a.marks

-- reply 9 to a message from a link, or "8 or 10 is given in place of 9 where its TFP finds no place or number" (R7, R55, R61, R70)
unfoldable pub not_reached : Plan → ℕ → ℕ → Areas → Outcome
not_reached plan arriving x a =
    cond (tells plan a.marks x)
    (judged (makes_reply plan (prohibited_to plan arriving x) a)
    (outcome (plain 9) (with_marks (with_made plan (prohibited_to plan arriving x) a) (marks_told plan a arriving x)))
    a)
    (outcome (plain 9) a)

-- a message for another point that came over a link
unfoldable pub passed : Plan → ℕ → Label → ℕ → Areas → Outcome
passed plan arriving label size a =
    cond (unreachable plan a label)
    (not_reached plan arriving label.dpc a)
    (judged (place_reply a) (outcome (done 0) (queued plan a label size)) a)

-- the octets after it
unfoldable pub octets_passed : Plan → Label → Areas → List ℕ → List ℕ → List ℕ
octets_passed plan label a octets message = cond (unreachable plan a label) octets (octets_queued a octets message)
