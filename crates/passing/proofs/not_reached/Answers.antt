-- `passing::not_reached` meets its contract: all as it was with no TFP due, and else by what the TFP finds.
-- Assumes nothing.
use mathlib.Core.Path.{◌≡◌, sym, ◌∙◌}
use mathlib.Core.Bool.{true, false}
use Rattle.plan_words.specs.Words.{plan_at}
use Rattle.replies.specs.Areas.{areas}
use Rattle.management_making.specs.Make.{held}
use Rattle.passing.specs.Pass.{marks_told}
use Rattle.passing.proofs.Unreached.{none_due, asked, not_told, marks_are, is_told}
use Rattle.passing.proofs.not_reached.Goals as goal
use Rattle.passing.proofs.not_reached.Goals.{then-made, else-made}

pub returns-then-not-due : goal.returns-then-not-due
returns-then-not-due c =
    let a = c.args in
    none_due (plan_at a.plan.now) (areas a.links.now a.marks.now a.spans.now a.rings.now a.rows.now a.arrivals.now a.reports.now)
    a.arriving a.x (sym c.tells-due.ensures ∙ c.if-not-due.true) c.refused.result c.refused.ensures

pub returns-in-Err : goal.returns-in-Err
returns-in-Err c =
    let a = c.args in
    let draft = c.prohibited_to-told in
    let m = c.make in
    let so =
    asked (plan_at a.plan.now) (areas a.links.now a.marks.now a.spans.now a.rings.now a.rows.now a.arrivals.now a.reports.now)
    a.arriving a.x (sym c.tells-due.ensures ∙ c.if-not-due.false) draft.result draft.ensures m.result m.new.spans m.new.rings m.new.rows m.new.arrivals
    (m.ensures.value, m.ensures.number, m.ensures.arrivals_value)
    in
    not_told (plan_at a.plan.now) (areas a.links.now a.marks.now a.spans.now a.rings.now a.rows.now a.arrivals.now a.reports.now)
    a.arriving a.x m.result (held m.new.spans m.new.rings m.new.rows m.new.arrivals) so c.in-Err.refusal c.in-Err.is c.refused-in-Err.result c.refused-in-Err.ensures

pub returns : goal.returns
returns c =
    let a = c.args in
    let draft = c.prohibited_to-told in
    let m = c.make in
    let so =
    asked (plan_at a.plan.now) (areas a.links.now a.marks.now a.spans.now a.rings.now a.rows.now a.arrivals.now a.reports.now)
    a.arriving a.x (sym c.tells-due.ensures ∙ c.if-not-due.false) draft.result draft.ensures m.result m.new.spans m.new.rings m.new.rows m.new.arrivals
    (m.ensures.value, m.ensures.number, m.ensures.arrivals_value)
    in
    let by_made =
    marks_are (plan_at a.plan.now) (areas a.links.now a.marks.now a.spans.now a.rings.now a.rows.now a.arrivals.now a.reports.now)
    a.arriving a.x m.result (held m.new.spans m.new.rings m.new.rows m.new.arrivals) so c.in-Ok.made c.in-Ok.is
    in
    let flags : c.if-made.marks
    ≡ marks_told (plan_at a.plan.now) (areas a.links.now a.marks.now a.spans.now a.rings.now a.rows.now a.arrivals.now a.reports.now) a.arriving a.x =
    elim c.if-made.branch [ then-made w ↦ w.marks-is ∙ w.start_t8.ensures ∙ by_made true w.if-made.true | else-made w ↦ w.marks-is ∙ by_made false w.if-made.false ]
    in
    is_told (plan_at a.plan.now) (areas a.links.now a.marks.now a.spans.now a.rings.now a.rows.now a.arrivals.now a.reports.now)
    a.arriving a.x m.result (held m.new.spans m.new.rings m.new.rows m.new.arrivals) so
    c.in-Ok.made c.in-Ok.is c.if-made.marks flags c.refused-2.result c.refused-2.ensures
