-- `changeback_pairs::sources_of` meets its contract: each turn looks at one pair.
-- Assumes nothing.
use mathlib.Core.Path.{ap, ◌∙◌}
use mathlib.Core.Bool.{false}
use Prim.Native.Nat.{ℕ, ◌*◌}
use Rattle.plan_words.specs.Words.{plan_at}
use Rattle.route_choice.specs.Which.{none}
use Rattle.changeback_pairs.specs.Pairs.{sources, sources_from}
use Rattle.changeback_pairs.proofs.Coming.{sources_first, sources_next, sources_last}
use Rattle.changeback_pairs.proofs.sources_of.Goals as goal

pub loop-pair-init : goal.loop-pair-init
loop-pair-init c =
    let a = c.args in
    sources_first (plan_at a.plan.now) a.before.now a.after.now a.marks.now a.link (16 * c.given_of-pair-end.result) (sources none false)

pub loop-pair-preserved : goal.loop-pair-preserved
loop-pair-preserved c =
    let l = c.loop-pair in
    let came = c.came_from-from in
    let next = c.with_source-known in
    let a = c.args in
    sources_next (plan_at a.plan.now) a.before.now a.after.now a.marks.now a.link l.pair _ came.result l.known
    next.result c.loop-pair-test.true came.ensures next.ensures
    ∙ l.invariant

pub returns : goal.returns
returns c =
    let l = c.loop-pair in
    let a = c.args in
    sources_last (plan_at a.plan.now) a.before.now a.after.now a.marks.now a.link l.pair _ l.known c.loop-pair-test.false
    ∙ l.invariant
    ∙ ap
    (λ (n : ℕ). sources_from (plan_at a.plan.now) a.before.now a.after.now a.marks.now a.link 0 (16 * n) (sources none false))
    c.given_of-pair-end.ensures
