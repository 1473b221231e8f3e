-- `route_list::list::put_words` meets its contract. The loop's invariant: the words that are left, laid behind those written, make
-- the row, and they have room.
-- Assumes nothing.
use mathlib.Core.Path.{sym, ap, ◌∙◌}
use mathlib.Core.List.{[], ◌∷◌, ◌++◌}
use Prim.Native.Nat.{ℕ, ◌+◌, ◌-◌, ◌≤◌}
use native.Mathlib.Omega.{arith}
use lib.ListN.{length}
use Rattle.plan_words.specs.Words.{plan_at}
use Rattle.text.specs.Part.{lf, tab}
use Rattle.route_list.specs.RouteList.{in_row, link_word, word_of}
use Rattle.route_list.proofs.Laid.{left_on, left_last}
use Rattle.route_list.proofs.Lines.{word_few, row_next, row_end}
use Rattle.route_list.proofs.list.put_words.Goals as goal

pub loop-sls-preserved : goal.loop-sls-preserved
loop-sls-preserved c =
    let done = c.put_word-end.ensures in
    let l = c.loop-sls in
    let a = c.args in
    let word = word_of a.links.now a.marks.now (plan_at a.plan.now) a.destination in
    let link = c.choose-link.result in
    let few : length (link_word link) ≤ 2 = word_few link in
    let rest = in_row word (l.sls + 1) (16 - (l.sls + 1)) in
    let next = row_next word l.sls (omega arith) in
    let same = ap (λ (link : ℕ). (tab ∷ link_word link) ++ rest) (sym c.choose-link.ensures) in (
      omega (arith, ap length done.out_after),
      left_on l.invariant.1 (tab ∷ link_word link) rest _ _ (next ∙ same) (omega (arith, l.invariant.0)) (done.value, done.out_after),
    )

pub returns : goal.returns
returns c =
    let l = c.loop-sls in
    let a = c.args in
    let word = word_of a.links.now a.marks.now (plan_at a.plan.now) a.destination in
    let whole =
    left_last l.invariant.1 (lf ∷ []) _ _ (row_end word l.sls (omega arith)) (c.put_end.ensures.value, c.put_end.ensures.out_after)
    in
    record { value = whole.0; out_after = whole.1 }
