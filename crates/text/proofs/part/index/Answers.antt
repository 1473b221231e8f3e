use Rattle.std.proofs.Common.{arith, ◌≡◌, length}
use Rattle.text.proofs.Index.{index_here, index_past, index_none}
use Rattle.text.proofs.part.index.Goals as goal

pub returns-then-x-mark : goal.returns-then-x-mark
returns-then-x-mark c = index_here _ _ _ c.loop-i-test.true c.if-x-mark.true c.loop-i.invariant

pub loop-i-preserved : goal.loop-i-preserved
loop-i-preserved c = index_past _ _ _ c.loop-i-test.true c.if-x-mark.false c.loop-i.invariant

pub returns : goal.returns
returns c =
    let all : c.loop-i.i ≡ length c.args.text.now = omega arith in
    index_none _ _ (rw all at c.loop-i.invariant)
